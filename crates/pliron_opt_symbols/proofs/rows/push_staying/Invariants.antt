use Rattle.pliron_opt_symbols.specs.Kept.{symbol_reads}
use Rattle.pliron_opt_symbols.proofs.LoopLemmas.{StayingSoFar}
use Rattle.pliron_opt_symbols.proofs.rows.push_staying.Given as goal

abbrev pub invariant-loop-place : goal.invariant-loop-place
invariant-loop-place g l = StayingSoFar (symbol_reads g.D.InliningDialect.callee (g.P.SymbolPolicy.is_private l.policy) (g.P.SymbolPolicy.is_traced l.policy)) l.ctx.tree l.table.functions l.fn.row.items l.row.items l.place
