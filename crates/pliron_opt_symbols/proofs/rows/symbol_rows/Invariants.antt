use Rattle.std.proofs.Common.{map}
use Rattle.pliron_graph_calls.specs.Names.{names_of}
use Rattle.pliron_opt_symbols.specs.Kept.{symbol_reads}
use Rattle.pliron_opt_symbols.proofs.LoopLemmas.{RowsSoFar}
use Rattle.pliron_opt_symbols.proofs.rows.symbol_rows.Given as goal

abbrev pub invariant-loop-function : goal.invariant-loop-function
invariant-loop-function g l = RowsSoFar g.D.InliningDialect.convention (symbol_reads g.D.InliningDialect.callee (g.P.SymbolPolicy.is_private l.policy) (g.P.SymbolPolicy.is_traced l.policy)) l.ctx.tree l.fn.holder l.table.functions (names_of l.table.names) l.function-index (map (λ r. r.items) l.rows.items)
