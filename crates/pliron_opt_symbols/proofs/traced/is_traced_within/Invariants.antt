use Rattle.std.proofs.Common.{ℕ, take}
use Rattle.pliron_core.specs.Tree.{In}
use Rattle.pliron_laws.specs.Answers.{HeadPasses}
use Rattle.pliron_opt_symbols.proofs.traced.is_traced_within.Given as goal

abbrev pub invariant-loop-inner : goal.invariant-loop-inner
invariant-loop-inner g l = (k : ℕ) → In k (take l.inner-index l.inner-items) → HeadPasses (g.P.SymbolPolicy.is_traced l.policy) l.ctx.tree k
