use Rattle.std.proofs.Common.{ℕ, take}
use Rattle.pliron_core.specs.Tree.{In, IsWithin}
use Rattle.pliron_laws.specs.Answers.{HeadPasses}
use Rattle.pliron_opt_symbols.proofs.traced.are_traced.Given as goal

abbrev pub invariant-loop-function : goal.invariant-loop-function
invariant-loop-function g l = (f k : ℕ) → In f (take l.function-index l.functions) → IsWithin l.ctx.tree f k → HeadPasses (g.P.SymbolPolicy.is_traced l.policy) l.ctx.tree k
