use Rattle.std.proofs.Common.{ℕ}
use Rattle.pliron_core.specs.Tree.{In, arguments_of}
use Rattle.pliron_core.proofs.ContainedLemmas.{ArePassed}
use Rattle.pliron_opt_cfg.proofs.merging.pairs.has_argument.Given as goal

abbrev pub invariant-loop-value : goal.invariant-loop-value
invariant-loop-value l = ArePassed (λ (v : ℕ). In v (arguments_of l.ctx.tree l.block) → ⊥) l.values l.value-index
