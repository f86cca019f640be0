use Rattle.std.proofs.Common.{◌↔◌, ◌++◌, ℕ, length}
use Rattle.pliron_core.specs.Tree.{In}
use Rattle.pliron_opt_cfg.specs.Internal.Seen.{blocks_postponed}
use Rattle.pliron_opt_cfg.proofs.visits.list_postponed.Given as goal

abbrev pub invariant-loop-last : goal.invariant-loop-last
invariant-loop-last l = (b : ℕ) → In b (l.blocks.items ++ blocks_postponed l.postponed.items) ↔ In b (l.fn.blocks.items ++ blocks_postponed l.fn.postponed.items)

abbrev pub decreases-loop-last : goal.decreases-loop-last
decreases-loop-last l = length l.postponed.items
