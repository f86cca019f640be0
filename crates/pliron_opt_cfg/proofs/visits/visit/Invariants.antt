use Rattle.std.proofs.Common.{◌+◌, ◌-◌, ◌++◌, length}
use Rattle.pliron_core.specs.Tree.{In}
use Rattle.pliron_opt_cfg.specs.Internal.Seen.{blocks_postponed}
use Rattle.pliron_opt_cfg.proofs.Visiting.{IsVisiting}
use Rattle.pliron_opt_cfg.proofs.visits.visit.Given as goal

abbrev pub invariant-loop-region : goal.invariant-loop-region
invariant-loop-region l = IsVisiting l.ctx.tree (λ r. In r l.starts) l.worklist.seen.keys l.worklist.waiting.items l.regions.items (l.blocks.items ++ blocks_postponed l.postponed.items)

abbrev pub decreases-loop-region : goal.decreases-loop-region
decreases-loop-region l = length l.ctx.tree.slots + length l.worklist.waiting.items - length l.worklist.seen.keys
