use Rattle.std.proofs.Common.{ℕ, take}
use Rattle.pliron_core.specs.Tree.{In}
use Rattle.pliron_opt_cfg.specs.Internal.Contents.{IsUsedWithin}
use Rattle.pliron_opt_cfg.proofs.removal.uses.check_values.Given as goal

abbrev pub invariant-loop-value : goal.invariant-loop-value
invariant-loop-value l = (v : ℕ) → In v (take l.value-index l.values) → IsUsedWithin l.ctx.tree l.inside.keys v
