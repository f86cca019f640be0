use Rattle.std.proofs.Common.{◌≡◌, Some}
use Rattle.pliron_core.specs.declared.uses.Use.{Use}
use Rattle.pliron_core.specs.Tree.{uses_of, parent_of}
use Rattle.pliron_core.proofs.ContainedLemmas.{ArePassed}
use Rattle.pliron_opt_rotate.proofs.covering.is_led_from.Given as goal

abbrev pub invariant-loop-i : goal.invariant-loop-i
invariant-loop-i l = ArePassed (λ (one : Use). parent_of l.ctx.tree one.user ≡ Some l.header → ⊥) (uses_of l.ctx.block_uses l.block) l.i
