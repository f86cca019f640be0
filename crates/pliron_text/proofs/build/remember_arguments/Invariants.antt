use Rattle.std.proofs.Common.{◌≡◌, ◌+◌, length}
use Rattle.pliron_core.specs.Tree.{arguments_of}
use Rattle.pliron_text.specs.Building.{AddsOnly}
use Rattle.pliron_text.proofs.build.remember_arguments.Given as goal

abbrev pub invariant-loop-i : goal.invariant-loop-i
invariant-loop-i l = AddsOnly l.fn.values.items l.values.items (arguments_of l.ctx.tree l.block) × (length l.values.items ≡ length l.fn.values.items + l.i)
