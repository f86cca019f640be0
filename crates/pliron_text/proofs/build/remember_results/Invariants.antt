use Rattle.std.proofs.Common.{◌≡◌, ◌+◌, length}
use Rattle.pliron_core.specs.Tree.{results_of}
use Rattle.pliron_text.specs.Building.{AddsOnly}
use Rattle.pliron_text.proofs.build.remember_results.Given as goal

abbrev pub invariant-loop-i : goal.invariant-loop-i
invariant-loop-i l = AddsOnly l.fn.values.items l.values.items (results_of l.ctx.tree l.op) × (length l.values.items ≡ length l.fn.values.items + l.i)
