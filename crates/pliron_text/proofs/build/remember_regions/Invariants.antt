use Rattle.std.proofs.Common.{◌≡◌, ◌+◌, length}
use Rattle.pliron_core.specs.Tree.{regions_of}
use Rattle.pliron_text.specs.Building.{AddsOnly, KeepsEntries}
use Rattle.pliron_text.proofs.build.remember_regions.Given as goal

abbrev pub invariant-loop-i : goal.invariant-loop-i
invariant-loop-i l = AddsOnly l.fn.regions.items l.regions.items (regions_of l.ctx.tree l.op) × (length l.regions.items ≡ length l.fn.regions.items + l.i) × KeepsEntries l.fn.regions.items l.regions.items
