use Rattle.std.proofs.Common.{◌≡◌, map, take}
use Rattle.pliron_show_places.specs.Places.{beginning_of}
use Rattle.pliron_show_places.proofs.operation_ranges.operation_places.Given as goal

abbrev pub invariant-loop-part : goal.invariant-loop-part
invariant-loop-part l = map beginning_of l.places.items ≡ map beginning_of (take l.part-index l.parts.operations.items)
