use Rattle.std.proofs.Common.{◌≡◌}
use Rattle.pliron_core.specs.UseSlots.{places_from}
use Rattle.pliron_core.proofs.use_slots.new_places.Given as goal

abbrev pub invariant-loop-i : goal.invariant-loop-i
invariant-loop-i l = l.row ≡ places_from l.first l.i
