use Rattle.std.proofs.Common.{◌≡◌, ◌<◌, ◌≤◌, ◌-◌, length}
use Rattle.pliron_core.specs.UseSlots.{targets_in}
use Rattle.pliron_core.specs.Holes.{gap_of, AreLinked, KeepRooms}
use Rattle.pliron_core.proofs.use_slots.open_gap.Given as goal

abbrev pub invariant-loop-places : goal.invariant-loop-places
invariant-loop-places l = record {
  linked : AreLinked l.places.items l.holes.items l.uses.items;
  targets : targets_in l.places.items ≡ targets_in l.fn.places.items;
  user : l.user < length l.holes.items;
  len : 0 < (gap_of l.holes.items l.user).len;
  same : (gap_of l.holes.items l.user).len ≡ (gap_of l.fn.holes.items l.user).len;
  count : length l.uses.items ≡ length l.fn.uses.items;
  rooms : KeepRooms l.fn.places l.places l.fn.holes l.holes l.fn.uses l.uses;
}

abbrev pub decreases-loop-places : goal.decreases-loop-places
decreases-loop-places l = (gap_of l.holes.items l.user).start

abbrev pub invariant-loop-places-2 : goal.invariant-loop-places-2
invariant-loop-places-2 l = record {
  linked : AreLinked l.places.items l.holes.items l.uses.items;
  targets : targets_in l.places.items ≡ targets_in l.fn.places.items;
  user : l.user < length l.holes.items;
  len : 0 < (gap_of l.holes.items l.user).len;
  same : (gap_of l.holes.items l.user).len ≡ (gap_of l.fn.holes.items l.user).len;
  start : (gap_of l.holes.items l.user).start ≤ l.i;
  count : length l.uses.items ≡ length l.fn.uses.items;
  rooms : KeepRooms l.fn.places l.places l.fn.holes l.holes l.fn.uses l.uses;
}

abbrev pub decreases-loop-places-2 : goal.decreases-loop-places-2
decreases-loop-places-2 l = l.i - (gap_of l.holes.items l.user).start
