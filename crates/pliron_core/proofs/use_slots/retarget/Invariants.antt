use Rattle.std.proofs.Common.{◌≡◌, ℕ, length, vec_capacity}
use Rattle.std.specs.Option.{option_map}
use Rattle.pliron_core.specs.UseSlots.{at, retarget_slot}
use Rattle.pliron_core.proofs.use_slots.retarget.Given as goal

abbrev pub invariant-loop-k : goal.invariant-loop-k
invariant-loop-k l = record {
  each : (u p : ℕ) → at l.places.items u p ≡ option_map (retarget_slot l.old l.new l.first l.k) (at l.fn.places.items u p);
  len : length l.places.items ≡ length l.fn.places.items;
  capacity : vec_capacity l.places ≡ vec_capacity l.fn.places;
}
