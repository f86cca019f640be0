use Rattle.std.proofs.Common.{◌≡◌, vec_len, vec_capacity}
use Rattle.pliron_core.proofs.ClearanceLemmas.{IsCleared}
use Rattle.pliron_core.proofs.clearance.vacate_all.Given as goal

abbrev pub invariant-loop-place : goal.invariant-loop-place
invariant-loop-place l = record {
  cleared : IsCleared l.fn.places.items l.places.items l.fn.uses.items l.uses.items l.user l.place;
  rooms : (vec_len l.places ≡ vec_len l.fn.places) × (vec_capacity l.places ≡ vec_capacity l.fn.places) × (vec_len l.uses ≡ vec_len l.fn.uses) × (vec_capacity l.uses ≡ vec_capacity l.fn.uses);
}
