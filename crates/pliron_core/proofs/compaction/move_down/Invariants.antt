use Rattle.std.proofs.Common.{◌≡◌, vec_len, vec_capacity}
use Rattle.pliron_core.proofs.CompactLemmas.{IsMoved}
use Rattle.pliron_core.proofs.compaction.move_down.Given as goal

abbrev pub invariant-loop-from : goal.invariant-loop-from
invariant-loop-from l = record {
  moved : IsMoved l.fn.places.items l.places.items l.fn.uses.items l.uses.items l.user l.from l.taken;
  rooms : (vec_len l.places ≡ vec_len l.fn.places) × (vec_capacity l.places ≡ vec_capacity l.fn.places) × (vec_len l.uses ≡ vec_len l.fn.uses) × (vec_capacity l.uses ≡ vec_capacity l.fn.uses);
}
