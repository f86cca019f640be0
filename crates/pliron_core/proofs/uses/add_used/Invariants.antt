use Rattle.std.proofs.Common.{◌≡◌, ◌+◌, ◌++◌, vec_len, vec_capacity}
use Rattle.pliron_core.specs.UseSlots.{uses_by}
use Rattle.pliron_core.proofs.uses.add_used.Given as goal

abbrev pub invariant-loop-place : goal.invariant-loop-place
invariant-loop-place l = record {
  items : l.uses.items ≡ l.fn.uses.items ++ uses_by l.user l.place;
  len : vec_len l.uses ≡ vec_len l.fn.uses + l.place;
  capacity : vec_capacity l.uses ≡ vec_capacity l.fn.uses;
}
