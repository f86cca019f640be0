use Rattle.std.proofs.Common.{◌≡◌, ◌+◌, ◌++◌, [], vec_len, vec_capacity, replicate}
use Rattle.pliron_core.specs.Writes.{region_slots}
use Rattle.pliron_core.proofs.context.create.add_regions.Given as goal

abbrev pub invariant-loop-index : goal.invariant-loop-index
invariant-loop-index l = record {
  slots : l.slots.items ≡ l.fn.slots.items ++ region_slots l.op l.index;
  len : vec_len l.slots ≡ vec_len l.fn.slots + l.index;
  capacity : vec_capacity l.slots ≡ vec_capacity l.fn.slots;
  lists : l.layout.lists ≡ l.fn.layout.lists ++ replicate l.index [];
  owners : l.layout.owners ≡ l.fn.layout.owners;
  room : l.layout.list_room + l.index ≡ l.fn.layout.list_room;
}
