use Rattle.std.proofs.Common.{◌<◌, ◌^◌, length}
use Rattle.pliron_core.specs.Counts.{AreMarks}
use Rattle.pliron_core.proofs.LevelLemmas.{IsBuilt}
use Rattle.pliron_core.proofs.slot_counts.SlotCounts.of_marks.Given as goal

abbrev pub invariant-loop-alloc : goal.invariant-loop-alloc
invariant-loop-alloc l = record {
  built : IsBuilt l.fn.row l.levels.items l.below;
  marks : AreMarks l.fn.row;
  few : length l.fn.row < 2 ^ 64;
}

abbrev pub decreases-loop-alloc : goal.decreases-loop-alloc
decreases-loop-alloc l = length l.below
