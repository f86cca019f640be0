use Rattle.std.proofs.Common.{◌≡◌, ◌+◌, ◌≤◌, length, take}
use Rattle.std.specs.List.{sum}
use Rattle.pliron_core.specs.Counts.{level}
use Rattle.pliron_core.proofs.slot_counts.SlotCounts.rank.Given as goal

abbrev pub invariant-loop-k : goal.invariant-loop-k
invariant-loop-k l = record {
  within : l.end ≤ length (level l.self-inside.levels.items l.k);
  count : l.count + sum (take l.end (level l.self-inside.levels.items l.k)) ≡ sum (take l.place (level l.self-inside.levels.items 0));
}
