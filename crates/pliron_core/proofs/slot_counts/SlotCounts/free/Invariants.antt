use Rattle.std.proofs.Common.{◌≡◌, ◌<◌, ◌≤◌, ℕ, length}
use Rattle.pliron_core.specs.Counts.{level, above, one_less}
use Rattle.pliron_core.proofs.slot_counts.SlotCounts.free.Given as goal

abbrev pub invariant-loop-k : goal.invariant-loop-k
invariant-loop-k l = record {
  place : l.at ≡ above l.place l.k;
  count : length l.self-inside.levels.items ≡ length l.initial.self-inside.levels.items;
  lower : (j : ℕ) → j < l.k → level l.self-inside.levels.items j ≡ one_less (level l.initial.self-inside.levels.items j) (above l.place j);
  higher : (j : ℕ) → l.k ≤ j → level l.self-inside.levels.items j ≡ level l.initial.self-inside.levels.items j;
}
