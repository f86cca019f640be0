use Rattle.std.proofs.Common.{◌≡◌, ◌+◌, ◌<◌, take, get_or}
use Rattle.std.specs.List.{sum}
use Rattle.pliron_core.specs.Counts.{level}
use Rattle.pliron_core.proofs.slot_counts.SlotCounts.select.Given as goal

abbrev pub invariant-loop-k : goal.invariant-loop-k
invariant-loop-k l = record {
  rest : l.rest < get_or (level l.self-inside.levels.items l.k) l.place 0;
  before : sum (take l.place (level l.self-inside.levels.items l.k)) + l.rest ≡ l.i;
}
