use Rattle.std.proofs.Common.{◌+◌, ◌≤◌, length}
use Rattle.pliron_show_places.proofs.isolated.operation_range.Given as goal

abbrev pub invariant-loop-word : goal.invariant-loop-word
invariant-loop-word l = (goal.iterator-loop-word).can_next l.word-iterator × ((goal.iterator-loop-word).is_finite l.word-iterator × (l.part.start + l.part.len ≤ length l.text))
