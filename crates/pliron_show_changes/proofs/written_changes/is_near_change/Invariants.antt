use Rattle.pliron_show_changes.proofs.WrittenLemmas.{NoneBefore}
use Rattle.pliron_show_changes.proofs.written_changes.is_near_change.Given as goal

abbrev pub invariant-loop-place : goal.invariant-loop-place
invariant-loop-place l = NoneBefore l.changes l.at l.place
