use Rattle.std.proofs.Common.{subst, sym}
use Rattle.pliron_core.specs.Counts.{AreMarks}
use Rattle.pliron_core.proofs.CountLemmas.{marks-small}
use Rattle.pliron_core.proofs.counted_slots.count_places.Goals as goal

pub of_marks-requires : goal.of_marks-requires
of_marks-requires c = subst AreMarks (sym c.in_ok-marks_of.ensures) (marks-small c.index-2.result.now)
