use Rattle.std.proofs.Common.{◌≡◌, take}
use Rattle.pliron_core.specs.UseSlots.{marks}
use Rattle.pliron_core.proofs.slot_counts.marks_of.Given as goal

abbrev pub invariant-loop-i : goal.invariant-loop-i
invariant-loop-i l = l.taken ≡ marks (take l.i l.row)
