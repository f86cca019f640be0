use Rattle.std.proofs.Common.{◌≡◌, take}
use Rattle.pliron_core.specs.Counts.{pairs}
use Rattle.pliron_core.proofs.slot_counts.sums_of.Given as goal

abbrev pub invariant-loop-q : goal.invariant-loop-q
invariant-loop-q l = l.sums ≡ take l.q (pairs l.below)
