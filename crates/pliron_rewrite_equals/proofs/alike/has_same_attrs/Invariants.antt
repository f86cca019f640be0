use Rattle.std.proofs.Common.{◌≡◌, take}
use Rattle.pliron_rewrite_equals.proofs.alike.has_same_attrs.Given as goal

abbrev pub invariant-loop-i : goal.invariant-loop-i
invariant-loop-i l = take l.i l.first ≡ take l.i l.second
