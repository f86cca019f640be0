use Rattle.std.proofs.Common.{◌≡◌, take}
use Rattle.pliron_rewrite_calls.proofs.copying.copy_head.Given as goal

abbrev pub invariant-loop-i : goal.invariant-loop-i
invariant-loop-i l = l.attrs.items ≡ take l.i l.head.attrs
