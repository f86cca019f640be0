use Rattle.std.proofs.Common.{◌≡◌, ◌++◌, length, take}
use Rattle.pliron_core.proofs.inline_list.InlineList.extend.Given as goal

abbrev pub invariant-loop-i : goal.invariant-loop-i
invariant-loop-i g l = (l.self ≡ l.fn.self ++ take l.i l.other) × (l.before ≡ length l.fn.self)
