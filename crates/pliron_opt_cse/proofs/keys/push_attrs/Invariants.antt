use Rattle.std.proofs.Common.{◌≡◌, ◌++◌, take}
use Rattle.pliron_opt_cse.specs.Keys.{attrs_words}
use Rattle.pliron_opt_cse.proofs.keys.push_attrs.Given as goal

abbrev pub invariant-loop-i : goal.invariant-loop-i
invariant-loop-i l = l.words.items ≡ l.fn.words.items ++ attrs_words (take l.i l.attrs)
