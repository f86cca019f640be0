use Rattle.std.proofs.Common.{take}
use Rattle.pliron_show_places.specs.Laid.{laid_words, IsLayoutOf}
use Rattle.pliron_show_places.proofs.layout.pretty.Given as goal

abbrev pub invariant-loop-i : goal.invariant-loop-i
invariant-loop-i l = IsLayoutOf l.layout.text.items l.layout.parts l.layout.breaks (laid_words (take l.i l.text))
