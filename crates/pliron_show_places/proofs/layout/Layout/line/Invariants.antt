use Rattle.std.proofs.Common.{◌≡◌}
use Rattle.pliron_show_places.specs.Layout.{after_blank}
use Rattle.pliron_show_places.specs.Laid.{laid_words}
use Rattle.pliron_show_places.proofs.layout.Layout.line.Given as goal

abbrev pub invariant-loop : goal.invariant-loop
invariant-loop l = laid_words l.self.text.items ≡ after_blank (laid_words l.fn.self.text.items)
