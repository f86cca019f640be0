use Rattle.std.proofs.Common.{◌≡◌, ◌++◌, drop, false}
use Rattle.pliron_show_places.specs.Comments.{with_blanks}
use Rattle.pliron_show_places.proofs.comments.blank_comments.Given as goal

abbrev pub invariant-loop-at : goal.invariant-loop-at
invariant-loop-at l = l.blank.items ++ with_blanks l.inside (drop l.at l.text) ≡ with_blanks false l.text
