use Rattle.std.proofs.Common.{get_or, ap, ◌∙◌, ◌+◌}
use Rattle.pliron_show_places.specs.Comments.{is_comment}
use Rattle.pliron_show_places.proofs.CommentLemmas.{blanked_more, blanked_whole, rest_of}
use Rattle.pliron_show_places.proofs.comments.blank_comments.Goals as goal

pub loop-at-preserved : goal.loop-at-preserved
loop-at-preserved c = blanked_more c.args.text.now c.loop-at.blank.items c.push.new.self.items c.loop-at.inside c.is_comment-inside.result c.loop-at.at c.shown_byte.result c.loop-at-test.true c.loop-at.invariant (c.is_comment-inside.ensures ∙ ap (λ rest. is_comment c.loop-at.inside (get_or c.args.text.now c.loop-at.at 0) rest) (rest_of c.args.text.now (c.loop-at.at + 1))) c.shown_byte.ensures c.in_ok-push.ensures.items

pub returns : goal.returns
returns c = blanked_whole c.args.text.now c.loop-at.blank.items c.loop-at.inside c.loop-at.at c.loop-at-test.false c.loop-at.invariant
