use Rattle.pliron_core.proofs.LeftLemmas.{contents_left}
use Rattle.pliron_core.proofs.contents.Contents.new.Goals as goal

pub returns : goal.returns
returns c = contents_left c.args.ctx.now.tree c.well_formed-2.ensures.tree c.args.root c.next_in_preorder-next.result c.next_in_preorder-next.ensures.next
