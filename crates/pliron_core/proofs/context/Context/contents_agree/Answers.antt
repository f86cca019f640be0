use Rattle.pliron_core.proofs.WalkLemmas.{exact_contents}
use Rattle.pliron_core.proofs.context.Context.contents_agree.Goals as goal

pub returns : goal.returns
returns c op = exact_contents c.args.self.now.tree c.well_formed-2.ensures.tree op
