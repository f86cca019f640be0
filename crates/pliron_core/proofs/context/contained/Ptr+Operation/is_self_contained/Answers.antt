use Rattle.pliron_core.proofs.ContainedLemmas.{contained-from, contained-to}
use Rattle.pliron_core.proofs.context.contained.Ptr+Operation.is_self_contained.Goals as goal

pub returns : goal.returns
returns c = (
  λ e. contained-from c.args.ctx.now.tree c.well_formed-2.ensures.tree c.args.self (c.keeps_preorder.ensures.0 e),
  λ contained. c.keeps_preorder.ensures.1 (contained-to c.args.ctx.now.tree c.well_formed-2.ensures.tree c.args.self contained),
)
