use Rattle.pliron_core.specs.Walks.{children}
use Rattle.pliron_core.proofs.LeftLemmas.{children_left, first_held}
use Rattle.pliron_core.proofs.children.Children.new.Goals as goal

pub invariant_of-result : goal.invariant_of-result
invariant_of-result c = first_held c.args.ctx.now.tree c.well_formed-2.ensures.tree c.args.holder c.first_inside-next.result c.first_inside-next.ensures

pub returns : goal.returns
returns c = children_left c.args.ctx.now.tree c.well_formed-2.ensures.tree c.args.holder (children c.args.ctx.now.tree c.args.holder) c.first_inside-next.result c.first_inside-next.ensures
