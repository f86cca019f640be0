use Rattle.pliron_graph_components.specs.Ancestors.{IsAtOrAbove, IsDirectlyInRegion}
use Rattle.pliron_graph_components.proofs.AncestorLemmas.{above_smaller, climb_on, climb_found, climb_none, fails}
use Rattle.pliron_graph_components.proofs.ancestors.find_ancestor_op_of_op_in_region.Goals as goal

pub returns-then-is_directly_in_region-clause-nearest : goal.returns-then-is_directly_in_region-clause-nearest
returns-then-is_directly_in_region-clause-nearest c =
    let t = c.args.ctx.now.tree in
    climb_found t c.well_formed-2.ensures.tree (IsDirectlyInRegion t c.args.region) (IsAtOrAbove t c.args.op) c.loop-at.at c.in-Some.here c.in-Some.is (c.is_directly_in_region.ensures.0 c.if-is_directly_in_region.true) c.loop-at.invariant

pub loop-at-smaller : goal.loop-at-smaller
loop-at-smaller c =
    above_smaller c.args.ctx.now.tree c.well_formed-2.ensures.tree c.loop-at.at c.in-Some.here c.get_parent_op-at.result c.in-Some.is c.get_parent_op-at.ensures.holder

pub loop-at-preserved : goal.loop-at-preserved
loop-at-preserved c =
    let t = c.args.ctx.now.tree in
    climb_on t c.well_formed-2.ensures.tree (IsDirectlyInRegion t c.args.region) c.args.op c.loop-at.at c.in-Some.here c.get_parent_op-at.result c.in-Some.is c.get_parent_op-at.ensures.holder (fails c.is_directly_in_region.result c.if-is_directly_in_region.false c.is_directly_in_region.ensures) c.loop-at.invariant

pub returns-clause-nearest : goal.returns-clause-nearest
returns-clause-nearest c =
    let t = c.args.ctx.now.tree in
    climb_none t c.well_formed-2.ensures.tree (IsDirectlyInRegion t c.args.region) (IsAtOrAbove t c.args.op) c.loop-at.at c.in_default.is c.loop-at.invariant
