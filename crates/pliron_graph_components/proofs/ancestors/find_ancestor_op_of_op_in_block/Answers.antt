use Rattle.pliron_graph_components.specs.Ancestors.{IsAtOrAbove, IsDirectlyInBlock}
use Rattle.pliron_graph_components.proofs.AncestorLemmas.{above_smaller, climb_on, climb_found, climb_none, fails}
use Rattle.pliron_graph_components.proofs.ancestors.find_ancestor_op_of_op_in_block.Goals as goal

pub returns-then-is_directly_in_block-clause-nearest : goal.returns-then-is_directly_in_block-clause-nearest
returns-then-is_directly_in_block-clause-nearest c =
    let t = c.args.ctx.now.tree in
    climb_found t c.well_formed-2.ensures.tree (IsDirectlyInBlock t c.args.block) (IsAtOrAbove t c.args.op) c.loop-at.at c.in-Some.here c.in-Some.is (c.is_directly_in_block.ensures.0 c.if-is_directly_in_block.true) c.loop-at.invariant

pub loop-at-smaller : goal.loop-at-smaller
loop-at-smaller c =
    above_smaller c.args.ctx.now.tree c.well_formed-2.ensures.tree c.loop-at.at c.in-Some.here c.get_parent_op-at.result c.in-Some.is c.get_parent_op-at.ensures.holder

pub loop-at-preserved : goal.loop-at-preserved
loop-at-preserved c =
    let t = c.args.ctx.now.tree in
    climb_on t c.well_formed-2.ensures.tree (IsDirectlyInBlock t c.args.block) c.args.op c.loop-at.at c.in-Some.here c.get_parent_op-at.result c.in-Some.is c.get_parent_op-at.ensures.holder (fails c.is_directly_in_block.result c.if-is_directly_in_block.false c.is_directly_in_block.ensures) c.loop-at.invariant

pub returns-clause-nearest : goal.returns-clause-nearest
returns-clause-nearest c =
    let t = c.args.ctx.now.tree in
    climb_none t c.well_formed-2.ensures.tree (IsDirectlyInBlock t c.args.block) (IsAtOrAbove t c.args.op) c.loop-at.at c.in_default.is c.loop-at.invariant
