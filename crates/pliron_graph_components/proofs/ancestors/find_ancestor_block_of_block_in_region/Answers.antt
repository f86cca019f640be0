use Rattle.std.proofs.Common.{Some, sym, ap, ◌∙◌}
use Rattle.pliron_core.proofs.EdgeLemmas.{same_key}
use Rattle.pliron_core.proofs.NextLemmas.{keys_differ}
use Rattle.pliron_graph_components.specs.Ancestors.{IsDirectlyIn}
use Rattle.pliron_graph_components.proofs.AncestorLemmas.{block_itself, block_further}
use Rattle.pliron_graph_components.proofs.ancestors.find_ancestor_block_of_block_in_region.Goals as goal
use Rattle.pliron_graph_components.proofs.ancestors.find_ancestor_block_of_block_in_region.Goals.{In_ok-own}

-- the block stands directly in its own region
own : (c : In_ok-own) → IsDirectlyIn c.args.ctx.now.tree c.in_ok-own.own c.args.block
own c = sym c.get_parent_region.ensures.region ∙ c.in_ok-own.was

pub returns-then-eq-clause-nearest : goal.returns-then-eq-clause-nearest
returns-then-eq-clause-nearest c =
    let at = goal.at.returns-then-eq-clause-nearest c in
    block_itself c.args.ctx.now.tree c.well_formed-2.ensures.tree c.args.region c.args.block (own at.In_ok-own ∙ ap Some (same_key c.in_ok-own.own c.args.region c.if-eq.ensures))

pub returns-clause-nearest : goal.returns-clause-nearest
returns-clause-nearest c =
    let at = goal.at.returns-clause-nearest c in
    block_further c.args.ctx.now.tree c.well_formed-2.ensures.tree c.args.region c.args.block c.in_ok-own.own c.get_parent_op.result c.find_ancestor_block_of_op_in_region.result (own at.In_ok-own) (keys_differ c.in_ok-own.own c.args.region c.if-eq.ensures) c.get_parent_op.ensures.parent c.find_ancestor_block_of_op_in_region.ensures.nearest
