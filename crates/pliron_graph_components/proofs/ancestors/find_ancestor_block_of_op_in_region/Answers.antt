use Rattle.pliron_graph_components.proofs.AncestorLemmas.{block_of_found, no_block}
use Rattle.pliron_graph_components.proofs.ancestors.find_ancestor_block_of_op_in_region.Goals as goal

pub returns-in_err-above-clause-nearest : goal.returns-in_err-above-clause-nearest
returns-in_err-above-clause-nearest c = no_block c.args.ctx.now.tree c.well_formed-2.ensures.tree c.args.region c.args.op c.from_residual.result c.from_residual.ensures c.in_err-above.ensures.nearest

pub returns-clause-nearest : goal.returns-clause-nearest
returns-clause-nearest c =
    block_of_found c.args.ctx.now.tree c.well_formed-2.ensures.tree c.args.region c.args.op c.in_ok-above.above c.get_parent_block.result c.get_parent_block.ensures.block c.in_ok-above.ensures.nearest
