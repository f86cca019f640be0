use Rattle.std.proofs.Common.{◌≡◌, length, ◌∙◌, rules}
use Rattle.pliron_core.proofs.EdgeLemmas.{preds-below}
use Rattle.pliron_core.proofs.context.edge_reads.Ptr+BasicBlock.num_pred.Goals as goal

pub returns : goal.returns
returns c =
    let count : c.num_blocks.result ≡ length c.args.ctx.now.tree.arguments = search rules in
    c.count_below.ensures ∙ preds-below c.args.ctx.now.tree c.well_formed-2.ensures.tree c.args.self c.num_blocks.result count
