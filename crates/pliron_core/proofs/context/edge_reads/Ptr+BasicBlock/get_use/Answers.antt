use Rattle.std.proofs.Common.{◌≡◌, Some, slice_get, rules}
use Rattle.pliron_core.specs.Tree.{uses_of}
use Rattle.pliron_core.proofs.EdgeLemmas.{successor-user}
use Rattle.pliron_core.proofs.context.edge_reads.Ptr+BasicBlock.get_use.Goals as goal

pub returns-clause-liveness : goal.returns-clause-liveness
returns-clause-liveness c =
    let is : slice_get (uses_of c.args.ctx.now.block_uses c.args.self) c.args.i ≡ Some (record { user = c.new.result; place = c.get_use-user.result.place }) = search rules in
    successor-user c.args.ctx.now.tree c.well_formed-2.ensures.tree.joined c.new.result c.get_use-user.result.place c.args.self (c.well_formed-2.ensures.uses.block_uses.listed _ _ _ is)
