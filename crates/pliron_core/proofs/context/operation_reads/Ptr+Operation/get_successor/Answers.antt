use Rattle.std.proofs.Common.{◌≡◌, Some, rules}
use Rattle.std.specs.List.{slice_get}
use Rattle.pliron_core.specs.Tree.{successors_of}
use Rattle.pliron_core.proofs.MemberLemmas.{in_slice}
use Rattle.pliron_core.proofs.context.operation_reads.Ptr+Operation.get_successor.Goals as goal

pub returns-clause-liveness : goal.returns-clause-liveness
returns-clause-liveness c =
    let is : slice_get (successors_of c.args.ctx.now.tree c.args.self) c.args.i ≡ Some c.new.result = search rules in
    c.well_formed-2.ensures.tree.joined.successors c.args.self c.new.result (in_slice _ _ _ is)
