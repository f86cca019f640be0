use Rattle.std.proofs.Common.{◌≡◌, rules}
use Rattle.pliron_core.specs.Reads.{next_of}
use Rattle.pliron_core.proofs.ReadLemmas.{next-liveness}
use Rattle.pliron_core.proofs.context.operation_reads.Ptr+Operation.get_next.Goals as goal

pub returns-clause-liveness : goal.returns-clause-liveness
returns-clause-liveness c =
    let is : c.map.result ≡ next_of c.args.ctx.now.tree c.args.self = search rules in
    next-liveness c.args.ctx.now.tree c.well_formed-2.ensures.tree c.args.self _ is
