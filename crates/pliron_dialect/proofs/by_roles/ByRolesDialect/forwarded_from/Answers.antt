use Rattle.std.proofs.Common.{◌<◌, length, arith, tests}
use Rattle.pliron_core.specs.Tree.{successors_of}
use Rattle.pliron_dialect.proofs.BranchReads.{forwarded_once}
use Rattle.pliron_dialect.proofs.by_roles.ByRolesDialect.forwarded_from.Goals as goal

pub returns-in-Some : goal.returns-in-Some
returns-in-Some g c =
    let within : c.edge_near-edge.result < length (successors_of c.args.ctx.now.tree c.args.op) = omega arith in
    forwarded_once _ _ _ c.args.ctx.now.tree c.args.op c.args.place c.edge_near-edge.result c.in-Some.index c.places_at.result.first c.places_at.result.count c.places_at.ensures.places c.requires.branch within c.in-Some.ensures.0 c.in-Some.ensures.1
