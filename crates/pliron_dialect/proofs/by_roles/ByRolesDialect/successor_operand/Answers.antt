use Rattle.std.specs.List.{range_with_len}
use Rattle.pliron_dialect.proofs.BranchReads.{forwarded_at_read}
use Rattle.pliron_dialect.proofs.by_roles.ByRolesDialect.successor_operand.Goals as goal

pub returns-clause-ok : goal.returns-clause-ok
returns-clause-ok g c = forwarded_at_read _ _ _ c.args.ctx.now.tree c.args.op c.args.i c.args.j (range_with_len c.places_at-places.result.first c.places_at-places.result.count) c.operand_among.result c.places_at-places.ensures.places c.operand_among.ensures
