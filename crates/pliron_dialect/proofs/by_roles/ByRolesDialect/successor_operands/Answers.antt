use Rattle.std.specs.List.{range_with_len}
use Rattle.pliron_dialect.proofs.BranchReads.{forwarded_read}
use Rattle.pliron_dialect.proofs.by_roles.ByRolesDialect.successor_operands.Goals as goal

pub returns-clause-ok : goal.returns-clause-ok
returns-clause-ok g c = forwarded_read _ _ _ c.args.ctx.now.tree c.args.op c.args.i (range_with_len c.places_at-places.result.first c.places_at-places.result.count) c.in_ok-values.values.items c.places_at-places.ensures.places c.in_ok-values.ensures
