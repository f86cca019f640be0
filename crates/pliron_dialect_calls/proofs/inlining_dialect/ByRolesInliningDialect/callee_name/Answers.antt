use Rattle.std.specs.Option.{option_copied}
use Rattle.pliron_dialect_calls.proofs.HeadReads.{name_read, no_name_read, calls_read}
use Rattle.pliron_dialect_calls.proofs.inlining_dialect.ByRolesInliningDialect.callee_name.Goals as goal

pub returns-in-Some-clause-reads : goal.returns-in-Some-clause-reads
returns-in-Some-clause-reads g c = name_read g.K.Roles.tables g.K.Calls.calls.callee_place c.args.ctx.now.tree c.args.op c.in-Some.kind c.callee_place.result (option_copied c.attribute_at.result) c.in-Some.ensures c.callee_place.ensures c.attribute_at.ensures

pub returns-in-Some-clause-calls : goal.returns-in-Some-clause-calls
returns-in-Some-clause-calls g c =
    calls_read g.K.Roles.tables c.args.ctx.now.tree c.args.op c.requires g.K.Calls.calls g.met.K.Calls.keeps_calls c.attribute_at.result
    (name_read g.K.Roles.tables g.K.Calls.calls.callee_place c.args.ctx.now.tree c.args.op c.in-Some.kind c.callee_place.result (option_copied c.attribute_at.result) c.in-Some.ensures c.callee_place.ensures c.attribute_at.ensures)

pub returns-in-None-clause-reads : goal.returns-in-None-clause-reads
returns-in-None-clause-reads g c = no_name_read g.K.Roles.tables g.K.Calls.calls.callee_place c.args.ctx.now.tree c.args.op c.in-None.ensures
