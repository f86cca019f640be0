use Rattle.std.proofs.Common.{◌∙◌, ap}
use Rattle.pliron_dialect.specs.Roles.{form_of}
use Rattle.pliron_dialect_calls.specs.HeadsByRole.{is_leaving}
use Rattle.pliron_dialect_calls.proofs.HeadReads.{passes_read, returns_read}
use Rattle.pliron_dialect_calls.proofs.inlining_dialect.ByRolesInliningDialect.is_return.Goals as goal

pub returns-in-Some-clause-reads : goal.returns-in-Some-clause-reads
returns-in-Some-clause-reads g c = passes_read g.K.Roles.tables (λ k. is_leaving (form_of (g.K.Roles.tables.role_of k))) c.args.ctx.now.tree c.args.op c.in-Some.kind c.is_leaving.result c.in-Some.ensures (c.is_leaving.ensures ∙ ap is_leaving c.form.ensures)

pub returns-in-Some-clause-returns : goal.returns-in-Some-clause-returns
returns-in-Some-clause-returns g c =
    returns_read g.K.Roles.tables c.args.ctx.now.tree c.args.op c.requires c.is_leaving.result
    (passes_read g.K.Roles.tables (λ k. is_leaving (form_of (g.K.Roles.tables.role_of k))) c.args.ctx.now.tree c.args.op c.in-Some.kind c.is_leaving.result c.in-Some.ensures (c.is_leaving.ensures ∙ ap is_leaving c.form.ensures))
