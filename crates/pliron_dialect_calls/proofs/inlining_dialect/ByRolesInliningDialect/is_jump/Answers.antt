use Rattle.std.proofs.Common.{◌∙◌, ap}
use Rattle.pliron_dialect.specs.Roles.{form_of}
use Rattle.pliron_dialect_calls.specs.HeadsByRole.{is_jumping}
use Rattle.pliron_dialect_calls.proofs.HeadReads.{passes_read, jumps_read}
use Rattle.pliron_dialect_calls.proofs.inlining_dialect.ByRolesInliningDialect.is_jump.Goals as goal

pub returns-in-Some-clause-reads : goal.returns-in-Some-clause-reads
returns-in-Some-clause-reads g c = passes_read g.K.Roles.tables (λ k. is_jumping (form_of (g.K.Roles.tables.role_of k))) c.args.ctx.now.tree c.args.op c.in-Some.kind c.is_jumping.result c.in-Some.ensures (c.is_jumping.ensures ∙ ap is_jumping c.form.ensures)

pub returns-in-Some-clause-jumps : goal.returns-in-Some-clause-jumps
returns-in-Some-clause-jumps g c =
    jumps_read g.K.Roles.tables c.args.ctx.now.tree c.args.op c.requires c.is_jumping.result
    (passes_read g.K.Roles.tables (λ k. is_jumping (form_of (g.K.Roles.tables.role_of k))) c.args.ctx.now.tree c.args.op c.in-Some.kind c.is_jumping.result c.in-Some.ensures (c.is_jumping.ensures ∙ ap is_jumping c.form.ensures))
