use Rattle.std.proofs.Common.{◌∙◌, ap₂}
use Rattle.pliron_dialect.specs.Roles.{form_of}
use Rattle.pliron_dialect_calls.specs.HeadsByRole.{is_staying}
use Rattle.pliron_dialect_calls.proofs.HeadReads.{passes_read, stays_read}
use Rattle.pliron_dialect_calls.proofs.inlining_dialect.ByRolesInliningDialect.never_leaves.Goals as goal

pub returns-in-Some-clause-reads : goal.returns-in-Some-clause-reads
returns-in-Some-clause-reads g c = passes_read g.K.Roles.tables (λ k. is_staying (form_of (g.K.Roles.tables.role_of k)) (g.K.Calls.calls.stays k)) c.args.ctx.now.tree c.args.op c.in-Some.kind c.is_staying.result c.in-Some.ensures (c.is_staying.ensures ∙ ap₂ is_staying c.form.ensures c.stays.ensures)

pub returns-in-Some-clause-leaves : goal.returns-in-Some-clause-leaves
returns-in-Some-clause-leaves g c =
    stays_read g.K.Roles.tables c.args.ctx.now.tree c.args.op c.requires g.K.Calls.calls g.met.K.Calls.keeps_calls c.is_staying.result
    (passes_read g.K.Roles.tables (λ k. is_staying (form_of (g.K.Roles.tables.role_of k)) (g.K.Calls.calls.stays k)) c.args.ctx.now.tree c.args.op c.in-Some.kind c.is_staying.result c.in-Some.ensures (c.is_staying.ensures ∙ ap₂ is_staying c.form.ensures c.stays.ensures))
