use Rattle.std.proofs.Common.{◌∙◌, ap}
use Rattle.pliron_dialect.specs.Roles.{form_of}
use Rattle.pliron_dialect_calls.specs.HeadsByRole.{is_closing}
use Rattle.pliron_dialect_calls.proofs.HeadReads.{passes_read, closes_read}
use Rattle.pliron_dialect_calls.proofs.inlining_dialect.ByRolesInliningDialect.never_gives.Goals as goal

pub returns-in-Some-clause-reads : goal.returns-in-Some-clause-reads
returns-in-Some-clause-reads g c = passes_read g.K.Roles.tables (λ k. is_closing (form_of (g.K.Roles.tables.role_of k))) c.args.ctx.now.tree c.args.op c.in-Some.kind c.is_closing.result c.in-Some.ensures (c.is_closing.ensures ∙ ap is_closing c.form.ensures)

pub returns-in-Some-clause-gives : goal.returns-in-Some-clause-gives
returns-in-Some-clause-gives g c =
    closes_read g.K.Roles.tables c.args.ctx.now.tree c.args.op c.requires c.is_closing.result
    (passes_read g.K.Roles.tables (λ k. is_closing (form_of (g.K.Roles.tables.role_of k))) c.args.ctx.now.tree c.args.op c.in-Some.kind c.is_closing.result c.in-Some.ensures (c.is_closing.ensures ∙ ap is_closing c.form.ensures))
