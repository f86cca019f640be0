use Rattle.std.proofs.Common.{ap, ◌∙◌}
use Rattle.pliron_dialect.specs.Roles.{form_answers}
use Rattle.pliron_dialect.proofs.RoleReads.{answers_read, no_answers_read}
use Rattle.pliron_dialect.proofs.by_roles.ByRolesConstFoldInterface.check_fold.Goals as goal

pub returns-in_ok-answers-in-Some-clause-ok : goal.returns-in_ok-answers-in-Some-clause-ok
returns-in_ok-answers-in-Some-clause-ok g c = answers_read g.K.Roles.tables c.args.ctx.now.tree c.args.op c.head.result.now c.in-Some.kind c.form.result c.args.operand_attrs.now c.in_ok-answers-in-Some.answers.items c.head.ensures (c.in-Some.ensures c.head.result.now c.head.ensures) c.form.ensures (c.in_ok-answers-in-Some.ensures ∙ ap (form_answers c.form.result) c.in_ok-answer-in-Some.ensures.ok)

pub returns-in-None-clause-ok : goal.returns-in-None-clause-ok
returns-in-None-clause-ok g c = no_answers_read g.K.Roles.tables c.args.ctx.now.tree c.args.op c.args.operand_attrs.now c.new.result.items c.in-None.ensures c.new.ensures.items
