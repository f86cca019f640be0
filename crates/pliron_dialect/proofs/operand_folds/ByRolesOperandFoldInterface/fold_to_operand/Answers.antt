use Rattle.std.proofs.Common.{None, ap, ◌∙◌}
use Rattle.pliron_core.specs.Tree.{operands_of}
use Rattle.pliron_dialect.specs.OperandFolds.{place_picked, answer_at, fold_by_form}
use Rattle.pliron_dialect.proofs.RoleReads.{operands_read, no_operands_read}
use Rattle.pliron_dialect.proofs.operand_folds.ByRolesOperandFoldInterface.fold_to_operand.Goals as goal

pub returns-in_ok-answers-in-Some-clause-ok : goal.returns-in_ok-answers-in-Some-clause-ok
returns-in_ok-answers-in-Some-clause-ok g c =
    let t = c.args.ctx.now.tree in
    let known = c.args.operand_attrs.now in
    operands_read g.K.Roles.tables t c.args.op c.head.result.now c.in-Some.kind c.form-form.result c.fold_by_form-folded.result c.answer_at-picked.result known c.in_ok-answers-in-Some.answers.items c.head.ensures (c.in-Some.ensures c.head.result.now c.head.ensures) c.form-form.ensures (c.fold_by_form-folded.ensures ∙ ap (λ i. fold_by_form c.form-form.result i known (operands_of t c.args.op)) c.identity-identity.ensures) (c.answer_at-picked.ensures ∙ ap (λ o. answer_at o None) (c.place_picked.ensures ∙ ap place_picked c.known_truth.ensures)) c.in_ok-answers-in-Some.ensures

pub returns-in-None-clause-ok : goal.returns-in-None-clause-ok
returns-in-None-clause-ok g c = no_operands_read g.K.Roles.tables c.args.ctx.now.tree c.args.op c.args.operand_attrs.now c.new.result.items c.in-None.ensures c.new.ensures.items
