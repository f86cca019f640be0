use Rattle.std.proofs.Common.{◌∙◌}
use Rattle.std.proofs.lemmas.Result.{IfOk-weaker}
use Rattle.pliron_rewrite_operands.specs.Answers.{Folding}
use Rattle.pliron_rewrite_operands.proofs.Known.{folding, constants_answered, none_answered, passes_head, known_long}
use Rattle.pliron_rewrite_operands.proofs.answers.constant_answers.Goals as goal

pub check_fold-requires-clause-folds : goal.check_fold-requires-clause-folds
check_fold-requires-clause-folds g c =
    let x : Folding = folding g.D.HasMeaning.meaning g.D.SideEffects.side_effects g.D.ConstFoldInterface.can_fold g.D.ConstFoldInterface.constants g.D.ConstFoldInterface.accepts g.D.ConstFoldInterface.constant_head g.D.OperandFoldInterface.operand_folds in
    passes_head x c.args.ctx.now.tree c.args.op c.folds.result c.folds.ensures c.if-not-folds.false

pub returns-clause-ok : goal.returns-clause-ok
returns-clause-ok g c =
    let x : Folding = folding g.D.HasMeaning.meaning g.D.SideEffects.side_effects g.D.ConstFoldInterface.can_fold g.D.ConstFoldInterface.constants g.D.ConstFoldInterface.accepts g.D.ConstFoldInterface.constant_head g.D.OperandFoldInterface.operand_folds in
    IfOk-weaker c.as_answers.result _ _ (λ answers mapped. constants_answered x c.args.ctx.now.tree c.args.op c.deref.result.now c.in_ok-constants.constants.items answers.items (c.deref.ensures.value ∙ c.in_ok-known.ensures.ok) c.in_ok-constants.ensures.ok mapped c.folds.result c.folds.ensures c.if-not-folds.false) c.as_answers.ensures.ok

pub returns-then-not-folds-clause-ok : goal.returns-then-not-folds-clause-ok
returns-then-not-folds-clause-ok g c =
    let x : Folding = folding g.D.HasMeaning.meaning g.D.SideEffects.side_effects g.D.ConstFoldInterface.can_fold g.D.ConstFoldInterface.constants g.D.ConstFoldInterface.accepts g.D.ConstFoldInterface.constant_head g.D.OperandFoldInterface.operand_folds in
    none_answered x c.args.ctx.now.tree c.args.op c.new-none.result.items c.new-none.ensures.items c.folds.result c.folds.ensures c.if-not-folds.true
