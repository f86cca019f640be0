use Rattle.std.proofs.Common.{rules, ◌≡◌, Some, length, slice_get, refl, sym, ap, ◌∙◌, arith}
use Rattle.std.proofs.lemmas.Option.{slice_get_read}
use Rattle.pliron_rewrite_operands.specs.Answers.{Folding}
use Rattle.pliron_rewrite_operands.proofs.Known.{folding, made_none, like_folds, like_empty, made_first, first_of_answers, none_of_answers}
use Rattle.pliron_rewrite_operands.proofs.answers.constant_made.Goals as goal

pub returns-then-not-is_constant_like-clause-ok : goal.returns-then-not-is_constant_like-clause-ok
returns-then-not-is_constant_like-clause-ok g c =
    let x : Folding = folding g.D.HasMeaning.meaning g.D.SideEffects.side_effects g.D.ConstFoldInterface.can_fold g.D.ConstFoldInterface.constants g.D.ConstFoldInterface.accepts g.D.ConstFoldInterface.constant_head g.D.OperandFoldInterface.operand_folds in
    made_none x c.args.ctx.now.tree c.args.op c.requires c.is_constant_like.result c.is_constant_like.ensures c.if-not-is_constant_like.true

pub check_fold-requires-clause-folds : goal.check_fold-requires-clause-folds
check_fold-requires-clause-folds g c =
    let x : Folding = folding g.D.HasMeaning.meaning g.D.SideEffects.side_effects g.D.ConstFoldInterface.can_fold g.D.ConstFoldInterface.constants g.D.ConstFoldInterface.accepts g.D.ConstFoldInterface.constant_head g.D.OperandFoldInterface.operand_folds in
    like_folds x c.args.ctx.now.tree c.args.op c.requires c.is_constant_like.result c.is_constant_like.ensures c.if-not-is_constant_like.false

pub check_fold-requires-clause-entries : goal.check_fold-requires-clause-entries
check_fold-requires-clause-entries g c =
    let x : Folding = folding g.D.HasMeaning.meaning g.D.SideEffects.side_effects g.D.ConstFoldInterface.can_fold g.D.ConstFoldInterface.constants g.D.ConstFoldInterface.accepts g.D.ConstFoldInterface.constant_head g.D.OperandFoldInterface.operand_folds in
    ap length (c.deref.ensures.value ∙ c.new-nothing.ensures.items) ∙ sym (ap length (like_empty x c.args.ctx.now.tree c.args.op c.requires c.is_constant_like.result c.is_constant_like.ensures c.if-not-is_constant_like.false))

pub returns-then-len-gt0-clause-ok : goal.returns-then-len-gt0-clause-ok
returns-then-len-gt0-clause-ok g c =
    let x : Folding = folding g.D.HasMeaning.meaning g.D.SideEffects.side_effects g.D.ConstFoldInterface.can_fold g.D.ConstFoldInterface.constants g.D.ConstFoldInterface.accepts g.D.ConstFoldInterface.constant_head g.D.OperandFoldInterface.operand_folds in
    let at : slice_get c.in_ok-answers.answers.items 0 ≡ Some c.swap_remove.result = slice_get_read c.in_ok-answers.answers.items (length c.in_ok-answers.answers.items) 0 c.swap_remove.result refl (search (rules, c.if-len-gt0.true)) c.swap_remove.ensures.value in
    sym (first_of_answers c.in_ok-answers.answers.items c.swap_remove.result at)
    ∙ made_first x c.args.ctx.now.tree c.args.op c.requires c.is_constant_like.result c.is_constant_like.ensures c.if-not-is_constant_like.false c.in_ok-answers.answers.items c.deref.result.now (c.deref.ensures.value ∙ c.new-nothing.ensures.items) c.in_ok-answers.ensures.ok

pub returns-clause-ok : goal.returns-clause-ok
returns-clause-ok g c =
    let x : Folding = folding g.D.HasMeaning.meaning g.D.SideEffects.side_effects g.D.ConstFoldInterface.can_fold g.D.ConstFoldInterface.constants g.D.ConstFoldInterface.accepts g.D.ConstFoldInterface.constant_head g.D.OperandFoldInterface.operand_folds in
    sym (none_of_answers c.in_ok-answers.answers.items (omega arith))
    ∙ made_first x c.args.ctx.now.tree c.args.op c.requires c.is_constant_like.result c.is_constant_like.ensures c.if-not-is_constant_like.false c.in_ok-answers.answers.items c.deref.result.now (c.deref.ensures.value ∙ c.new-nothing.ensures.items) c.in_ok-answers.ensures.ok
