use Rattle.std.proofs.Common.{◌≡◌, ◌∙◌, Some, slice_get, sym, subst}
use Rattle.std.proofs.lemmas.Option.{slice_get-get_or}
use Rattle.std.proofs.lemmas.Result.{IfOk-weaker}
use Rattle.pliron_core.specs.Tree.{results_of}
use Rattle.pliron_core.proofs.HoldingLemmas.{some_is}
use Rattle.pliron_laws.specs.declared.operand_folds.OpFoldResult.TheVariants.{Operand, Constant}
use Rattle.pliron_rewrite_operands.specs.Answers.{Folding}
use Rattle.pliron_rewrite_operands.proofs.Answered.{AreLawful}
use Rattle.pliron_rewrite_operands.proofs.Whole.{constant_read_here}
use Rattle.pliron_theory.specs.Rewrites.{IsConstant}
use Rattle.pliron_opt_canonicalize.proofs.Parts.{folding}
use Rattle.pliron_opt_canonicalize.proofs.Doing.{lawful_folding}
use Rattle.pliron_opt_canonicalize.proofs.Putting.{answer_there, none_past, none_there, put_constant, put_none, put_operand, read_answer}
use Rattle.pliron_opt_canonicalize.proofs.sweep.put_answer.Goals as goal

pub move_to_operand-requires-clause-answer : goal.move_to_operand-requires-clause-answer
move_to_operand-requires-clause-answer g c =
    let here = read_answer c.args.answers.now c.args.index c.index-answers-index.result c.if-index-answers.false c.index-answers-index.is in
    let at : slice_get c.args.answers.now c.args.index ≡ Some (Some (Operand c.in-Some-Operand.operand)) = answer_there c.args.answers.now c.args.index c.index-answers-index.result c.in-Some-Operand.field-0 (Operand c.in-Some-Operand.operand) here c.in-Some-Operand.is (rw c.in-Some-Operand.is at c.in-Some-Operand.field-0-is) in
    c.requires.answers.each (Operand c.in-Some-Operand.operand) at

pub move_to_operand-requires-clause-operand : goal.move_to_operand-requires-clause-operand
move_to_operand-requires-clause-operand g c =
    let here = read_answer c.args.answers.now c.args.index c.index-answers-index.result c.if-index-answers.false c.index-answers-index.is in
    let at : slice_get c.args.answers.now c.args.index ≡ Some (Some (Operand c.in-Some-Operand.operand)) = answer_there c.args.answers.now c.args.index c.index-answers-index.result c.in-Some-Operand.field-0 (Operand c.in-Some-Operand.operand) here c.in-Some-Operand.is (rw c.in-Some-Operand.is at c.in-Some-Operand.field-0-is) in
    c.requires.answers.within c.in-Some-Operand.operand at

pub move_to_constant-requires-clause-constant : goal.move_to_constant-requires-clause-constant
move_to_constant-requires-clause-constant g c = λ v listed.
    let x : Folding = folding g.D.HasMeaning.meaning g.D.SideEffects.side_effects g.D.ConstFoldInterface.can_fold g.D.ConstFoldInterface.constants g.D.ConstFoldInterface.accepts g.D.ConstFoldInterface.constant_head g.D.OperandFoldInterface.operand_folds in
    let laws : AreLawful x = lawful_folding _ _ _ _ _ _ _ _ _ g.met.D.Dialect.gives_at_once g.met.D.Dialect.answers_true g.met.D.Dialect.answers_operands g.met.D.Dialect.makes_constants g.met.D.Dialect.forwards_operands in
    let here = read_answer c.args.answers.now c.args.index c.index-answers-index.result c.if-index-answers.false c.index-answers-index.is in
    let at : slice_get c.args.answers.now c.args.index ≡ Some (Some (Constant c.in-Some-Constant.attr)) = answer_there c.args.answers.now c.args.index c.index-answers-index.result c.in-Some-Constant.field-0 (Constant c.in-Some-Constant.attr) here c.in-Some-Constant.is (simp c.in-Some-Constant.is at c.in-Some-Constant.field-0-is) in
    let has = c.requires.answers.each (Constant c.in-Some-Constant.attr) at in
    subst (λ z. IsConstant x.meaning c.args.ctx.now.tree z c.in-Some-Constant.attr) (some_is (sym has.listed ∙ listed)) (constant_read_here x laws c.args.ctx.now.tree c.well_formed-2.ensures.tree c.args.op c.args.index c.in-Some-Constant.attr has)

pub returns-then-index-answers-clause-ok : goal.returns-then-index-answers-clause-ok
returns-then-index-answers-clause-ok g c =
    let x : Folding = folding g.D.HasMeaning.meaning g.D.SideEffects.side_effects g.D.ConstFoldInterface.can_fold g.D.ConstFoldInterface.constants g.D.ConstFoldInterface.accepts g.D.ConstFoldInterface.constant_head g.D.OperandFoldInterface.operand_folds in
    let listed = slice_get-get_or (results_of c.args.ctx.now.tree c.args.op) c.args.index 0 c.requires.index in
    put_none x c.args.ctx.now.tree c.args.op c.args.index _ listed c.args.answers.now (none_past c.args.answers.now c.args.index c.if-index-answers.true)

pub returns-in_ok-move_to_operand-in-Some-Operand-clause-ok : goal.returns-in_ok-move_to_operand-in-Some-Operand-clause-ok
returns-in_ok-move_to_operand-in-Some-Operand-clause-ok g c =
    let x : Folding = folding g.D.HasMeaning.meaning g.D.SideEffects.side_effects g.D.ConstFoldInterface.can_fold g.D.ConstFoldInterface.constants g.D.ConstFoldInterface.accepts g.D.ConstFoldInterface.constant_head g.D.OperandFoldInterface.operand_folds in
    let listed = slice_get-get_or (results_of c.args.ctx.now.tree c.args.op) c.args.index 0 c.requires.index in
    let here = read_answer c.args.answers.now c.args.index c.index-answers-index.result c.if-index-answers.false c.index-answers-index.is in
    let at : slice_get c.args.answers.now c.args.index ≡ Some (Some (Operand c.in-Some-Operand.operand)) = answer_there c.args.answers.now c.args.index c.index-answers-index.result c.in-Some-Operand.field-0 (Operand c.in-Some-Operand.operand) here c.in-Some-Operand.is (rw c.in-Some-Operand.is at c.in-Some-Operand.field-0-is) in
    put_operand x c.args.ctx.now.tree c.args.op c.args.index _ listed c.move_to_operand.new.ctx.tree c.args.answers.now c.in-Some-Operand.operand at c.in_ok-move_to_operand-in-Some-Operand.ensures.ok

pub returns-in-Some-Constant-clause-ok : goal.returns-in-Some-Constant-clause-ok
returns-in-Some-Constant-clause-ok g c =
    let x : Folding = folding g.D.HasMeaning.meaning g.D.SideEffects.side_effects g.D.ConstFoldInterface.can_fold g.D.ConstFoldInterface.constants g.D.ConstFoldInterface.accepts g.D.ConstFoldInterface.constant_head g.D.OperandFoldInterface.operand_folds in
    let listed = slice_get-get_or (results_of c.args.ctx.now.tree c.args.op) c.args.index 0 c.requires.index in
    let here = read_answer c.args.answers.now c.args.index c.index-answers-index.result c.if-index-answers.false c.index-answers-index.is in
    let at : slice_get c.args.answers.now c.args.index ≡ Some (Some (Constant c.in-Some-Constant.attr)) = answer_there c.args.answers.now c.args.index c.index-answers-index.result c.in-Some-Constant.field-0 (Constant c.in-Some-Constant.attr) here c.in-Some-Constant.is (simp c.in-Some-Constant.is at c.in-Some-Constant.field-0-is) in
    IfOk-weaker c.move_to_constant.result _ _ (λ status made. put_constant x c.args.ctx.now.tree c.args.op c.args.index _ listed c.move_to_constant.new.ctx.tree c.args.answers.now c.in-Some-Constant.attr at status made) c.move_to_constant.ensures.ok

pub returns-in-None-clause-ok : goal.returns-in-None-clause-ok
returns-in-None-clause-ok g c =
    let x : Folding = folding g.D.HasMeaning.meaning g.D.SideEffects.side_effects g.D.ConstFoldInterface.can_fold g.D.ConstFoldInterface.constants g.D.ConstFoldInterface.accepts g.D.ConstFoldInterface.constant_head g.D.OperandFoldInterface.operand_folds in
    let listed = slice_get-get_or (results_of c.args.ctx.now.tree c.args.op) c.args.index 0 c.requires.index in
    let here = read_answer c.args.answers.now c.args.index c.index-answers-index.result c.if-index-answers.false c.index-answers-index.is in
    put_none x c.args.ctx.now.tree c.args.op c.args.index _ listed c.args.answers.now (none_there c.args.answers.now c.args.index c.index-answers-index.result here c.in-None.is)
