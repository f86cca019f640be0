use Rattle.std.proofs.Common.{◌∙◌, ◌<◌, IsSome, OnErr, length, sym, subst, arith}
use Rattle.std.proofs.lemmas.Result.{IfOk-weaker}
use Rattle.pliron_core.specs.Tree.{IsLive, results_of, parent_of}
use Rattle.pliron_core.proofs.StandingLemmas.{no_use, some_use}
use Rattle.pliron_rewrite_operands.specs.Answers.{Folding}
use Rattle.pliron_rewrite_operands.proofs.Answered.{AreLawful}
use Rattle.pliron_opt_canonicalize.specs.Steps.{IsUndone}
use Rattle.pliron_opt_canonicalize.proofs.Parts.{folding}
use Rattle.pliron_opt_canonicalize.proofs.Doing.{lawful_folding}
use Rattle.pliron_opt_canonicalize.proofs.Putting.{constants_behind, folds_behind, folds_now, operands_are, put_unchanged, unused_stays}
use Rattle.pliron_opt_canonicalize.proofs.sweep.fold_result.Goals as goal

pub returns-then-num_use-eq0-clause-ok : goal.returns-then-num_use-eq0-clause-ok
returns-then-num_use-eq0-clause-ok g c =
    let x : Folding = folding g.D.HasMeaning.meaning g.D.SideEffects.side_effects g.D.ConstFoldInterface.can_fold g.D.ConstFoldInterface.constants g.D.ConstFoldInterface.accepts g.D.ConstFoldInterface.constant_head g.D.OperandFoldInterface.operand_folds in
    unused_stays x c.args.ctx.now.tree c.args.op c.args.index c.get_result.result c.get_result.ensures.value (no_use c.args.ctx.now.tree c.args.ctx.now.value_uses c.get_result.result c.well_formed-2.ensures.uses.value_uses (grind (arith, c.num_use.ensures, c.if-num_use-eq0.true)))

pub put_answer-requires-clause-answers : goal.put_answer-requires-clause-answers
put_answer-requires-clause-answers g c =
    let x : Folding = folding g.D.HasMeaning.meaning g.D.SideEffects.side_effects g.D.ConstFoldInterface.can_fold g.D.ConstFoldInterface.constants g.D.ConstFoldInterface.accepts g.D.ConstFoldInterface.constant_head g.D.OperandFoldInterface.operand_folds in
    let laws : AreLawful x = lawful_folding _ _ _ _ _ _ _ _ _ g.met.D.Dialect.gives_at_once g.met.D.Dialect.answers_true g.met.D.Dialect.answers_operands g.met.D.Dialect.makes_constants g.met.D.Dialect.forwards_operands in
    operands_are x laws c.args.ctx.now.tree c.well_formed-2.ensures.tree c.args.op c.args.index c.get_result.result c.requires.live (c.may_fold.ensures.0 c.if-not-may_fold.false) c.requires.admitted c.get_result.ensures.value c.deref.result.now (λ o at. c.deref.ensures.value ∙ c.in_ok-answers.ensures.ok o at)

pub returns-then-is_change-clause-ok : goal.returns-then-is_change-clause-ok
returns-then-is_change-clause-ok g c =
    let x : Folding = folding g.D.HasMeaning.meaning g.D.SideEffects.side_effects g.D.ConstFoldInterface.can_fold g.D.ConstFoldInterface.constants g.D.ConstFoldInterface.accepts g.D.ConstFoldInterface.constant_head g.D.OperandFoldInterface.operand_folds in
    let laws : AreLawful x = lawful_folding _ _ _ _ _ _ _ _ _ g.met.D.Dialect.gives_at_once g.met.D.Dialect.answers_true g.met.D.Dialect.answers_operands g.met.D.Dialect.makes_constants g.met.D.Dialect.forwards_operands in
    let used = some_use c.args.ctx.now.tree c.args.ctx.now.value_uses c.get_result.result c.well_formed-2.ensures.uses.value_uses (λ e. grind (arith, c.num_use.ensures, c.if-num_use-eq0.false, e)) in
    folds_now x c.args.ctx.now.tree c.args.op c.args.index c.get_result.result c.get_result.ensures.value used c.put_answer.new.ctx.tree c.deref.result.now (operands_are x laws c.args.ctx.now.tree c.well_formed-2.ensures.tree c.args.op c.args.index c.get_result.result c.requires.live (c.may_fold.ensures.0 c.if-not-may_fold.false) c.requires.admitted c.get_result.ensures.value c.deref.result.now (λ o at. c.deref.ensures.value ∙ c.in_ok-answers.ensures.ok o at)) c.in_ok-status.status c.is_change.result c.in_ok-status.ensures.ok c.is_change.ensures c.if-is_change.true

pub constant_answers-requires : goal.constant_answers-requires
constant_answers-requires g c =
    let x : Folding = folding g.D.HasMeaning.meaning g.D.SideEffects.side_effects g.D.ConstFoldInterface.can_fold g.D.ConstFoldInterface.constants g.D.ConstFoldInterface.accepts g.D.ConstFoldInterface.constant_head g.D.OperandFoldInterface.operand_folds in
    let first = put_unchanged x c.args.ctx.now.tree c.args.op c.args.index c.get_result.result c.get_result.ensures.value c.put_answer.new.ctx.tree c.deref.result.now c.in_ok-status.status c.is_change.result c.in_ok-status.ensures.ok c.is_change.ensures c.if-is_change.false in
    subst (λ z. IsLive z c.args.op) (sym first.0) c.requires.live

pub put_answer-requires-2-clause-index : goal.put_answer-requires-2-clause-index
put_answer-requires-2-clause-index g c =
    let x : Folding = folding g.D.HasMeaning.meaning g.D.SideEffects.side_effects g.D.ConstFoldInterface.can_fold g.D.ConstFoldInterface.constants g.D.ConstFoldInterface.accepts g.D.ConstFoldInterface.constant_head g.D.OperandFoldInterface.operand_folds in
    let first = put_unchanged x c.args.ctx.now.tree c.args.op c.args.index c.get_result.result c.get_result.ensures.value c.put_answer.new.ctx.tree c.deref.result.now c.in_ok-status.status c.is_change.result c.in_ok-status.ensures.ok c.is_change.ensures c.if-is_change.false in
    subst (λ z. c.args.index < length (results_of z c.args.op)) (sym first.0) c.requires.index

pub put_answer-requires-2-clause-placed : goal.put_answer-requires-2-clause-placed
put_answer-requires-2-clause-placed g c =
    let x : Folding = folding g.D.HasMeaning.meaning g.D.SideEffects.side_effects g.D.ConstFoldInterface.can_fold g.D.ConstFoldInterface.constants g.D.ConstFoldInterface.accepts g.D.ConstFoldInterface.constant_head g.D.OperandFoldInterface.operand_folds in
    let first = put_unchanged x c.args.ctx.now.tree c.args.op c.args.index c.get_result.result c.get_result.ensures.value c.put_answer.new.ctx.tree c.deref.result.now c.in_ok-status.status c.is_change.result c.in_ok-status.ensures.ok c.is_change.ensures c.if-is_change.false in
    subst (λ z. IsSome (parent_of z c.args.op)) (sym first.0) c.requires.placed

pub put_answer-requires-2-clause-live : goal.put_answer-requires-2-clause-live
put_answer-requires-2-clause-live g c =
    let x : Folding = folding g.D.HasMeaning.meaning g.D.SideEffects.side_effects g.D.ConstFoldInterface.can_fold g.D.ConstFoldInterface.constants g.D.ConstFoldInterface.accepts g.D.ConstFoldInterface.constant_head g.D.OperandFoldInterface.operand_folds in
    let first = put_unchanged x c.args.ctx.now.tree c.args.op c.args.index c.get_result.result c.get_result.ensures.value c.put_answer.new.ctx.tree c.deref.result.now c.in_ok-status.status c.is_change.result c.in_ok-status.ensures.ok c.is_change.ensures c.if-is_change.false in
    subst (λ z. IsLive z c.args.op) (sym first.0) c.requires.live

pub put_answer-requires-2-clause-answers : goal.put_answer-requires-2-clause-answers
put_answer-requires-2-clause-answers g c =
    let x : Folding = folding g.D.HasMeaning.meaning g.D.SideEffects.side_effects g.D.ConstFoldInterface.can_fold g.D.ConstFoldInterface.constants g.D.ConstFoldInterface.accepts g.D.ConstFoldInterface.constant_head g.D.OperandFoldInterface.operand_folds in
    let laws : AreLawful x = lawful_folding _ _ _ _ _ _ _ _ _ g.met.D.Dialect.gives_at_once g.met.D.Dialect.answers_true g.met.D.Dialect.answers_operands g.met.D.Dialect.makes_constants g.met.D.Dialect.forwards_operands in
    let first = put_unchanged x c.args.ctx.now.tree c.args.op c.args.index c.get_result.result c.get_result.ensures.value c.put_answer.new.ctx.tree c.deref.result.now c.in_ok-status.status c.is_change.result c.in_ok-status.ensures.ok c.is_change.ensures c.if-is_change.false in
    constants_behind x laws c.args.ctx.now.tree c.well_formed-2.ensures.tree c.args.op c.args.index c.get_result.result c.requires.live (c.may_fold.ensures.0 c.if-not-may_fold.false) c.requires.admitted c.get_result.ensures.value c.put_answer.new.ctx.tree c.deref.result.now c.deref-2.result.now first (λ o at. c.deref-2.ensures.value ∙ c.in_ok-constants.ensures.ok o at)

pub returns-clause-ok : goal.returns-clause-ok
returns-clause-ok g c =
    let x : Folding = folding g.D.HasMeaning.meaning g.D.SideEffects.side_effects g.D.ConstFoldInterface.can_fold g.D.ConstFoldInterface.constants g.D.ConstFoldInterface.accepts g.D.ConstFoldInterface.constant_head g.D.OperandFoldInterface.operand_folds in
    let laws : AreLawful x = lawful_folding _ _ _ _ _ _ _ _ _ g.met.D.Dialect.gives_at_once g.met.D.Dialect.answers_true g.met.D.Dialect.answers_operands g.met.D.Dialect.makes_constants g.met.D.Dialect.forwards_operands in
    let used = some_use c.args.ctx.now.tree c.args.ctx.now.value_uses c.get_result.result c.well_formed-2.ensures.uses.value_uses (λ e. grind (arith, c.num_use.ensures, c.if-num_use-eq0.false, e)) in
    let first = put_unchanged x c.args.ctx.now.tree c.args.op c.args.index c.get_result.result c.get_result.ensures.value c.put_answer.new.ctx.tree c.deref.result.now c.in_ok-status.status c.is_change.result c.in_ok-status.ensures.ok c.is_change.ensures c.if-is_change.false in
    IfOk-weaker c.put_answer-2.result _ _ (λ status put. folds_behind x laws c.args.ctx.now.tree c.well_formed-2.ensures.tree c.args.op c.args.index c.get_result.result c.requires.live (c.may_fold.ensures.0 c.if-not-may_fold.false) c.requires.admitted c.get_result.ensures.value used c.put_answer.new.ctx.tree c.put_answer-2.new.ctx.tree c.deref.result.now c.deref-2.result.now (λ o at. c.deref.ensures.value ∙ c.in_ok-answers.ensures.ok o at) first (λ o at. c.deref-2.ensures.value ∙ c.in_ok-constants.ensures.ok o at) status put) c.put_answer-2.ensures.ok

pub returns-clause-refused : goal.returns-clause-refused
returns-clause-refused g c =
    let x : Folding = folding g.D.HasMeaning.meaning g.D.SideEffects.side_effects g.D.ConstFoldInterface.can_fold g.D.ConstFoldInterface.constants g.D.ConstFoldInterface.accepts g.D.ConstFoldInterface.constant_head g.D.OperandFoldInterface.operand_folds in
    let first = put_unchanged x c.args.ctx.now.tree c.args.op c.args.index c.get_result.result c.get_result.ensures.value c.put_answer.new.ctx.tree c.deref.result.now c.in_ok-status.status c.is_change.result c.in_ok-status.ensures.ok c.is_change.ensures c.if-is_change.false in
    subst (λ z. OnErr c.put_answer-2.result (IsUndone z c.put_answer-2.new.ctx.tree)) first.0 c.put_answer-2.ensures.refused
