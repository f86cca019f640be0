use Rattle.std.proofs.Common.{◌≡◌, inr, sym, subst}
use Rattle.std.proofs.lemmas.Result.{IfOk-weaker, on_err_weaker}
use Rattle.pliron_rewrite_arguments.specs.ArgumentLaws.{OneValueChanges}
use Rattle.pliron_rewrite_arguments.proofs.ArgumentChanges.{one_value_changes}
use Rattle.pliron_graph_order.proofs.SeenLemmas.{seen_inside}
use Rattle.pliron_rewrite_operands.specs.Answers.{Folding}
use Rattle.pliron_rewrite_operands.proofs.Answered.{AreLawful}
use Rattle.pliron_opt_canonicalize.specs.Sites.{IsSeenAt, index_of, site_of}
use Rattle.pliron_opt_canonicalize.specs.Steps.{AreDone}
use Rattle.pliron_opt_canonicalize.proofs.Parts.{folding}
use Rattle.pliron_opt_canonicalize.proofs.Doing.{argument_done, done_undone, lawful_folding, result_done, undone_same}
use Rattle.pliron_opt_canonicalize.proofs.sweep.fold_value.Goals as goal

pub fold_result-outcome-requires-clause-admitted : goal.fold_result-outcome-requires-clause-admitted
fold_result-outcome-requires-clause-admitted g c =
    let t = c.args.ctx.now.tree in
    let root = c.args.root in
    c.requires.linked.admitted c.in-Results.op (inr (seen_inside t c.well_formed-2.ensures.tree root c.in-Results.op (subst (IsSeenAt t root) c.in-Results.is c.requires.seen)))

pub returns-in-Arguments-clause-ok : goal.returns-in-Arguments-clause-ok
returns-in-Arguments-clause-ok g c =
    let x : Folding = folding g.D.HasMeaning.meaning g.D.SideEffects.side_effects g.D.ConstFoldInterface.can_fold g.D.ConstFoldInterface.constants g.D.ConstFoldInterface.accepts g.D.ConstFoldInterface.constant_head g.D.OperandFoldInterface.operand_folds in
    let law : OneValueChanges x.meaning = one_value_changes _ _ _ _ g.met.D.Dialect.forwards_operands in
    let t = c.args.ctx.now.tree in
    let t' = c.fold_argument-outcome.new.ctx.tree in
    let root = c.args.root in
    IfOk-weaker c.fold_argument-outcome.result _ _ (λ status folds.
    subst (λ z. AreDone x t t' root (λ f. (site_of f ≡ z) × (index_of f ≡ c.args.index)) status) (sym c.in-Arguments.is)
    (argument_done x root t c.well_formed-2.ensures.tree c.requires.live c.requires.linked law c.in-Arguments.block c.args.index (subst (IsSeenAt t root) c.in-Arguments.is c.requires.seen) t' status folds)) c.fold_argument-outcome.ensures.ok

pub returns-in-Arguments-clause-refused : goal.returns-in-Arguments-clause-refused
returns-in-Arguments-clause-refused g c =
    let x : Folding = folding g.D.HasMeaning.meaning g.D.SideEffects.side_effects g.D.ConstFoldInterface.can_fold g.D.ConstFoldInterface.constants g.D.ConstFoldInterface.accepts g.D.ConstFoldInterface.constant_head g.D.OperandFoldInterface.operand_folds in
    let t = c.args.ctx.now.tree in
    let t' = c.fold_argument-outcome.new.ctx.tree in
    on_err_weaker c.fold_argument-outcome.result (λ e. done_undone x c.args.root t c.requires.live c.requires.linked t' c.well_formed-2.ensures.tree c.well_formed-in-Arguments.ensures.tree (undone_same t t' e)) c.fold_argument-outcome.ensures.refused

pub returns-in-Results-clause-ok : goal.returns-in-Results-clause-ok
returns-in-Results-clause-ok g c =
    let x : Folding = folding g.D.HasMeaning.meaning g.D.SideEffects.side_effects g.D.ConstFoldInterface.can_fold g.D.ConstFoldInterface.constants g.D.ConstFoldInterface.accepts g.D.ConstFoldInterface.constant_head g.D.OperandFoldInterface.operand_folds in
    let laws : AreLawful x = lawful_folding _ _ _ _ _ _ _ _ _ g.met.D.Dialect.gives_at_once g.met.D.Dialect.answers_true g.met.D.Dialect.answers_operands g.met.D.Dialect.makes_constants g.met.D.Dialect.forwards_operands in
    let t = c.args.ctx.now.tree in
    let t' = c.fold_result-outcome.new.ctx.tree in
    let root = c.args.root in
    IfOk-weaker c.fold_result-outcome.result _ _ (λ status folds.
    subst (λ z. AreDone x t t' root (λ f. (site_of f ≡ z) × (index_of f ≡ c.args.index)) status) (sym c.in-Results.is)
    (result_done x root t c.well_formed-2.ensures.tree c.requires.live c.requires.linked laws c.in-Results.op c.args.index (subst (IsSeenAt t root) c.in-Results.is c.requires.seen) t' status folds)) c.fold_result-outcome.ensures.ok

pub returns-in-Results-clause-refused : goal.returns-in-Results-clause-refused
returns-in-Results-clause-refused g c =
    let x : Folding = folding g.D.HasMeaning.meaning g.D.SideEffects.side_effects g.D.ConstFoldInterface.can_fold g.D.ConstFoldInterface.constants g.D.ConstFoldInterface.accepts g.D.ConstFoldInterface.constant_head g.D.OperandFoldInterface.operand_folds in
    let t = c.args.ctx.now.tree in
    let t' = c.fold_result-outcome.new.ctx.tree in
    on_err_weaker c.fold_result-outcome.result (λ undone. done_undone x c.args.root t c.requires.live c.requires.linked t' c.well_formed-2.ensures.tree c.well_formed-in-Results.ensures.tree undone) c.fold_result-outcome.ensures.refused
