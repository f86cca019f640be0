use Rattle.std.proofs.Common.{◌∙◌, ap, subst, length, Some, None}
use Rattle.std.proofs.lemmas.Result.{IfOk-weaker, on_err_weaker}
use Rattle.pliron_core.specs.Tree.{operands_of, definition_of}
use Rattle.pliron_core.proofs.WalkLemmas.{inside_live}
use Rattle.pliron_core.proofs.UsedLemmas.{length_map}
use Rattle.pliron_theory.proofs.ChosenRoots.{chosen_roots}
use Rattle.pliron_theory.proofs.FoldedBranches.{branch_links, branch_outcomes}
use Rattle.pliron_opt_cfg.specs.Folded.{known_of}
use Rattle.pliron_opt_cfg.proofs.FoldLemmas.{stands_in_block, either, reported, step}
use Rattle.pliron_opt_cfg.proofs.folding.fold_known.Goals as goal

pub fold_in_place-done-requires-clause-live : goal.fold_in_place-done-requires-clause-live
fold_in_place-done-requires-clause-live g c = inside_live c.args.ctx.now.tree c.well_formed-2.ensures.tree c.requires.branch.0 c.args.op c.requires.branch.2.0

pub fold_in_place-done-requires-clause-placed : goal.fold_in_place-done-requires-clause-placed
fold_in_place-done-requires-clause-placed g c = stands_in_block c.args.ctx.now.tree c.requires.branch.0 c.args.op c.requires.branch.2.0

pub fold_in_place-done-requires-clause-folds : goal.fold_in_place-done-requires-clause-folds
fold_in_place-done-requires-clause-folds g c = c.requires.branch.2.1

pub fold_in_place-done-requires-clause-entries : goal.fold_in_place-done-requires-clause-entries
fold_in_place-done-requires-clause-entries g c =
    let t = c.args.ctx.now.tree in
    ap length c.requires.known ∙ length_map (λ v. known_of g.D.HasMeaning.meaning g.D.ConstFoldInterface.can_fold g.D.ConstFoldInterface.constants t (definition_of t v)) (operands_of t c.args.op)

pub returns-clause-ok : goal.returns-clause-ok
returns-clause-ok g c =
    let t = c.args.ctx.now.tree in
    IfOk-weaker c.fold_in_place-done.result _ _ (λ status is. subst (λ z. g.D.BranchOpFoldInterface.outcome t c.fold_in_place-done.new.ctx.tree c.args.op z (Some status)) c.requires.known is) c.fold_in_place-done.ensures.ok

pub returns-clause-refused : goal.returns-clause-refused
returns-clause-refused g c =
    let t = c.args.ctx.now.tree in
    on_err_weaker c.fold_in_place-done.result (λ is. subst (λ z. g.D.BranchOpFoldInterface.outcome t c.fold_in_place-done.new.ctx.tree c.args.op z None) c.requires.known is) c.fold_in_place-done.ensures.refused

pub returns-clause-reported : goal.returns-clause-reported
returns-clause-reported g c =
    let d = g.met.D.Dialect in
    let t = c.args.ctx.now.tree in
    let u = c.fold_in_place-done.new.ctx.tree in
    let b = c.requires.branch in
    let w = c.well_formed-2.ensures.tree in
    let wu = c.well_formed-3.ensures.tree in
    IfOk-weaker c.fold_in_place-done.result _ _ (λ status is. reported g.D.HasMeaning.meaning g.D.ConstFoldInterface.can_fold g.D.BranchOpFoldInterface.can_fold_branch g.D.ConstFoldInterface.constants g.D.BranchOpFoldInterface.outcome t u b.0 c.args.op w wu b.1 b.2
    (branch_outcomes _ _ _ _ _ _ d.forwards_operands d.answers_jumps _ _ _ _ _ d.folds_in_place t u b.0 c.args.op c.args.known.now (Some status) w wu b.1 b.2.0 b.2.1 is)
    status (d.folds_in_place.branch t u c.args.op c.args.known.now (Some status) is).1) c.fold_in_place-done.ensures.ok

pub returns-clause-step : goal.returns-clause-step
returns-clause-step g c = λ root linked branch.
    let d = g.met.D.Dialect in
    let t = c.args.ctx.now.tree in
    let u = c.fold_in_place-done.new.ctx.tree in
    let m = g.D.HasMeaning.meaning in
    let outcome = g.D.BranchOpFoldInterface.outcome in
    let laws = chosen_roots _ _ _ _ _ _ _ _ g.D.BlockArgRemoval.removable _ _ _ (λ h h' s. s.branch) d.keeps_counts d.forwards_operands d.acts_without_argument d.answers_true d.answers_jumps d.folds_in_place d.makes_constants in
    let done = either (λ a. outcome t u c.args.op c.args.known.now a) c.fold_in_place-done.result c.fold_in_place-done.ensures.ok c.fold_in_place-done.ensures.refused in
    step m g.D.ConstFoldInterface.can_fold g.D.BranchOpFoldInterface.can_fold_branch g.D.ConstFoldInterface.constants outcome t u root c.args.op c.well_formed-2.ensures.tree c.well_formed-3.ensures.tree linked branch
    (λ chosen. (laws chosen).branch_folds)
    (branch_links _ _ _ _ _ _ d.forwards_operands d.answers_jumps _ _ _ _ _ d.folds_in_place)
    (branch_outcomes _ _ _ _ _ _ d.forwards_operands d.answers_jumps _ _ _ _ _ d.folds_in_place)
    (λ chosen. (laws chosen).answered)
    c.fold_in_place-done.ensures.longer done.0 (subst (λ z. outcome t u c.args.op z done.0) c.requires.known done.1)
