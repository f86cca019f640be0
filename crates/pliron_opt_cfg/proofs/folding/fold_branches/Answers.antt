use Rattle.std.proofs.Common.{rules, ◌≡◌, ◌+◌, length, Some, slice_get, refl, sym, subst, arith}
use Rattle.std.proofs.lemmas.Option.{slice_get_read}
use Rattle.std.proofs.lemmas.List.{drop_all}
use Rattle.pliron_laws.proofs.FoldLemmas.{on_err}
use Rattle.pliron_opt_cfg.specs.Folded.{FoldsAll, FoldsSome, FoldsSome.Stopped}
use Rattle.pliron_opt_cfg.specs.FoldSteps.{IsFoldingBranches}
use Rattle.pliron_opt_cfg.proofs.FoldLemmas.{folding_start, folding_can, folding_next, folding_broken, folding_change, folding_end, told_honestly, linked_still}
use Rattle.pliron_opt_cfg.proofs.folding.fold_branches.Goals as goal

pub returns-in_err-branches-clause-refused : goal.returns-in_err-branches-clause-refused
returns-in_err-branches-clause-refused g c = on_err _ c.from_residual.result Stopped

pub loop-i-init : goal.loop-i-init
loop-i-init g c =
    let t = c.args.ctx.now.tree in
    subst (λ z. IsFoldingBranches _ _ _ _ _ c.args.root t z 0 _ t) (sym c.in_ok-branches.ensures.ok) (folding_start g.D.HasMeaning.meaning g.D.ConstFoldInterface.can_fold g.D.BranchOpFoldInterface.can_fold_branch g.D.ConstFoldInterface.constants g.D.BranchOpFoldInterface.outcome c.args.root t c.well_formed-2.ensures.tree c.requires.live c.requires.linked)

pub fold_one-requires : goal.fold_one-requires
fold_one-requires g c =
    let at : slice_get c.in_ok-branches.branches.items c.loop-i.i ≡ Some c.index.result.now = slice_get_read c.in_ok-branches.branches.items (length c.in_ok-branches.branches.items) c.loop-i.i c.index.result.now refl (search (rules, c.loop-i-test.true)) c.index.ensures in
    let can = folding_can _ _ _ _ _ _ _ c.well_formed-2.ensures.tree _ _ _ _ c.loop-i.invariant c.index.result.now at in
    record { branch = (c.args.root, can.0, can.1) }

pub returns-in_err-fold_one-clause-refused : goal.returns-in_err-fold_one-clause-refused
returns-in_err-fold_one-clause-refused g c =
    let t = c.args.ctx.now.tree in
    let at : slice_get c.in_ok-branches.branches.items c.loop-i.i ≡ Some c.index.result.now = slice_get_read c.in_ok-branches.branches.items (length c.in_ok-branches.branches.items) c.loop-i.i c.index.result.now refl (search (rules, c.loop-i-test.true)) c.index.ensures in
    on_err _ c.from_residual-in_err-fold_one.result (subst (λ z. FoldsSome _ _ _ _ z t c.fold_one.new.ctx.tree) c.in_ok-branches.ensures.ok (folding_broken _ _ _ _ _ _ _ c.well_formed-2.ensures.tree _ _ _ _ c.loop-i.invariant c.index.result.now at c.fold_one.new.ctx.tree c.in_err-fold_one.ensures.refused))

pub returns-in_err-fold_one-clause-change : goal.returns-in_err-fold_one-clause-change
returns-in_err-fold_one-clause-change g c =
    let at : slice_get c.in_ok-branches.branches.items c.loop-i.i ≡ Some c.index.result.now = slice_get_read c.in_ok-branches.branches.items (length c.in_ok-branches.branches.items) c.loop-i.i c.index.result.now refl (search (rules, c.loop-i-test.true)) c.index.ensures in
    let can = folding_can _ _ _ _ _ _ _ c.well_formed-2.ensures.tree _ _ _ _ c.loop-i.invariant c.index.result.now at in
    folding_change _ _ _ _ _ _ _ c.well_formed-2.ensures.tree _ _ _ _ c.loop-i.invariant c.index.result.now at c.fold_one.new.ctx.tree (c.in_err-fold_one.ensures.step c.args.root can.0 can.1)

pub returns-in_err-fold_one-clause-links : goal.returns-in_err-fold_one-clause-links
returns-in_err-fold_one-clause-links g c =
    let at : slice_get c.in_ok-branches.branches.items c.loop-i.i ≡ Some c.index.result.now = slice_get_read c.in_ok-branches.branches.items (length c.in_ok-branches.branches.items) c.loop-i.i c.index.result.now refl (search (rules, c.loop-i-test.true)) c.index.ensures in
    let can = folding_can _ _ _ _ _ _ _ c.well_formed-2.ensures.tree _ _ _ _ c.loop-i.invariant c.index.result.now at in
    let step = c.in_err-fold_one.ensures.step c.args.root can.0 can.1 in
    linked_still _ _ _ c.args.root c.well_formed-2.ensures.tree step.tree (folding_change _ _ _ _ _ _ _ c.well_formed-2.ensures.tree _ _ _ _ c.loop-i.invariant c.index.result.now at c.fold_one.new.ctx.tree step)

pub loop-i-preserved : goal.loop-i-preserved
loop-i-preserved g c =
    let at : slice_get c.in_ok-branches.branches.items c.loop-i.i ≡ Some c.index.result.now = slice_get_read c.in_ok-branches.branches.items (length c.in_ok-branches.branches.items) c.loop-i.i c.index.result.now refl (search (rules, c.loop-i-test.true)) c.index.ensures in
    let w = c.well_formed-2.ensures.tree in
    let can = folding_can _ _ _ _ _ _ _ w _ _ _ _ c.loop-i.invariant c.index.result.now at in
    let step = c.in_ok-fold_one.ensures.step c.args.root can.0 can.1 in
    subst (λ z. IsFoldingBranches _ _ _ _ _ c.args.root c.args.ctx.now.tree c.in_ok-branches.branches.items (c.loop-i.i + 1) z c.fold_one.new.ctx.tree) (sym c.bitor_assign.ensures.after)
    (folding_next _ _ _ _ _ _ _ w _ _ _ _ c.loop-i.invariant c.index.result.now at c.fold_one.new.ctx.tree c.in_ok-fold_one.field-0 c.in_ok-fold_one.ensures.ok c.in_ok-fold_one.ensures.reported step)

pub returns-clause-folds : goal.returns-clause-folds
returns-clause-folds g c =
    let t = c.args.ctx.now.tree in
    subst (λ z. FoldsAll _ _ _ _ z t c.loop-i.ctx.tree c.loop-i.status) c.in_ok-branches.ensures.ok (folding_end _ _ _ _ _ _ _ c.well_formed-2.ensures.tree _ _ _ _ c.loop-i.invariant (drop_all c.loop-i.i c.in_ok-branches.branches.items (omega arith)))

pub returns-clause-accurate : goal.returns-clause-accurate
returns-clause-accurate g c = told_honestly _ _ _ c.loop-i.invariant.reported

pub returns-clause-change : goal.returns-clause-change
returns-clause-change g c = c.loop-i.invariant.change

pub returns-clause-links : goal.returns-clause-links
returns-clause-links g c = linked_still _ _ _ c.args.root c.well_formed-2.ensures.tree c.loop-i.invariant.tree c.loop-i.invariant.change

pub returns-clause-reported : goal.returns-clause-reported
returns-clause-reported g c = c.loop-i.invariant.reported

pub returns-clause-blocks : goal.returns-clause-blocks
returns-clause-blocks g c = c.loop-i.invariant.blocks
