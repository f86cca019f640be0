use Rattle.std.proofs.Common.{◌≡◌, ◌+◌, ◌<◌, length, Some, None, slice_get, refl, sym, subst, arith}
use Rattle.std.proofs.lemmas.Option.{slice_get_read}
use Rattle.std.proofs.lemmas.List.{drop_all}
use Rattle.pliron_theory.specs.LatticeValues.{Says}
use Rattle.pliron_opt_sccp.specs.RewriteSteps.{IsFoldStep, IsFoldingOn}
use Rattle.pliron_opt_sccp.proofs.StepLemmas.{folding_start, folding_can, folding_next, folding_end, folding_broken}
use Rattle.pliron_laws.proofs.FoldLemmas.{on_err}
use Rattle.pliron_opt_sccp.proofs.rewrite.fold_all.Goals as goal

pub loop-i-init : goal.loop-i-init
loop-i-init g c = folding_start _ _ _ _

pub known_of-known-requires-clause-rising : goal.known_of-known-requires-clause-rising
known_of-known-requires-clause-rising g c =
    let folds = c.args.folds.now in
    let rows = folds.rows.items in
    let fold = c.index-fold.result.now in
    let lt : c.loop-i.i < length rows = omega (arith, c.len-i-end.ensures, c.loop-i-test.true) in
    let at : slice_get rows c.loop-i.i ≡ Some fold = slice_get_read rows (length rows) c.loop-i.i fold refl lt c.index-fold.ensures in
    let one = c.requires.steps.3.each c.loop-i.i fold at in
    one.rising

pub known_of-known-requires-clause-within : goal.known_of-known-requires-clause-within
known_of-known-requires-clause-within g c =
    let folds = c.args.folds.now in
    let rows = folds.rows.items in
    let fold = c.index-fold.result.now in
    let lt : c.loop-i.i < length rows = omega (arith, c.len-i-end.ensures, c.loop-i-test.true) in
    let at : slice_get rows c.loop-i.i ≡ Some fold = slice_get_read rows (length rows) c.loop-i.i fold refl lt c.index-fold.ensures in
    let one = c.requires.steps.3.each c.loop-i.i fold at in
    one.within

pub fold_one-requires : goal.fold_one-requires
fold_one-requires g c =
    let s = c.requires.steps in
    let folds = c.args.folds.now in
    let rows = folds.rows.items in
    let fold = c.index-fold.result.now in
    let lt : c.loop-i.i < length rows = omega (arith, c.len-i-end.ensures, c.loop-i-test.true) in
    let at : slice_get rows c.loop-i.i ≡ Some fold = slice_get_read rows (length rows) c.loop-i.i fold refl lt c.index-fold.ensures in
    let x : Says = record { meaning = g.D.HasMeaning.meaning; can_fold = g.D.ConstFoldInterface.can_fold; can_fold_branch = g.D.BranchOpFoldInterface.can_fold_branch; constants = g.D.ConstFoldInterface.constants; feasible = g.D.BranchOpFoldInterface.feasible; entry_operands = g.D.RegionBranchOpInterface.entry_operands } in
    let step = folding_can x _ _ folds c.loop-i.i c.loop-i.status c.loop-i.ctx.tree c.loop-i.invariant fold at s.0 s.1 s.2 s.3 in
    record { step = (s.0, s.1, s.2, subst (λ z. IsFoldStep x s.0 s.1 s.2 c.loop-i.ctx.tree fold.op z) (sym c.known_of-known.ensures) step) }

pub returns-in_err-fold_one-clause-follows : goal.returns-in_err-fold_one-clause-follows
returns-in_err-fold_one-clause-follows g c = λ t₀ root f₀ s.
    let folds = c.args.folds.now in
    let rows = folds.rows.items in
    let fold = c.index-fold.result.now in
    let lt : c.loop-i.i < length rows = omega (arith, c.len-i-end.ensures, c.loop-i-test.true) in
    let at : slice_get rows c.loop-i.i ≡ Some fold = slice_get_read rows (length rows) c.loop-i.i fold refl lt c.index-fold.ensures in
    let x : Says = record { meaning = g.D.HasMeaning.meaning; can_fold = g.D.ConstFoldInterface.can_fold; can_fold_branch = g.D.BranchOpFoldInterface.can_fold_branch; constants = g.D.ConstFoldInterface.constants; feasible = g.D.BranchOpFoldInterface.feasible; entry_operands = g.D.RegionBranchOpInterface.entry_operands } in
    let step = folding_can x _ _ folds c.loop-i.i c.loop-i.status c.loop-i.ctx.tree c.loop-i.invariant fold at t₀ root f₀ s in
    c.fold_one.ensures.follows t₀ root f₀ (subst (λ z. IsFoldStep x t₀ root f₀ c.loop-i.ctx.tree fold.op z) (sym c.known_of-known.ensures) step)

pub loop-i-preserved : goal.loop-i-preserved
loop-i-preserved g c =
    let folds = c.args.folds.now in
    let rows = folds.rows.items in
    let fold = c.index-fold.result.now in
    let lt : c.loop-i.i < length rows = omega (arith, c.len-i-end.ensures, c.loop-i-test.true) in
    let at : slice_get rows c.loop-i.i ≡ Some fold = slice_get_read rows (length rows) c.loop-i.i fold refl lt c.index-fold.ensures in
    let x : Says = record { meaning = g.D.HasMeaning.meaning; can_fold = g.D.ConstFoldInterface.can_fold; can_fold_branch = g.D.BranchOpFoldInterface.can_fold_branch; constants = g.D.ConstFoldInterface.constants; feasible = g.D.BranchOpFoldInterface.feasible; entry_operands = g.D.RegionBranchOpInterface.entry_operands } in
    let outcome = g.D.ConstFoldInterface.outcome in
    let here = c.loop-i.ctx.tree in
    let next = c.fold_one.new.ctx.tree in
    let is = subst (λ z. outcome here next fold.op z (Some c.in_ok-fold_one.field-0)) c.known_of-known.ensures c.in_ok-fold_one.ensures.ok in
    let done = folding_next x outcome c.args.ctx.now.tree folds c.loop-i.i c.loop-i.status here c.loop-i.invariant fold at next c.in_ok-fold_one.field-0 is c.in_ok-fold_one.ensures.reported c.fold_one.ensures.stays (λ t₀ root f₀ s. c.fold_one.ensures.follows t₀ root f₀ (subst (λ z. IsFoldStep x t₀ root f₀ here fold.op z) (sym c.known_of-known.ensures) s)) in
    subst (λ z. IsFoldingOn x outcome c.args.ctx.now.tree folds (c.loop-i.i + 1) z next) (sym c.bitor_assign.ensures.after) done

pub returns-clause-folded : goal.returns-clause-folded
returns-clause-folded g c =
    let folds = c.args.folds.now in
    λ t₀ root f₀ s. folding_end _ _ _ folds c.loop-i.i c.loop-i.status c.loop-i.ctx.tree c.loop-i.invariant (drop_all c.loop-i.i folds.rows.items (omega arith)) t₀ root f₀ s

pub returns-clause-reported : goal.returns-clause-reported
returns-clause-reported g c = c.loop-i.invariant.reported

pub returns-clause-follows : goal.returns-clause-follows
returns-clause-follows g c = c.loop-i.invariant.follows

pub returns-in_err-fold_one-clause-stays : goal.returns-in_err-fold_one-clause-stays
returns-in_err-fold_one-clause-stays g c = λ k l. c.fold_one.ensures.stays k (c.loop-i.invariant.stays k l)

pub returns-in_err-fold_one-clause-refused : goal.returns-in_err-fold_one-clause-refused
returns-in_err-fold_one-clause-refused g c =
    let folds = c.args.folds.now in
    let rows = folds.rows.items in
    let fold = c.index-fold.result.now in
    let lt : c.loop-i.i < length rows = omega (arith, c.len-i-end.ensures, c.loop-i-test.true) in
    let at : slice_get rows c.loop-i.i ≡ Some fold = slice_get_read rows (length rows) c.loop-i.i fold refl lt c.index-fold.ensures in
    let outcome = g.D.ConstFoldInterface.outcome in
    let next = c.fold_one.new.ctx.tree in
    let is = subst (λ z. outcome c.loop-i.ctx.tree next fold.op z None) c.known_of-known.ensures c.in_err-fold_one.ensures.refused in
    on_err _ c.from_residual.result (λ t₀ root f₀ s. folding_broken _ outcome c.args.ctx.now.tree folds c.loop-i.i c.loop-i.status c.loop-i.ctx.tree c.loop-i.invariant fold at next is t₀ root f₀ s)
