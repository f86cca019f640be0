use Rattle.std.proofs.Common.{rules, ◌<◌, OnOk, sym, subst}
use Rattle.pliron_rewrite_operands.specs.Answers.{Folding}
use Rattle.pliron_opt_canonicalize.specs.Folds.{FoldInTurn}
use Rattle.pliron_opt_canonicalize.specs.Steps.{IsFolding}
use Rattle.pliron_opt_canonicalize.proofs.Parts.{folding}
use Rattle.pliron_opt_canonicalize.proofs.Doing.{done_partly, folding_next, folding_smaller, folding_start, folds_left, reports, same_itself, tells_fewer, tells_same}
use Rattle.pliron_opt_canonicalize.proofs.rounds.fold_all.Goals as goal

pub loop-folds_again-init : goal.loop-folds_again-init
loop-folds_again-init g c =
    let x : Folding = folding g.D.HasMeaning.meaning g.D.SideEffects.side_effects g.D.ConstFoldInterface.can_fold g.D.ConstFoldInterface.constants g.D.ConstFoldInterface.accepts g.D.ConstFoldInterface.constant_head g.D.OperandFoldInterface.operand_folds in
    folding_start x c.args.root c.args.sites.now c.args.ctx.now.tree c.requires.live c.requires.linked c.requires.listed

pub sweep_in_rounds-requires-clause-live : goal.sweep_in_rounds-requires-clause-live
sweep_in_rounds-requires-clause-live g c = c.loop-folds_again.invariant.done.way.change.liveness

pub sweep_in_rounds-requires-clause-linked : goal.sweep_in_rounds-requires-clause-linked
sweep_in_rounds-requires-clause-linked g c = c.loop-folds_again.invariant.done.way.links c.args.root c.requires.linked

pub sweep_in_rounds-requires-clause-listed : goal.sweep_in_rounds-requires-clause-listed
sweep_in_rounds-requires-clause-listed g c = c.loop-folds_again.invariant.listed

pub loop-folds_again-preserved : goal.loop-folds_again-preserved
loop-folds_again-preserved g c =
    let x : Folding = folding g.D.HasMeaning.meaning g.D.SideEffects.side_effects g.D.ConstFoldInterface.can_fold g.D.ConstFoldInterface.constants g.D.ConstFoldInterface.accepts g.D.ConstFoldInterface.constant_head g.D.OperandFoldInterface.operand_folds in
    let t0 = c.args.ctx.now.tree in
    let t = c.loop-folds_again.ctx.tree in
    let root = c.args.root in
    let sites = c.args.sites.now in
    let h = subst (IsFolding x t0 t root sites c.loop-folds_again.status) c.loop-folds_again-test.true c.loop-folds_again.invariant in
    subst (λ z. IsFolding x t0 c.sweep_in_rounds.new.ctx.tree root sites z c.is_change-folds_again.result) (sym c.bitor_assign.ensures.after)
    (folding_next x root sites t0 t c.sweep_in_rounds.new.ctx.tree c.loop-folds_again.status c.in_ok-swept.swept c.is_change-folds_again.result h c.in_ok-swept.ensures.ok c.is_change-folds_again.ensures)

pub loop-folds_again-smaller : goal.loop-folds_again-smaller
loop-folds_again-smaller g c =
    let x : Folding = folding g.D.HasMeaning.meaning g.D.SideEffects.side_effects g.D.ConstFoldInterface.can_fold g.D.ConstFoldInterface.constants g.D.ConstFoldInterface.accepts g.D.ConstFoldInterface.constant_head g.D.OperandFoldInterface.operand_folds in
    let t = c.loop-folds_again.ctx.tree in
    let root = c.args.root in
    let sites = c.args.sites.now in
    subst (λ z. folds_left c.sweep_in_rounds.new.ctx.tree c.is_change-folds_again.result < folds_left t z) (sym c.loop-folds_again-test.true)
    (folding_smaller x root sites t c.sweep_in_rounds.new.ctx.tree c.in_ok-swept.swept c.is_change-folds_again.result c.in_ok-swept.ensures.ok c.is_change-folds_again.ensures)

pub returns-in_err-swept-clause-way : goal.returns-in_err-swept-clause-way
returns-in_err-swept-clause-way g c =
    let x : Folding = folding g.D.HasMeaning.meaning g.D.SideEffects.side_effects g.D.ConstFoldInterface.can_fold g.D.ConstFoldInterface.constants g.D.ConstFoldInterface.accepts g.D.ConstFoldInterface.constant_head g.D.OperandFoldInterface.operand_folds in
    (done_partly x c.args.root c.args.ctx.now.tree c.loop-folds_again.ctx.tree c.sweep_in_rounds.new.ctx.tree _ c.loop-folds_again.status c.loop-folds_again.invariant.done c.in_err-swept.ensures.refused).way

pub returns-in_err-swept-clause-folded : goal.returns-in_err-swept-clause-folded
returns-in_err-swept-clause-folded g c =
    let x : Folding = folding g.D.HasMeaning.meaning g.D.SideEffects.side_effects g.D.ConstFoldInterface.can_fold g.D.ConstFoldInterface.constants g.D.ConstFoldInterface.accepts g.D.ConstFoldInterface.constant_head g.D.OperandFoldInterface.operand_folds in
    let r = (done_partly x c.args.root c.args.ctx.now.tree c.loop-folds_again.ctx.tree c.sweep_in_rounds.new.ctx.tree _ c.loop-folds_again.status c.loop-folds_again.invariant.done c.in_err-swept.ensures.refused).folded in
    let none : OnOk c.from_residual.result (FoldInTurn x c.args.root r.0 c.args.ctx.now.tree c.sweep_in_rounds.new.ctx.tree) = search rules in
    (r.0, r.1, none)

pub returns-clause-way : goal.returns-clause-way
returns-clause-way g c = c.loop-folds_again.invariant.done.way

pub returns-clause-folded : goal.returns-clause-folded
returns-clause-folded g c =
    let h = c.loop-folds_again.invariant in
    let t0 = c.args.ctx.now.tree in
    let t = c.loop-folds_again.ctx.tree in
    let root = c.args.root in
    let sites = c.args.sites.now in
    (h.done.folded.0, (t, h.done.folded.1, same_itself t), h.done.folded.1)

pub returns-clause-none : goal.returns-clause-none
returns-clause-none g c = c.loop-folds_again.invariant.over c.loop-folds_again-test.false

pub returns-clause-status : goal.returns-clause-status
returns-clause-status g c =
    let x : Folding = folding g.D.HasMeaning.meaning g.D.SideEffects.side_effects g.D.ConstFoldInterface.can_fold g.D.ConstFoldInterface.constants g.D.ConstFoldInterface.accepts g.D.ConstFoldInterface.constant_head g.D.OperandFoldInterface.operand_folds in
    let h = c.loop-folds_again.invariant in
    let t0 = c.args.ctx.now.tree in
    let t = c.loop-folds_again.ctx.tree in
    let root = c.args.root in
    let sites = c.args.sites.now in
    reports x root t0 t c.loop-folds_again.status h.done.accurate (h.over c.loop-folds_again-test.false)

pub returns-clause-accurate : goal.returns-clause-accurate
returns-clause-accurate g c =
    let x : Folding = folding g.D.HasMeaning.meaning g.D.SideEffects.side_effects g.D.ConstFoldInterface.can_fold g.D.ConstFoldInterface.constants g.D.ConstFoldInterface.accepts g.D.ConstFoldInterface.constant_head g.D.OperandFoldInterface.operand_folds in
    let h = c.loop-folds_again.invariant in
    let t0 = c.args.ctx.now.tree in
    let t = c.loop-folds_again.ctx.tree in
    let root = c.args.root in
    let sites = c.args.sites.now in
    tells_same x root t0 t c.loop-folds_again.status h.done.accurate

pub returns-clause-fewer : goal.returns-clause-fewer
returns-clause-fewer g c =
    let x : Folding = folding g.D.HasMeaning.meaning g.D.SideEffects.side_effects g.D.ConstFoldInterface.can_fold g.D.ConstFoldInterface.constants g.D.ConstFoldInterface.accepts g.D.ConstFoldInterface.constant_head g.D.OperandFoldInterface.operand_folds in
    let h = c.loop-folds_again.invariant in
    let t0 = c.args.ctx.now.tree in
    let t = c.loop-folds_again.ctx.tree in
    let root = c.args.root in
    let sites = c.args.sites.now in
    tells_fewer x root t0 t c.loop-folds_again.status h.done.accurate
