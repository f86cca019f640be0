use Rattle.pliron_laws.proofs.FoldLemmas.{on_err}
use Rattle.pliron_rewrite_operands.specs.Answers.{Folding}
use Rattle.pliron_opt_canonicalize.proofs.Parts.{folding}
use Rattle.pliron_opt_canonicalize.proofs.Doing.{done_behind, done_partly, same_listed}
use Rattle.pliron_opt_canonicalize.proofs.rounds.sweep_in_rounds.Goals as goal

pub fold_rounds-requires-clause-live : goal.fold_rounds-requires-clause-live
fold_rounds-requires-clause-live g c = c.in_ok-swept.ensures.ok.way.change.liveness

pub fold_rounds-requires-clause-linked : goal.fold_rounds-requires-clause-linked
fold_rounds-requires-clause-linked g c = c.in_ok-swept.ensures.ok.way.links c.args.root c.requires.linked

pub fold_rounds-requires-clause-listed : goal.fold_rounds-requires-clause-listed
fold_rounds-requires-clause-listed g c = same_listed c.args.ctx.now.tree c.sweep.new.ctx.tree c.args.root c.args.sites.now c.in_ok-swept.ensures.ok.still c.requires.listed

pub returns-clause-ok : goal.returns-clause-ok
returns-clause-ok g c =
    let x : Folding = folding g.D.HasMeaning.meaning g.D.SideEffects.side_effects g.D.ConstFoldInterface.can_fold g.D.ConstFoldInterface.constants g.D.ConstFoldInterface.accepts g.D.ConstFoldInterface.constant_head g.D.OperandFoldInterface.operand_folds in
    done_behind x c.args.root c.args.sites.now c.args.ctx.now.tree c.sweep.new.ctx.tree c.fold_rounds.new.ctx.tree c.in_ok-swept.swept _ c.is_change.result c.is_change.ensures c.if-not-is_change.false c.in_ok-swept.ensures.ok c.in_ok-fold_rounds.ensures.ok

pub returns-in_err-fold_rounds-clause-refused : goal.returns-in_err-fold_rounds-clause-refused
returns-in_err-fold_rounds-clause-refused g c =
    let x : Folding = folding g.D.HasMeaning.meaning g.D.SideEffects.side_effects g.D.ConstFoldInterface.can_fold g.D.ConstFoldInterface.constants g.D.ConstFoldInterface.accepts g.D.ConstFoldInterface.constant_head g.D.OperandFoldInterface.operand_folds in
    on_err _ c.from_residual-in_err-fold_rounds.result (done_partly x c.args.root c.args.ctx.now.tree c.sweep.new.ctx.tree c.fold_rounds.new.ctx.tree _ _ c.in_ok-swept.ensures.ok c.in_err-fold_rounds.ensures.refused)
