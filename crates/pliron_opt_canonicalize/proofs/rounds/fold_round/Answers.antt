use Rattle.std.proofs.Common.{sym, subst}
use Rattle.pliron_laws.proofs.FoldLemmas.{on_err}
use Rattle.pliron_rewrite_operands.specs.Answers.{Folding}
use Rattle.pliron_opt_canonicalize.specs.Steps.{AreDone}
use Rattle.pliron_opt_canonicalize.proofs.Parts.{folding}
use Rattle.pliron_opt_canonicalize.proofs.Doing.{done_nothing, done_partly, done_start, same_listed}
use Rattle.pliron_opt_canonicalize.proofs.rounds.fold_round.Goals as goal

pub loop-i-init : goal.loop-i-init
loop-i-init g c =
    let x : Folding = folding g.D.HasMeaning.meaning g.D.SideEffects.side_effects g.D.ConstFoldInterface.can_fold g.D.ConstFoldInterface.constants g.D.ConstFoldInterface.accepts g.D.ConstFoldInterface.constant_head g.D.OperandFoldInterface.operand_folds in
    done_start x c.args.root c.args.ctx.now.tree c.requires.live c.requires.linked (λ f. ⊥) (λ f u never fold. never)

pub fold_at-requires-clause-live : goal.fold_at-requires-clause-live
fold_at-requires-clause-live g c = c.loop-i.invariant.way.change.liveness

pub fold_at-requires-clause-linked : goal.fold_at-requires-clause-linked
fold_at-requires-clause-linked g c = c.loop-i.invariant.way.links c.args.root c.requires.linked

pub fold_at-requires-clause-listed : goal.fold_at-requires-clause-listed
fold_at-requires-clause-listed g c = same_listed c.args.ctx.now.tree c.loop-i.ctx.tree c.args.root c.args.sites.now c.loop-i.invariant.still c.requires.listed

pub loop-i-preserved : goal.loop-i-preserved
loop-i-preserved g c =
    let x : Folding = folding g.D.HasMeaning.meaning g.D.SideEffects.side_effects g.D.ConstFoldInterface.can_fold g.D.ConstFoldInterface.constants g.D.ConstFoldInterface.accepts g.D.ConstFoldInterface.constant_head g.D.OperandFoldInterface.operand_folds in
    let t0 = c.args.ctx.now.tree in
    let t' = c.fold_at.new.ctx.tree in
    subst (λ z. AreDone x t0 t' c.args.root (λ f. ⊥) z) (sym c.bitor_assign.ensures.after)
    (done_nothing x c.args.root t0 c.loop-i.ctx.tree t' c.loop-i.status c.in_ok-folded.folded c.loop-i.invariant c.in_ok-folded.ensures.ok)

pub returns-in_err-folded-clause-refused : goal.returns-in_err-folded-clause-refused
returns-in_err-folded-clause-refused g c =
    let x : Folding = folding g.D.HasMeaning.meaning g.D.SideEffects.side_effects g.D.ConstFoldInterface.can_fold g.D.ConstFoldInterface.constants g.D.ConstFoldInterface.accepts g.D.ConstFoldInterface.constant_head g.D.OperandFoldInterface.operand_folds in
    on_err _ c.from_residual.result (done_partly x c.args.root c.args.ctx.now.tree c.loop-i.ctx.tree c.fold_at.new.ctx.tree _ _ c.loop-i.invariant c.in_err-folded.ensures.refused)
