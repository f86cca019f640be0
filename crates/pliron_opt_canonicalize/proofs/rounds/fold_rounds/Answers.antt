use Rattle.std.proofs.Common.{sym, subst}
use Rattle.pliron_laws.proofs.FoldLemmas.{on_err}
use Rattle.pliron_rewrite_operands.specs.Answers.{Folding}
use Rattle.pliron_opt_canonicalize.specs.Steps.{AreDone}
use Rattle.pliron_opt_canonicalize.proofs.Parts.{folding}
use Rattle.pliron_opt_canonicalize.proofs.Doing.{done_nothing, done_partly, done_start, partly, partly_start, same_listed}
use Rattle.pliron_opt_canonicalize.proofs.rounds.fold_rounds.Goals as goal

pub rounds-init : goal.rounds-init
rounds-init g c =
    let x : Folding = folding g.D.HasMeaning.meaning g.D.SideEffects.side_effects g.D.ConstFoldInterface.can_fold g.D.ConstFoldInterface.constants g.D.ConstFoldInterface.accepts g.D.ConstFoldInterface.constant_head g.D.OperandFoldInterface.operand_folds in
    done_start x c.args.root c.args.ctx.now.tree c.requires.live c.requires.linked (λ f. ⊥) (λ f u never fold. never)

pub fold_round-requires-clause-live : goal.fold_round-requires-clause-live
fold_round-requires-clause-live g c = c.rounds.invariant.way.change.liveness

pub fold_round-requires-clause-linked : goal.fold_round-requires-clause-linked
fold_round-requires-clause-linked g c = c.rounds.invariant.way.links c.args.root c.requires.linked

pub fold_round-requires-clause-listed : goal.fold_round-requires-clause-listed
fold_round-requires-clause-listed g c = same_listed c.args.ctx.now.tree c.rounds.ctx.tree c.args.root c.args.sites.now c.rounds.invariant.still c.requires.listed

pub rounds-preserved : goal.rounds-preserved
rounds-preserved g c =
    let x : Folding = folding g.D.HasMeaning.meaning g.D.SideEffects.side_effects g.D.ConstFoldInterface.can_fold g.D.ConstFoldInterface.constants g.D.ConstFoldInterface.accepts g.D.ConstFoldInterface.constant_head g.D.OperandFoldInterface.operand_folds in
    let t0 = c.args.ctx.now.tree in
    let t' = c.fold_round.new.ctx.tree in
    subst (λ z. AreDone x t0 t' c.args.root (λ f. ⊥) z) (sym c.bitor_assign.ensures.after)
    (done_nothing x c.args.root t0 c.rounds.ctx.tree t' c.rounds.status c.in_ok-folded.folded c.rounds.invariant c.in_ok-folded.ensures.ok)

pub returns-in_err-places-clause-refused : goal.returns-in_err-places-clause-refused
returns-in_err-places-clause-refused g c =
    let x : Folding = folding g.D.HasMeaning.meaning g.D.SideEffects.side_effects g.D.ConstFoldInterface.can_fold g.D.ConstFoldInterface.constants g.D.ConstFoldInterface.accepts g.D.ConstFoldInterface.constant_head g.D.OperandFoldInterface.operand_folds in
    on_err _ c.from_residual.result (partly_start x c.args.root c.args.ctx.now.tree c.requires.live c.requires.linked)

pub returns-in_err-round-clause-refused : goal.returns-in_err-round-clause-refused
returns-in_err-round-clause-refused g c =
    let x : Folding = folding g.D.HasMeaning.meaning g.D.SideEffects.side_effects g.D.ConstFoldInterface.can_fold g.D.ConstFoldInterface.constants g.D.ConstFoldInterface.accepts g.D.ConstFoldInterface.constant_head g.D.OperandFoldInterface.operand_folds in
    on_err _ c.from_residual-in_err-round.result (partly x c.args.root c.args.ctx.now.tree c.rounds.ctx.tree _ _ c.rounds.invariant)

pub returns-in_err-folded-clause-refused : goal.returns-in_err-folded-clause-refused
returns-in_err-folded-clause-refused g c =
    let x : Folding = folding g.D.HasMeaning.meaning g.D.SideEffects.side_effects g.D.ConstFoldInterface.can_fold g.D.ConstFoldInterface.constants g.D.ConstFoldInterface.accepts g.D.ConstFoldInterface.constant_head g.D.OperandFoldInterface.operand_folds in
    on_err _ c.from_residual-in_err-folded.result (done_partly x c.args.root c.args.ctx.now.tree c.rounds.ctx.tree c.fold_round.new.ctx.tree _ _ c.rounds.invariant c.in_err-folded.ensures.refused)
