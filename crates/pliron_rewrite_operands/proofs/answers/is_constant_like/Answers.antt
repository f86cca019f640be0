use Rattle.std.proofs.Common.{◌∙◌, ap, sym, arith}
use Rattle.pliron_laws.proofs.ShapeLemmas.{head_at}
use Rattle.pliron_rewrite_operands.specs.Answers.{Folding}
use Rattle.pliron_laws.specs.Answers.{is_harmless}
use Rattle.pliron_rewrite_operands.proofs.Known.{folding, operands_unlike, regions_unlike, results_unlike, folds_unlike, folds_alike}
use Rattle.pliron_rewrite_operands.proofs.answers.is_constant_like.Goals as goal
use Rattle.pliron_rewrite_operands.proofs.answers.is_constant_like.Goals.{then-num_operand-ne0-via-then-num_operand-ne0, then-num_operand-ne0-via-else-num_operand-ne0+then-num_region-ne0, then-num_operand-ne0-via-else-num_operand-ne0+else-num_region-ne0+then-num_result-ne1}

pub returns-then-num_operand-ne0 : goal.returns-then-num_operand-ne0
returns-then-num_operand-ne0 g c = λ o at.
    let x : Folding = folding g.D.HasMeaning.meaning g.D.SideEffects.side_effects g.D.ConstFoldInterface.can_fold g.D.ConstFoldInterface.constants g.D.ConstFoldInterface.accepts g.D.ConstFoldInterface.constant_head g.D.OperandFoldInterface.operand_folds in
    elim c.then-num_operand-ne0.branch [
      | then-num_operand-ne0-via-then-num_operand-ne0 w ↦ operands_unlike x c.args.ctx.now.tree c.args.op o at (λ e. grind (arith, c.num_operand.ensures, w.if-num_operand-ne0.true, e))
      | then-num_operand-ne0-via-else-num_operand-ne0+then-num_region-ne0 w ↦ regions_unlike x c.args.ctx.now.tree c.args.op o at (λ e. grind (arith, w.num_region.ensures, w.if-num_region-ne0.true, e))
      | then-num_operand-ne0-via-else-num_operand-ne0+else-num_region-ne0+then-num_result-ne1 w ↦ results_unlike x c.args.ctx.now.tree c.args.op o at (λ e. grind (arith, w.num_result.ensures, w.if-num_result-ne1.true, e))
    ]

pub returns-then-not-folds : goal.returns-then-not-folds
returns-then-not-folds g c = λ o at.
    let x : Folding = folding g.D.HasMeaning.meaning g.D.SideEffects.side_effects g.D.ConstFoldInterface.can_fold g.D.ConstFoldInterface.constants g.D.ConstFoldInterface.accepts g.D.ConstFoldInterface.constant_head g.D.OperandFoldInterface.operand_folds in
    let t = c.args.ctx.now.tree in
    folds_unlike x t c.args.op o at (grind (arith, c.num_operand.ensures, c.if-num_operand-ne0.false)) (grind (arith, c.num_region.ensures, c.if-num_region-ne0.false)) (grind (arith, c.num_result.ensures, c.if-num_result-ne1.false))
    (sym (c.folds.ensures o.head (head_at t c.args.op o at)) ∙ c.if-not-folds.true)

pub returns : goal.returns
returns g c = λ o at.
    let x : Folding = folding g.D.HasMeaning.meaning g.D.SideEffects.side_effects g.D.ConstFoldInterface.can_fold g.D.ConstFoldInterface.constants g.D.ConstFoldInterface.accepts g.D.ConstFoldInterface.constant_head g.D.OperandFoldInterface.operand_folds in
    let t = c.args.ctx.now.tree in
    c.is_harmless.ensures ∙ ap is_harmless (c.has_side_effects.ensures o.head (head_at t c.args.op o at))
    ∙ folds_alike x t c.args.op o at (grind (arith, c.num_operand.ensures, c.if-num_operand-ne0.false)) (grind (arith, c.num_region.ensures, c.if-num_region-ne0.false)) (grind (arith, c.num_result.ensures, c.if-num_result-ne1.false))
    (sym (c.folds.ensures o.head (head_at t c.args.op o at)) ∙ c.if-not-folds.false)
