use Rattle.std.proofs.Common.{◌∙◌, ap, arith}
use Rattle.pliron_laws.proofs.ShapeLemmas.{head_at}
use Rattle.pliron_rewrite_rules.specs.Tables.{RuleTables}
use Rattle.pliron_laws.specs.Answers.{is_harmless}
use Rattle.pliron_rewrite_rules.proofs.ShownLemmas.{tables, impure_results, impure_successors, impure_regions, pure_effects}
use Rattle.pliron_rewrite_rules.proofs.seeing.is_pure.Goals as goal

pub returns-then-num_result-ne1 : goal.returns-then-num_result-ne1
returns-then-num_result-ne1 g c = λ o at.
    let x : RuleTables = tables g.D.HasMeaning.meaning g.D.SideEffects.side_effects g.D.ConstFoldInterface.can_fold g.D.ConstFoldInterface.constants g.D.ConstFoldInterface.accepts g.D.ConstFoldInterface.constant_head in
    impure_results x c.args.ctx.now.tree c.args.op o at (λ e. grind (arith, c.num_result.ensures, c.if-num_result-ne1.true, e))

pub returns-then-num_successor-ne0 : goal.returns-then-num_successor-ne0
returns-then-num_successor-ne0 g c = λ o at.
    let x : RuleTables = tables g.D.HasMeaning.meaning g.D.SideEffects.side_effects g.D.ConstFoldInterface.can_fold g.D.ConstFoldInterface.constants g.D.ConstFoldInterface.accepts g.D.ConstFoldInterface.constant_head in
    impure_successors x c.args.ctx.now.tree c.args.op o at (grind (arith, c.num_result.ensures, c.if-num_result-ne1.false)) (λ e. grind (arith, c.num_successor.ensures, c.if-num_successor-ne0.true, e))

pub returns-then-num_region-ne0 : goal.returns-then-num_region-ne0
returns-then-num_region-ne0 g c = λ o at.
    let x : RuleTables = tables g.D.HasMeaning.meaning g.D.SideEffects.side_effects g.D.ConstFoldInterface.can_fold g.D.ConstFoldInterface.constants g.D.ConstFoldInterface.accepts g.D.ConstFoldInterface.constant_head in
    impure_regions x c.args.ctx.now.tree c.args.op o at (grind (arith, c.num_result.ensures, c.if-num_result-ne1.false)) (grind (arith, c.num_successor.ensures, c.if-num_successor-ne0.false)) (λ e. grind (arith, c.num_region.ensures, c.if-num_region-ne0.true, e))

pub returns : goal.returns
returns g c = λ o at.
    let x : RuleTables = tables g.D.HasMeaning.meaning g.D.SideEffects.side_effects g.D.ConstFoldInterface.can_fold g.D.ConstFoldInterface.constants g.D.ConstFoldInterface.accepts g.D.ConstFoldInterface.constant_head in
    c.is_harmless.ensures ∙ ap is_harmless (c.has_side_effects.ensures o.head (head_at c.args.ctx.now.tree c.args.op o at))
    ∙ pure_effects x c.args.ctx.now.tree c.args.op o at (grind (arith, c.num_result.ensures, c.if-num_result-ne1.false)) (grind (arith, c.num_successor.ensures, c.if-num_successor-ne0.false)) (grind (arith, c.num_region.ensures, c.if-num_region-ne0.false))
