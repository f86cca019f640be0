use Rattle.std.proofs.Common.{Some, None, sym, ◌∙◌}
use Rattle.pliron_rewrite_rules.specs.Tables.{RuleTables}
use Rattle.pliron_rewrite_rules.proofs.ShownLemmas.{tables, leaf_unknown, leaf_told}
use Rattle.pliron_rewrite_rules.proofs.seeing.leaf_made.Goals as goal

pub returns-then-not-is_pure-clause-ok : goal.returns-then-not-is_pure-clause-ok
returns-then-not-is_pure-clause-ok g c =
    let x : RuleTables = tables g.D.HasMeaning.meaning g.D.SideEffects.side_effects g.D.ConstFoldInterface.can_fold g.D.ConstFoldInterface.constants g.D.ConstFoldInterface.accepts g.D.ConstFoldInterface.constant_head in
    leaf_unknown x c.args.ctx.now.tree c.args.op c.requires c.is_pure.result c.is_pure.ensures c.if-not-is_pure.true c.args.value

pub returns-in-Some-clause-ok : goal.returns-in-Some-clause-ok
returns-in-Some-clause-ok g c =
    let x : RuleTables = tables g.D.HasMeaning.meaning g.D.SideEffects.side_effects g.D.ConstFoldInterface.can_fold g.D.ConstFoldInterface.constants g.D.ConstFoldInterface.accepts g.D.ConstFoldInterface.constant_head in
    leaf_told x c.args.ctx.now.tree c.args.op c.requires c.is_pure.result c.is_pure.ensures c.if-not-is_pure.false c.args.value (Some c.in-Some.constant) (λ o at. sym c.in-Some.is ∙ c.in_ok-constant.ensures.ok o at)

pub returns-in-None-clause-ok : goal.returns-in-None-clause-ok
returns-in-None-clause-ok g c =
    let x : RuleTables = tables g.D.HasMeaning.meaning g.D.SideEffects.side_effects g.D.ConstFoldInterface.can_fold g.D.ConstFoldInterface.constants g.D.ConstFoldInterface.accepts g.D.ConstFoldInterface.constant_head in
    leaf_told x c.args.ctx.now.tree c.args.op c.requires c.is_pure.result c.is_pure.ensures c.if-not-is_pure.false c.args.value None (λ o at. sym c.in-None.is ∙ c.in_ok-constant.ensures.ok o at)
