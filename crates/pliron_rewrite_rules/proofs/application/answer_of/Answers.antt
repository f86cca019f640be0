use Rattle.std.proofs.lemmas.Result.{IfOk-weaker}
use Rattle.pliron_rewrite_rules.specs.Tables.{RuleTables}
use Rattle.pliron_rewrite_rules.proofs.ShownLemmas.{tables}
use Rattle.pliron_rewrite_rules.proofs.AppliedRules.{none_applies, none_asked, asked_is}
use Rattle.pliron_rewrite_rules.proofs.application.answer_of.Goals as goal

pub returns-then-not-may_apply-clause-ok : goal.returns-then-not-may_apply-clause-ok
returns-then-not-may_apply-clause-ok g c =
    let x : RuleTables = tables g.D.HasMeaning.meaning g.D.SideEffects.side_effects g.D.ConstFoldInterface.can_fold g.D.ConstFoldInterface.constants g.D.ConstFoldInterface.accepts g.D.ConstFoldInterface.constant_head in
    none_applies x g.L.Rules.rules c.args.ctx.now.tree c.args.op c.head.result.now c.head.ensures (c.may_apply.ensures c.if-not-may_apply.true)

pub returns-then-not-is_pure-clause-ok : goal.returns-then-not-is_pure-clause-ok
returns-then-not-is_pure-clause-ok g c =
    let x : RuleTables = tables g.D.HasMeaning.meaning g.D.SideEffects.side_effects g.D.ConstFoldInterface.can_fold g.D.ConstFoldInterface.constants g.D.ConstFoldInterface.accepts g.D.ConstFoldInterface.constant_head in
    none_asked x g.L.Rules.rules c.args.ctx.now.tree c.args.op c.requires c.is_pure.result c.is_pure.ensures c.if-not-is_pure.true

pub returns-clause-ok : goal.returns-clause-ok
returns-clause-ok g c =
    let x : RuleTables = tables g.D.HasMeaning.meaning g.D.SideEffects.side_effects g.D.ConstFoldInterface.can_fold g.D.ConstFoldInterface.constants g.D.ConstFoldInterface.accepts g.D.ConstFoldInterface.constant_head in
    IfOk-weaker c.rewrite.result _ _ (λ answer is. asked_is x g.L.Rules.rules c.args.ctx.now.tree c.args.op c.requires c.is_pure.result c.is_pure.ensures c.if-not-is_pure.false c.in_ok-view.view c.in_ok-view.ensures.ok answer is) c.rewrite.ensures.ok
