use Rattle.pliron_rewrite_rules.specs.Tables.{RuleTables}
use Rattle.pliron_rewrite_rules.proofs.ShownLemmas.{tables, view_is}
use Rattle.pliron_rewrite_rules.proofs.seeing.view_of.Goals as goal

pub returns-clause-ok : goal.returns-clause-ok
returns-clause-ok g c = λ o at.
    let x : RuleTables = tables g.D.HasMeaning.meaning g.D.SideEffects.side_effects g.D.ConstFoldInterface.can_fold g.D.ConstFoldInterface.constants g.D.ConstFoldInterface.accepts g.D.ConstFoldInterface.constant_head in
    view_is x c.args.ctx.now.tree c.args.op o at c.head.result.now c.in_ok-head.head c.in_ok-operands.operands c.head.ensures c.in_ok-head.ensures.ok c.in_ok-operands.ensures.ok
