use Rattle.std.proofs.Common.{sym, subst, arith}
use Rattle.std.proofs.lemmas.Result.{IfOk-weaker}
use Rattle.pliron_core.specs.Tree.{In}
use Rattle.pliron_graph_order.specs.Seen.{IsSeen}
use Rattle.pliron_laws.proofs.FoldLemmas.{on_err}
use Rattle.pliron_rewrite_rules.specs.Tables.{RuleTables}
use Rattle.pliron_rewrite_rules.proofs.ShownLemmas.{tables}
use Rattle.pliron_opt_combine.proofs.Doing.{done_anything, done_as, done_fewer, done_more, err_as, partly_more, partly_start}
use Rattle.pliron_opt_combine.proofs.sweep.sweep_in_rounds.Goals as goal

pub returns-in_err-order-clause-refused : goal.returns-in_err-order-clause-refused
returns-in_err-order-clause-refused g c =
    let x : RuleTables = tables g.D.HasMeaning.meaning g.D.SideEffects.side_effects g.D.ConstFoldInterface.can_fold g.D.ConstFoldInterface.constants g.D.ConstFoldInterface.accepts g.D.ConstFoldInterface.constant_head in
    on_err _ c.from_residual.result (partly_start x g.L.Rules.rules c.args.root c.args.ctx.now.tree c.requires.live c.requires.linked c.args.left)

pub returns-in_err-work-clause-refused : goal.returns-in_err-work-clause-refused
returns-in_err-work-clause-refused g c =
    let x : RuleTables = tables g.D.HasMeaning.meaning g.D.SideEffects.side_effects g.D.ConstFoldInterface.can_fold g.D.ConstFoldInterface.constants g.D.ConstFoldInterface.accepts g.D.ConstFoldInterface.constant_head in
    on_err _ c.from_residual-in_err-work.result (partly_start x g.L.Rules.rules c.args.root c.args.ctx.now.tree c.requires.live c.requires.linked c.args.left)

pub sweep-requires-clause-seen : goal.sweep-requires-clause-seen
sweep-requires-clause-seen g c = λ k i. (c.in_ok-order.ensures.order.each k).0 (subst (In k) c.deref.ensures.value (c.in_ok-work.ensures.seen k i))

pub returns-then-rest-left-clause-ok : goal.returns-then-rest-left-clause-ok
returns-then-rest-left-clause-ok g c =
    let x : RuleTables = tables g.D.HasMeaning.meaning g.D.SideEffects.side_effects g.D.ConstFoldInterface.can_fold g.D.ConstFoldInterface.constants g.D.ConstFoldInterface.accepts g.D.ConstFoldInterface.constant_head in
    let t = c.args.ctx.now.tree in
    done_as x g.L.Rules.rules c.args.root t c.sweep.new.ctx.tree c.args.left c.in_ok-rest.rest _ (λ k. IsSeen t c.args.root k) (λ k seen. subst (In k) (sym c.deref-2.ensures.value) ((c.in_ok-order.ensures.order.each k).1 seen)) c.in_ok-rest.ensures.ok

pub returns-clause-ok : goal.returns-clause-ok
returns-clause-ok g c =
    let x : RuleTables = tables g.D.HasMeaning.meaning g.D.SideEffects.side_effects g.D.ConstFoldInterface.can_fold g.D.ConstFoldInterface.constants g.D.ConstFoldInterface.accepts g.D.ConstFoldInterface.constant_head in
    let t = c.args.ctx.now.tree in
    let u = c.sweep.new.ctx.tree in
    let t' = c.rewrite_rounds.new.ctx.tree in
    let first = c.in_ok-rest.ensures.ok in
    let le = done_fewer x g.L.Rules.rules c.args.root t u c.args.left c.in_ok-rest.rest _ first in
    let ne = c.if-rest-left.false in
    IfOk-weaker c.rewrite_rounds.result _ _ (λ rest behind.
    let lt = done_fewer x g.L.Rules.rules c.args.root u t' c.in_ok-rest.rest rest (λ k. ⊥) behind in
    done_anything x g.L.Rules.rules c.args.root t t' c.args.left rest _ (λ k. IsSeen t c.args.root k) (omega (arith, le, ne, lt)) (done_more x g.L.Rules.rules c.args.root t u t' c.args.left c.in_ok-rest.rest rest _ (λ k. ⊥) first behind)) c.rewrite_rounds.ensures.ok

pub returns-clause-refused : goal.returns-clause-refused
returns-clause-refused g c =
    let x : RuleTables = tables g.D.HasMeaning.meaning g.D.SideEffects.side_effects g.D.ConstFoldInterface.can_fold g.D.ConstFoldInterface.constants g.D.ConstFoldInterface.accepts g.D.ConstFoldInterface.constant_head in
    let t = c.args.ctx.now.tree in
    err_as c.rewrite_rounds.result (λ behind. partly_more x g.L.Rules.rules c.args.root t c.sweep.new.ctx.tree c.rewrite_rounds.new.ctx.tree c.args.left c.in_ok-rest.rest _ c.in_ok-rest.ensures.ok behind) c.rewrite_rounds.ensures.refused
