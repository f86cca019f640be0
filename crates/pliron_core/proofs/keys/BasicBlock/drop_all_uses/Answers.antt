use Rattle.std.proofs.Common.{◌≡◌, ◌<◌, length, nat_eq, Some, sym, ap, ◌∙◌, subst, arith}
use Rattle.pliron_core.specs.Lists.{next_in_owner}
use Rattle.pliron_core.specs.Tree.{View, IsLive, body_of, next_in, parent_of}
use Rattle.pliron_core.specs.Erased.{names_dropped}
use Rattle.pliron_core.specs.UseTables.{view_of}
use Rattle.pliron_core.specs.WalkSteps.{rest_from}
use Rattle.pliron_core.proofs.TreeLemmas.{live-within}
use Rattle.pliron_core.proofs.DropLemmas.{IsBlockPass, pass_live, pass_next, pass_falls, pass_end}
use Rattle.pliron_core.proofs.keys.BasicBlock.drop_all_uses.Goals as goal
use Rattle.pliron_core.proofs.keys.BasicBlock.drop_all_uses.Goals.{In-Some, After-well_formed-in-Some, After-next-at}

here : (c : In-Some) → IsBlockPass c.args.ctx.now.tree c.args.block (Some c.in-Some.op) c.loop-at.ctx.tree
here c = subst (λ o. IsBlockPass c.args.ctx.now.tree c.args.block o c.loop-at.ctx.tree) c.in-Some.is c.loop-at.invariant

dropped : (c : After-well_formed-in-Some) → c.drop_names_within.new.ctx.tree ≡ names_dropped c.loop-at.ctx.tree (nat_eq c.in-Some.op)
dropped c = c.drop_names_within.ensures ∙ ap (λ z. names_dropped c.loop-at.ctx.tree (nat_eq z)) c.new.ensures

-- the operation stands in the block still
liveness : (c : After-well_formed-in-Some) → IsBlockPass c.args.ctx.now.tree c.args.block (Some c.in-Some.op) c.loop-at.ctx.tree → IsLive (view_of c.ctx-in-Some.inside).tree c.in-Some.op × (parent_of (view_of c.ctx-in-Some.inside).tree c.in-Some.op ≡ Some c.args.block)
liveness c d =
    let s = pass_live c.args.ctx.now.tree c.args.block c.in-Some.op c.loop-at.ctx.tree c.well_formed-2.ensures.tree d in
    let e = ap (λ (v : View). v.tree) c.ctx-in-Some.view_is ∙ dropped c in
    (subst (λ z. IsLive z c.in-Some.op) (sym e) s.0, ap (λ z. parent_of z c.in-Some.op) e ∙ s.1)

next : (c : After-next-at) → parent_of (view_of c.ctx-in-Some.inside).tree c.in-Some.op ≡ Some c.args.block → c.next-at.result ≡ next_in c.in-Some.op (body_of c.drop_names_within.new.ctx.tree c.args.block)
next c at =
    c.next-at.ensures.next
    ∙ ap (λ o. next_in_owner c.ctx-in-Some.inside.order o c.in-Some.op) at
    ∙ ap (λ (v : View). next_in c.in-Some.op (body_of v.tree c.args.block)) c.ctx-in-Some.view_is

pub next-at-requires : goal.next-at-requires
next-at-requires c =
    let h = live-within (view_of c.ctx-in-Some.inside).tree c.in-Some.op (liveness (goal.at.next-at-requires c).After-well_formed-in-Some (here (goal.at.next-at-requires c).In-Some)).0 in
    let k = c.ctx-in-Some.invariant.keys.parents in
    omega (arith, h, k)

pub loop-at-smaller : goal.loop-at-smaller
loop-at-smaller c =
    let less : length (rest_from c.next-at.result (body_of c.args.ctx.now.tree c.args.block)) < length (rest_from (Some c.in-Some.op) (body_of c.args.ctx.now.tree c.args.block)) = pass_falls c.args.ctx.now.tree c.args.block c.in-Some.op c.loop-at.ctx.tree c.drop_names_within.new.ctx.tree c.next-at.result c.well_formed-2.ensures.tree (here (goal.at.loop-at-smaller c).In-Some) (dropped (goal.at.loop-at-smaller c).After-well_formed-in-Some) (next (goal.at.loop-at-smaller c).After-next-at (liveness (goal.at.loop-at-smaller c).After-well_formed-in-Some (here (goal.at.loop-at-smaller c).In-Some)).1) in
    subst (λ o. length (rest_from c.next-at.result (body_of c.args.ctx.now.tree c.args.block)) < length (rest_from o (body_of c.args.ctx.now.tree c.args.block))) (sym c.in-Some.is) less

pub loop-at-preserved : goal.loop-at-preserved
loop-at-preserved c = pass_next c.args.ctx.now.tree c.args.block c.in-Some.op c.loop-at.ctx.tree c.drop_names_within.new.ctx.tree c.next-at.result c.well_formed-2.ensures.tree (here (goal.at.loop-at-preserved c).In-Some) (dropped (goal.at.loop-at-preserved c).After-well_formed-in-Some) (next (goal.at.loop-at-preserved c).After-next-at (liveness (goal.at.loop-at-preserved c).After-well_formed-in-Some (here (goal.at.loop-at-preserved c).In-Some)).1)

pub returns : goal.returns
returns c = pass_end c.args.ctx.now.tree c.args.block c.loop-at.ctx.tree c.well_formed-2.ensures.tree (subst (λ o. IsBlockPass c.args.ctx.now.tree c.args.block o c.loop-at.ctx.tree) c.in_default.is c.loop-at.invariant)
