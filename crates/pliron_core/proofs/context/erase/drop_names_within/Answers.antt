use Rattle.std.proofs.Common.{◌≡◌, ◌<◌, ℕ, length, Option, Some, None, IfSome, sym, subst}
use Rattle.pliron_core.specs.Tree.{Tree, IsLive}
use Rattle.pliron_core.specs.Walks.{preorder}
use Rattle.pliron_core.specs.WalkSteps.{rest_from}
use Rattle.pliron_core.proofs.DropLemmas.{IsDropWalk, IsNamesOnly, names_unnamed, walk_within, walk_next, walk_falls, walk_end}
use Rattle.pliron_core.proofs.context.erase.drop_names_within.Goals as goal
use Rattle.pliron_core.proofs.context.erase.drop_names_within.Goals.{In-Some, After-next_in_preorder-at}

here : (c : In-Some) → IsDropWalk c.args.ctx.now.tree c.args.root (Some c.in-Some.key) c.loop-at.ctx.tree
here c = subst (λ o. IsDropWalk c.args.ctx.now.tree c.args.root o c.loop-at.ctx.tree) c.in-Some.is c.loop-at.invariant

pub next_in_preorder-at-requires-clause-within : goal.next_in_preorder-at-requires-clause-within
next_in_preorder-at-requires-clause-within c = walk_within c.args.ctx.now.tree c.args.root c.in-Some.key c.loop-at.ctx.tree c.drop_names.new.ctx.tree c.well_formed-2.ensures.tree c.requires (here (goal.at.next_in_preorder-at-requires-clause-within c).In-Some) c.drop_names.ensures

pub loop-at-smaller : goal.loop-at-smaller
loop-at-smaller c =
    let less : length (rest_from c.next_in_preorder-at.result (preorder c.args.ctx.now.tree c.args.root)) < length (rest_from (Some c.in-Some.key) (preorder c.args.ctx.now.tree c.args.root)) = walk_falls c.args.ctx.now.tree c.args.root c.in-Some.key c.loop-at.ctx.tree c.drop_names.new.ctx.tree c.next_in_preorder-at.result c.well_formed-2.ensures.tree (here (goal.at.loop-at-smaller c).In-Some) (subst (IsNamesOnly c.loop-at.ctx.tree) (sym c.drop_names.ensures) (names_unnamed c.loop-at.ctx.tree c.in-Some.key)) c.next_in_preorder-at.ensures.next in
    subst (λ o. length (rest_from c.next_in_preorder-at.result (preorder c.args.ctx.now.tree c.args.root)) < length (rest_from o (preorder c.args.ctx.now.tree c.args.root))) (sym c.in-Some.is) less

some_live : (t : Tree) (o : Option ℕ) (z : ℕ) → o ≡ Some z → IfSome o (λ op. IsLive t op) → IsLive t z
some_live t None z e l = absurd (cc)
some_live t (Some y) z e l = let f : y ≡ z = cc in subst (IsLive t) f l

pub loop-at-preserved : goal.loop-at-preserved
loop-at-preserved c = walk_next c.args.ctx.now.tree c.args.root c.in-Some.key c.loop-at.ctx.tree c.drop_names.new.ctx.tree c.next_in_preorder-at.result c.well_formed-2.ensures.tree (here (goal.at.loop-at-preserved c).In-Some) c.drop_names.ensures c.next_in_preorder-at.ensures.next (λ z e. some_live c.drop_names.new.ctx.tree c.next_in_preorder-at.result z e c.next_in_preorder-at.ensures.live)

pub returns : goal.returns
returns c = walk_end c.args.ctx.now.tree c.args.root c.loop-at.ctx.tree c.well_formed-2.ensures.tree c.requires (subst (λ o. IsDropWalk c.args.ctx.now.tree c.args.root o c.loop-at.ctx.tree) c.in_default.is c.loop-at.invariant)
