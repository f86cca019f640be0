use Rattle.std.proofs.Common.{◌≡◌, ap, ◌∙◌, sym, subst, None, Some}
use Rattle.std.specs.Option.{is_some}
use Rattle.pliron_core.specs.Lists.{first_of, next_in}
use Rattle.pliron_core.specs.Tree.{IsLive}
use Rattle.pliron_core.specs.Walks.{children, preorder}
use Rattle.pliron_core.proofs.WalkLemmas.{within_live}
use Rattle.pliron_core.proofs.NextLemmas.{or_found, or_passed}
use Rattle.pliron_core.proofs.WalkStepLemmas.{continues, next_walked, next_inside-if, next_live-if}
use Rattle.pliron_core.proofs.context.walk.Ptr+Operation.next_in_preorder.Goals as goal
use Rattle.pliron_core.proofs.context.walk.Ptr+Operation.next_in_preorder.Goals.{After-first_from_region, After-new, After-next_after}

pub first_from_region-requires : goal.first_from_region-requires
first_from_region-requires c =
    subst (IsLive c.args.ctx.now.tree) (sym c.index.ensures) (within_live c.args.ctx.now.tree c.well_formed-2.ensures.tree c.args.root c.args.self c.requires.live c.requires.within)

child : (c : After-first_from_region) → c.first_from_region.result ≡ first_of (children c.args.ctx.now.tree c.args.self) None
child c = c.first_from_region.ensures ∙ ap (λ k. first_of (children c.args.ctx.now.tree k) None) c.index.ensures

-- the first child is the next, and without one what follows
down : (c : After-new) → c.first_from_region.result ≡ first_of (children c.args.ctx.now.tree c.args.self) None → Some c.new.result ≡ next_in c.args.self (preorder c.args.ctx.now.tree c.args.root)
down c first =
    let g = continues c.args.ctx.now.tree c.well_formed-2.ensures.tree c.args.root c.args.self c.requires.within in
    sym (next_walked c.args.ctx.now.tree c.well_formed-2.ensures.tree c.args.root c.args.self g.0 g.1 ∙ or_found c.first_from_region.result _ g.0 first (ap is_some c.in-Some.is) ∙ c.in-Some.is ∙ ap Some (sym c.new.ensures))

on : (c : After-next_after) → c.first_from_region.result ≡ first_of (children c.args.ctx.now.tree c.args.self) None → c.next_after.result ≡ next_in c.args.self (preorder c.args.ctx.now.tree c.args.root)
on c first =
    sym (next_walked c.args.ctx.now.tree c.well_formed-2.ensures.tree c.args.root c.args.self c.next_after.result c.next_after.ensures ∙ or_passed c.first_from_region.result _ c.next_after.result first (ap is_some c.in-None.is))

pub returns-in-Some-clause-next : goal.returns-in-Some-clause-next
returns-in-Some-clause-next c = let at = goal.at.returns-in-Some-clause-next c in down at.After-new (child at.After-first_from_region)

pub returns-in-Some-clause-live : goal.returns-in-Some-clause-live
returns-in-Some-clause-live c =
    let at = goal.at.returns-in-Some-clause-live c in
    next_live-if c.args.ctx.now.tree c.well_formed-2.ensures.tree c.args.root c.args.self (Some c.new.result) (down at.After-new (child at.After-first_from_region))

pub returns-in-Some-clause-inside : goal.returns-in-Some-clause-inside
returns-in-Some-clause-inside c =
    let at = goal.at.returns-in-Some-clause-inside c in
    next_inside-if c.args.ctx.now.tree c.well_formed-2.ensures.tree c.args.root c.args.self (Some c.new.result) (down at.After-new (child at.After-first_from_region))

pub returns-in-None-clause-next : goal.returns-in-None-clause-next
returns-in-None-clause-next c = let at = goal.at.returns-in-None-clause-next c in on at.After-next_after (child at.After-first_from_region)

pub returns-in-None-clause-live : goal.returns-in-None-clause-live
returns-in-None-clause-live c =
    let at = goal.at.returns-in-None-clause-live c in
    next_live-if c.args.ctx.now.tree c.well_formed-2.ensures.tree c.args.root c.args.self c.next_after.result (on at.After-next_after (child at.After-first_from_region))

pub returns-in-None-clause-inside : goal.returns-in-None-clause-inside
returns-in-None-clause-inside c =
    let at = goal.at.returns-in-None-clause-inside c in
    next_inside-if c.args.ctx.now.tree c.well_formed-2.ensures.tree c.args.root c.args.self c.next_after.result (on at.After-next_after (child at.After-first_from_region))
