use Rattle.std.proofs.Common.{◌≡◌, ap, ◌∙◌, sym, None, ℕ}
use Rattle.std.specs.List.{flat_map}
use Rattle.std.proofs.lemmas.Option.{same_Some}
use Rattle.pliron_core.specs.Lists.{owner_of, next_in_lists, next_in, first_of}
use Rattle.pliron_core.specs.Tree.{View, parent_of, block_parent_of, body_of, layout_of, slot_of}
use Rattle.pliron_core.specs.WalkSteps.{rest_after}
use Rattle.pliron_core.proofs.WalkLemmas.{HasPlace, place_of}
use Rattle.pliron_core.proofs.WalkStepLemmas.{next_in_body, found_in_body, found_in_region, found_later, first_after_block, next_block}
use Rattle.pliron_core.proofs.context.Context.next_sibling.Goals as goal
use Rattle.pliron_core.proofs.context.Context.next_sibling.Goals.{After-next-next, After-first_from_block-next}

-- what the links of the body say
beside : (c : After-next-next) (k : ℕ) (p : HasPlace c.args.self.now.tree c.args.op k) → c.next-next.result ≡ next_in c.args.op (body_of c.args.self.now.tree p.block)
beside c k p =
    c.next-next.ensures.next ∙ next_in_body c.args.self.now.tree c.well_formed-2.ensures.tree c.self.inside.order (ap (λ (v : View). v.tree.bodies) c.self.view_is) (ap (λ (v : View). v.tree.parents) c.self.view_is) c.args.op p.block p.parent

-- the block at hand is the operation's
same_block : (c : After-first_from_block-next) (k : ℕ) (p : HasPlace c.args.self.now.tree c.args.op k) → c.in_ok-block.block ≡ p.block
same_block c k p =
    same_Some c.in_ok-block.block p.block (sym c.in_ok-block.was ∙ c.owner.ensures.owner ∙ ap (λ (v : View). parent_of v.tree c.args.op) c.self.view_is ∙ p.parent)

after_block : (c : After-first_from_block-next) (k : ℕ) (p : HasPlace c.args.self.now.tree c.args.op k) → c.first_from_block-next.result ≡ first_of (flat_map (λ b. body_of c.args.self.now.tree b) (rest_after p.block (layout_of c.args.self.now.tree p.region))) None
after_block c k p =
    first_after_block c.args.self.now.tree c.well_formed-2.ensures.tree c.self.inside.layout (ap (λ (v : View). v.tree.layouts) c.self.view_is) (ap (λ (v : View). v.tree.block_parents) c.self.view_is) p.block p.region c.next.result c.first_from_block-next.result p.in_region (c.next.ensures.next ∙ ap (next_in_lists c.self.inside.layout) (same_block c k p)) c.first_from_block-next.ensures

pub returns-then-is_some : goal.returns-then-is_some
returns-then-is_some c k e =
    let p = place_of c.args.self.now.tree c.args.op k e in
    found_in_body c.args.self.now.tree c.well_formed-2.ensures.tree c.args.op k p c.next-next.result (beside (goal.at.returns-then-is_some c).After-next-next k p) (sym c.if-is_some.ensures)

pub first_from_block-next-requires : goal.first_from_block-next-requires
first_from_block-next-requires c x e =
    next_block c.args.self.now.tree c.well_formed-2.ensures.tree c.self.inside.layout (ap (λ (v : View). v.tree.layouts) c.self.view_is) (ap (λ (v : View). v.tree.block_parents) c.self.view_is) c.in_ok-block.block x (sym c.next.ensures.next ∙ e)

pub returns-then-is_some-2 : goal.returns-then-is_some-2
returns-then-is_some-2 c k e =
    let at = goal.at.returns-then-is_some-2 c in
    let p = place_of c.args.self.now.tree c.args.op k e in
    found_in_region c.args.self.now.tree c.well_formed-2.ensures.tree c.args.op k p c.next-next.result c.first_from_block-next.result (beside at.After-next-next k p) (sym c.if-is_some.ensures) (after_block at.After-first_from_block-next k p) (sym c.if-is_some-2.ensures)

pub returns : goal.returns
returns c k e =
    let at = goal.at.returns c in
    let p = place_of c.args.self.now.tree c.args.op k e in
    let region : c.in_ok-region.region ≡ p.region = same_Some c.in_ok-region.region p.region (sym c.in_ok-region.was ∙ c.owner-2.ensures.owner ∙ ap (owner_of c.self.inside.layout) (same_block at.After-first_from_block-next k p) ∙ ap (λ (v : View). block_parent_of v.tree p.block) c.self.view_is ∙ p.in_region) in
    found_later c.args.self.now.tree c.well_formed-2.ensures.tree c.args.op k p c.next-next.result c.first_from_block-next.result c.first_after_region.result (beside at.After-next-next k p) (sym c.if-is_some.ensures) (after_block at.After-first_from_block-next k p) (sym c.if-is_some-2.ensures) (c.first_after_region.ensures (record { op = k; index = p.index }) (ap (slot_of c.args.self.now.tree) region ∙ p.slot))
