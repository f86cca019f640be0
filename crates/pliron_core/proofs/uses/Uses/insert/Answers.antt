use Rattle.std.proofs.Common.{◌<◌, ◌≤◌, length, map, set, get_or, [], ◌∷◌, ◌++◌, ap, sym, ◌∙◌, arith}
use Rattle.std.specs.List.{insert}
use Rattle.std.proofs.lemmas.List.{length-map, set-set}
use Rattle.pliron_core.specs.UseSlots.{ranked_use, targets_in}
use Rattle.pliron_core.proofs.InsertLemmas.{last-linked, last-targets, last-row, last-index}
use Rattle.pliron_core.proofs.uses.Uses.insert.Goals as goal
use Rattle.pliron_core.proofs.uses.Uses.insert.Goals.{After-make_gap}

-- the user and the target, where the slots are settled
user-there : (c : After-make_gap) → c.args.user < length (targets_in c.make_gap.new.places.items)
user-there c =
    let r = rw (← c.self.view_is) at c.requires in
    omega (arith, r.user, ap length (c.make_gap.ensures.targets ∙ c.settle_places.ensures.targets))

target-there : (c : After-make_gap) → c.args.target < length c.settle_places.new.uses.items
target-there c =
    let r = rw (← c.self.view_is) at c.requires in
    omega (arith, r.target, ap length c.settle_places.ensures.uses, length-map c.self.inside.uses.items (map (ranked_use c.self.inside.places.items)), length-map c.settle_places.new.uses.items (map (ranked_use c.settle_places.new.places.items)))

pub lower_last-requires-clause-linked : goal.lower_last-requires-clause-linked
lower_last-requires-clause-linked c =
    let k = (goal.at.lower_last-requires-clause-linked c).After-make_gap in
    last-linked _ _ c.make_gap.new.holes.items _ _ c.args.user c.args.target c.make_gap.ensures.linked c.make_gap.ensures.gapped (user-there k) (target-there k) c.in_ok-push_slot.ensures.places c.in_ok-push_slot.ensures.uses

pub lower_last-requires-clause-index : goal.lower_last-requires-clause-index
lower_last-requires-clause-index c =
    let k = (goal.at.lower_last-requires-clause-index c).After-make_gap in
    let r = rw (← c.self.view_is) at c.requires in
    let same = ap (λ t. length (get_or t c.args.user [])) (c.make_gap.ensures.targets ∙ c.settle_places.ensures.targets) in
    let h : c.args.place ≤ length (get_or (targets_in c.make_gap.new.places.items) c.args.user []) = omega (arith, r.place, same) in
    last-index _ _ c.make_gap.new.holes.items _ _ c.args.user c.args.target c.make_gap.ensures.linked c.make_gap.ensures.gapped (user-there k) (target-there k) c.in_ok-push_slot.ensures.places c.in_ok-push_slot.ensures.uses c.args.place h

pub returns-clause-targets : goal.returns-clause-targets
returns-clause-targets c =
    let k = (goal.at.returns-clause-targets c).After-make_gap in
    let same = c.make_gap.ensures.targets ∙ c.settle_places.ensures.targets in
    let row = last-row _ _ c.make_gap.new.holes.items _ _ c.args.user c.args.target c.make_gap.ensures.linked c.make_gap.ensures.gapped (user-there k) (target-there k) c.in_ok-push_slot.ensures.places c.in_ok-push_slot.ensures.uses in
    rw (← c.self.view_is) (
    c.lower_last.ensures.targets _ _ row
    ∙ ap (λ t. set t c.args.user (insert (get_or (targets_in c.make_gap.new.places.items) c.args.user []) c.args.place c.args.target)) (last-targets _ _ c.make_gap.new.holes.items _ _ c.args.user c.args.target c.make_gap.ensures.linked c.make_gap.ensures.gapped (user-there k) (target-there k) c.in_ok-push_slot.ensures.places c.in_ok-push_slot.ensures.uses)
    ∙ set-set (targets_in c.make_gap.new.places.items) c.args.user _ _
    ∙ ap (λ t. set t c.args.user (insert (get_or t c.args.user []) c.args.place c.args.target)) same
    )
