use Rattle.std.proofs.Common.{◌<◌, length, map, set, get_or, [], ◌∷◌, ◌++◌, ap, ◌∙◌, arith}
use Rattle.std.proofs.lemmas.List.{length-map}
use Rattle.pliron_core.specs.UseSlots.{ranked_use, targets_in}
use Rattle.pliron_core.proofs.InsertLemmas.{last-linked, last-targets}
use Rattle.pliron_core.proofs.uses.Uses.push.Goals as goal
use Rattle.pliron_core.proofs.uses.Uses.push.Goals.{After-settle_places}

-- the user and the target, where the slots are settled
user-there : (c : After-settle_places) → c.args.user < length (targets_in c.settle_places.new.places.items)
user-there c =
    let r = rw (← c.self.view_is) at c.requires in
    omega (arith, r.user, ap length c.settle_places.ensures.targets)

target-there : (c : After-settle_places) → c.args.target < length c.settle_places.new.uses.items
target-there c =
    let r = rw (← c.self.view_is) at c.requires in
    omega (arith, r.target, ap length c.settle_places.ensures.uses, length-map c.self.inside.uses.items (map (ranked_use c.self.inside.places.items)), length-map c.settle_places.new.uses.items (map (ranked_use c.settle_places.new.places.items)))

pub invariant_of-self-2 : goal.invariant_of-self-2
invariant_of-self-2 c =
    let k = (goal.at.invariant_of-self-2 c).After-settle_places in
    last-linked _ _ c.settle_places.new.holes.items _ _ c.args.user c.args.target c.settle_places.ensures.linked c.settle_places.ensures.gapped (user-there k) (target-there k) c.in_ok-push_slot.ensures.places c.in_ok-push_slot.ensures.uses

pub returns-clause-targets : goal.returns-clause-targets
returns-clause-targets c =
    let k = (goal.at.returns-clause-targets c).After-settle_places in
    rw (← c.self.view_is) (last-targets _ _ c.settle_places.new.holes.items _ _ c.args.user c.args.target c.settle_places.ensures.linked c.settle_places.ensures.gapped (user-there k) (target-there k) c.in_ok-push_slot.ensures.places c.in_ok-push_slot.ensures.uses ∙ ap (λ t. set t c.args.user (get_or t c.args.user [] ++ c.args.target ∷ [])) c.settle_places.ensures.targets)
