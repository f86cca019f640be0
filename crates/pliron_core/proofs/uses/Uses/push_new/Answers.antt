use Rattle.std.proofs.Common.{rules, ◌≡◌, ◌+◌, ◌<◌, ◌≤◌, length, map, set, get_or, [], ◌∷◌, ◌++◌, ap, sym, ◌∙◌, arith, length-append}
use Rattle.std.proofs.lemmas.List.{length-map}
use Rattle.pliron_core.specs.UseSlots.{ranked_use, targets_in, uses_in, no_target}
use Rattle.pliron_core.specs.Holes.{AreLinked}
use Rattle.pliron_core.proofs.PlaceLemmas.{linked-target}
use Rattle.pliron_core.proofs.InsertLemmas.{last-linked, last-targets}
use Rattle.pliron_core.proofs.uses.Uses.push_new.Goals as goal
use Rattle.pliron_core.proofs.uses.Uses.push_new.Goals.{After-push_reserved}

user-there : (c : After-push_reserved) → c.args.user < length (targets_in c.settle_places.new.places.items)
user-there c =
    let r = rw (← c.self.view_is) at c.requires in
    omega (arith, r, ap length c.settle_places.ensures.targets)

-- the key of the new target
key : (c : After-push_reserved) → c.in_ok-target.target ≡ length c.self.inside.uses.items
key c = search rules

settled : (c : After-push_reserved) → length c.settle_places.new.uses.items ≡ length c.self.inside.uses.items
settled c = omega (arith, length-map c.settle_places.new.uses.items (map (ranked_use c.settle_places.new.places.items)), length-map c.reserve.new.self.items (map (ranked_use c.self.inside.places.items)), ap length c.settle_places.ensures.uses, ap length c.reserve.ensures.items)

lists : (c : After-push_reserved) → c.push_reserved.new.self.items ≡ c.settle_places.new.uses.items ++ [] ∷ []
lists c = c.push_reserved.ensures.items ∙ ap (λ r. c.settle_places.new.uses.items ++ r ∷ []) c.new.ensures

target-there : (c : After-push_reserved) → c.in_ok-target.target < length c.push_reserved.new.self.items
target-there c = omega (arith, key c, settled c, ap length (lists c), length-append c.settle_places.new.uses.items ([] ∷ []))

linked : (c : After-push_reserved) → AreLinked c.settle_places.new.places.items c.settle_places.new.holes.items c.push_reserved.new.self.items
linked c =
    let few : length (c.settle_places.new.uses.items ++ [] ∷ []) ≤ no_target = omega (arith, key c, settled c, c.in_ok-target.ensures.few, length-append c.settle_places.new.uses.items ([] ∷ [])) in
    rw (lists c) (record { linked = linked-target _ _ few c.settle_places.ensures.linked.linked; holes = c.settle_places.ensures.linked.holes })

pub invariant_of-self-in_default : goal.invariant_of-self-in_default
invariant_of-self-in_default c =
    let k = (goal.at.invariant_of-self-in_default c).After-push_reserved in
    last-linked _ _ c.settle_places.new.holes.items _ _ c.args.user c.in_ok-target.target (linked k) c.settle_places.ensures.gapped (user-there k) (target-there k) c.in_default.ensures.places c.in_default.ensures.uses

pub returns-clause-targets : goal.returns-clause-targets
returns-clause-targets c =
    let k = (goal.at.returns-clause-targets c).After-push_reserved in
    let is : c.in_ok-target.target ≡ length (uses_in c.self.inside.places.items c.self.inside.uses.items) = key k ∙ sym (length-map c.self.inside.uses.items (map (ranked_use c.self.inside.places.items))) in
    rw (← c.self.view_is) (last-targets _ _ c.settle_places.new.holes.items _ _ c.args.user c.in_ok-target.target (linked k) c.settle_places.ensures.gapped (user-there k) (target-there k) c.in_default.ensures.places c.in_default.ensures.uses ∙ ap (λ t. set t c.args.user (get_or t c.args.user [] ++ c.in_ok-target.target ∷ [])) c.settle_places.ensures.targets ∙ ap (λ n. set (targets_in c.self.inside.places.items) c.args.user (get_or (targets_in c.self.inside.places.items) c.args.user [] ++ n ∷ [])) is)
