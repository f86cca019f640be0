use Rattle.std.proofs.Common.{◌≡◌, ◌<◌, [], length, get_or, map, ap, sym, ◌∙◌, arith}
use Rattle.std.proofs.lemmas.List.{get_or_default, length-map}
use Rattle.pliron_core.specs.UseSlots.{ranked_use}
use Rattle.pliron_core.proofs.ClearanceLemmas.{cleared-already}
use Rattle.pliron_core.proofs.RelocateLemmas.{user-within}
use Rattle.pliron_core.proofs.uses.Uses.clear.Goals as goal

pub empty_places-requires-clause-user : goal.empty_places-requires-clause-user
empty_places-requires-clause-user c =
    let r = rw (← c.self.view_is) at c.requires in
    user-within c.self.inside.places.items c.self.inside.holes.items c.args.user c.self.invariant.holes r

pub returns-then-not-is_empty-clause-targets : goal.returns-then-not-is_empty-clause-targets
returns-then-not-is_empty-clause-targets c = rw (← c.self.view_is) c.empty_places.ensures.targets

pub returns-then-not-is_empty-clause-count : goal.returns-then-not-is_empty-clause-count
returns-then-not-is_empty-clause-count c =
    let before = length-map c.self.inside.uses.items (map (ranked_use c.self.inside.places.items)) in
    let after = length-map c.empty_places.new.uses.items (map (ranked_use c.empty_places.new.places.items)) in
    rw (← c.self.view_is) (after ∙ c.empty_places.ensures.count ∙ sym before)

pub returns-then-not-is_empty-clause-rooms : goal.returns-then-not-is_empty-clause-rooms
returns-then-not-is_empty-clause-rooms c =
    let s = c.empty_places.ensures.rooms in
    rw (← c.self.view_is) (omega (arith, s.0, s.1, s.2, s.3), omega (arith, s.4, s.5))

pub returns-else-not-is_empty-clause-targets : goal.returns-else-not-is_empty-clause-targets
returns-else-not-is_empty-clause-targets c =
    let r = rw (← c.self.view_is) at c.requires in
    let within = user-within c.self.inside.places.items c.self.inside.holes.items c.args.user c.self.invariant.holes r in
    let there : c.args.user < length c.self.inside.places.items = omega (arith, within, c.self.invariant.holes.count) in
    let row : c.index.result.now ≡ get_or c.self.inside.places.items c.args.user [] = c.index.ensures ∙ get_or_default _ _ _ _ there in
    let none : length c.index.result.now ≡ 0 = grind (arith, c.is_empty.ensures, c.if-not-is_empty.false) in
    rw (← c.self.view_is) (cleared-already _ _ (sym (ap length row) ∙ none))
