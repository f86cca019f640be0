use Rattle.std.proofs.Common.{◌≡◌, ◌++◌, ◌∷◌, [], ap, ◌∙◌, arith}
use Rattle.std.proofs.lemmas.List.{map-append}
use Rattle.pliron_core.specs.UseSlots.{targets_held, targets_in, uses_in, no_gap}
use Rattle.pliron_core.specs.declared.use_slots.Holes.TheVariants.{OneGap}
use Rattle.pliron_core.proofs.PlaceLemmas.{linked-user, holes-user, uses-user, same-table}
use Rattle.pliron_core.proofs.uses.Uses.add_user.Goals as goal

pub invariant_of-self : goal.invariant_of-self
invariant_of-self c =
    let rows : c.push_reserved.new.self.items ≡ c.self.inside.places.items ++ [] ∷ [] = c.push_reserved.ensures.items ∙ ap (λ r. c.self.inside.places.items ++ r ∷ []) c.new.ensures in
    let spans : c.push_reserved-2.new.self.items ≡ c.self.inside.holes.items ++ OneGap no_gap ∷ [] = c.push_reserved-2.ensures.items in
    rw (rows, spans) (record { linked = linked-user _ _ c.self.invariant.linked; holes = holes-user _ _ c.self.invariant.holes })

pub returns-clause-added : goal.returns-clause-added
returns-clause-added c =
    let rows : c.push_reserved.new.self.items ≡ c.self.inside.places.items ++ [] ∷ [] = c.push_reserved.ensures.items ∙ ap (λ r. c.self.inside.places.items ++ r ∷ []) c.new.ensures in
    let a = c.push_reserved.ensures in
    let b = c.push_reserved-2.ensures in
    rw (← c.self.view_is) (same-table (ap targets_in rows ∙ map-append targets_held c.self.inside.places.items ([] ∷ [])) (ap (λ r. uses_in r c.self.inside.uses.items) rows ∙ uses-user c.self.inside.places.items c.self.inside.uses.items) (omega (arith, a.len, a.capacity, b.len, b.capacity)))
