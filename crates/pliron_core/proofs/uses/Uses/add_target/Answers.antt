use Rattle.std.proofs.Common.{◌≡◌, ◌≤◌, ◌++◌, ◌∷◌, [], length, ap, ◌∙◌, arith}
use Rattle.pliron_core.specs.UseSlots.{no_target}
use Rattle.pliron_core.proofs.PlaceLemmas.{linked-target}
use Rattle.pliron_core.proofs.uses.Uses.add_target.Goals as goal

pub invariant_of-self : goal.invariant_of-self
invariant_of-self c =
    let v = c.push_reserved.new.self in
    let r = rw (← c.self.view_is) at c.requires in
    let items : v.items ≡ c.self.inside.uses.items ++ [] ∷ [] = c.push_reserved.ensures.items ∙ ap (λ r. c.self.inside.uses.items ++ r ∷ []) c.new.ensures in
    let few : length (c.self.inside.uses.items ++ [] ∷ []) ≤ no_target = omega (arith, r, v.ok.0, c.push_reserved.ensures.len, ap length items) in
    rw items (record { linked = linked-target _ _ few c.self.invariant.linked; holes = c.self.invariant.holes })
