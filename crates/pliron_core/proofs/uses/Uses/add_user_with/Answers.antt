use Rattle.std.proofs.Common.{◌≡◌, ◌+◌, ◌≤◌, ◌++◌, ◌∷◌, [], length, map, ap, sym, ◌∙◌, rules, arith}
use Rattle.std.specs.List.{range_with_len}
use Rattle.std.proofs.lemmas.List.{length-map}
use Rattle.pliron_core.specs.UseSlots.{no_target, ranked_use, targets_in, no_gap, places_from, uses_by}
use Rattle.pliron_core.specs.declared.use_slots.Holes.TheVariants.{OneGap}
use Rattle.pliron_core.proofs.UserLemmas.{user-linked, targets-with, length-uses}
use Rattle.pliron_core.proofs.uses.Uses.add_user_with.Goals as goal

pub invariant_of-self-2 : goal.invariant_of-self-2
invariant_of-self-2 c =
    let rows : c.push_reserved.new.self.items ≡ c.self.inside.places.items ++ places_from (length c.self.inside.uses.items) c.args.count ∷ [] = search rules in
    let spans : c.push_reserved-2.new.self.items ≡ c.self.inside.holes.items ++ OneGap no_gap ∷ [] = search rules in
    let lists : c.add_used.new.uses.items ≡ c.self.inside.uses.items ++ uses_by (length c.self.inside.places.items) c.args.count = search rules in
    let few : length c.self.inside.uses.items + c.args.count ≤ no_target = omega arith in
    rw (rows, spans, lists) (user-linked _ _ _ _ few c.self.invariant)

pub returns-clause-targets : goal.returns-clause-targets
returns-clause-targets c =
    let rows : c.push_reserved.new.self.items ≡ c.self.inside.places.items ++ places_from (length c.self.inside.uses.items) c.args.count ∷ [] = search rules in
    let few : length c.self.inside.uses.items + c.args.count ≤ no_target = omega arith in
    let long = length-map c.self.inside.uses.items (map (ranked_use c.self.inside.places.items)) in
    rw (← c.self.view_is) (ap targets_in rows ∙ targets-with c.self.inside.places.items (length c.self.inside.uses.items) c.args.count (omega (arith, few)) ∙ ap (λ n. targets_in c.self.inside.places.items ++ range_with_len n c.args.count ∷ []) (sym long))

pub returns-clause-count : goal.returns-clause-count
returns-clause-count c =
    let lists : c.add_used.new.uses.items ≡ c.self.inside.uses.items ++ uses_by (length c.self.inside.places.items) c.args.count = search rules in
    let before = length-map c.self.inside.uses.items (map (ranked_use c.self.inside.places.items)) in
    let after = length-map c.add_used.new.uses.items (map (ranked_use c.push_reserved.new.self.items)) in
    rw (← c.self.view_is) (omega (arith, before, after, ap length lists, length-uses c.self.inside.uses.items (length c.self.inside.places.items) c.args.count))
