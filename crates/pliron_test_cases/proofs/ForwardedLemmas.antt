-- Values that a branch forwards have places.
use Rattle.std.proofs.Common.{◌≡◌, ℕ, zero, suc, ◌<◌, List, [], ◌∷◌, Some, None, length, map, drop, refl, ap, sym, arith}
use Rattle.std.specs.List.{slice_get}
use Rattle.std.proofs.lemmas.Option.{slice_get_within}
use Rattle.pliron_core.specs.Tree.{Tree}
use Rattle.pliron_laws.specs.Datum.{Meaning}
use Rattle.pliron_laws.specs.Acting.{pick}
use Rattle.pliron_laws.specs.Answers.{AreForwarded, HasPlace}

abbrev first_or : {A : Type 0} → A → List A → A
first_or d [] = d
first_or d (x ∷ xs) = x

picked_place : (places os values : List ℕ) (j : ℕ) → map Some values ≡ pick places os → j < length values → (p : ℕ) × (slice_get places j ≡ Some p) × (p < length os)
picked_place places os [] j e lt = absurd (omega (arith, lt))
picked_place [] os (v ∷ values) j e lt = let some : Some v ≡ None = ap (first_or None) e in grind arith
picked_place (p ∷ places) os (v ∷ values) zero e lt = (p, refl, slice_get_within os p v (sym (ap (first_or None) e)))
picked_place (p ∷ places) os (v ∷ values) (suc j) e lt = picked_place places os values j (ap (drop 1) e) (omega (arith, lt))

-- where so many values are forwarded along an edge, each has its place
pub place_forwarded : (m : Meaning) (t : Tree) (op i j : ℕ) (values : List ℕ) → AreForwarded m t op i values → j < length values → HasPlace m t op i j
place_forwarded m t op i j values forwarded lt = λ o at. picked_place _ o.operands values j (forwarded o at) lt
