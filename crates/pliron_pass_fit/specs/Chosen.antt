-- A part of a list.
use Rattle.std.specs.Prelude.{ℕ, List, [], ◌∷◌}

-- the second list has those of the first of which this is so, in their order
pub data AreChosen (P : ℕ → Type 0) : List ℕ → List ℕ → Type 0 where
  NoMore : AreChosen P [] []
  Chosen : {x : ℕ} {xs ys : List ℕ} → P x → AreChosen P xs ys → AreChosen P (x ∷ xs) (x ∷ ys)
  PassedOver : {x : ℕ} {xs ys : List ℕ} → (P x → ⊥) → AreChosen P xs ys → AreChosen P (x ∷ xs) ys
