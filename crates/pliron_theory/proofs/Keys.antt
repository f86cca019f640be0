-- Keys that are tested for being one, and lists that are split at a key.
use Rattle.std.proofs.Common.{◌≡◌, ◌≢◌, ◌⊎◌, inl, inr, ⊎_elim, ℕ, false, true≢false, nat_eq, List, [], ◌∷◌, ◌++◌, refl, sym, ap, ap₂, ◌∙◌}
use Rattle.std.proofs.lemmas.Bool.{eq-eqb}
use Rattle.std.proofs.lemmas.Bool.Decides.{eqb_tells}

pub is_not : (j k : ℕ) → nat_eq j k ≡ false → k ≢ j
is_not j k e f = absurd (true≢false (sym (eq-eqb j k (sym f)) ∙ e))

pub not_is : (j k : ℕ) → k ≢ j → nat_eq j k ≡ false
not_is j k ne = ⊎_elim (λ y. absurd (ne (sym y.1))) (λ x. x.0) (eqb_tells j k)

-- an element stands in the first or in the second part
pub split_append : (u : ℕ) (rest xs ys done : List ℕ) → xs ++ ys ≡ done ++ u ∷ rest → ((r : List ℕ) × (xs ≡ done ++ u ∷ r)) ⊎ ((d : List ℕ) × (done ≡ xs ++ d) × (ys ≡ d ++ u ∷ rest))
split_append u rest [] ys done e = inr (done, refl, e)
split_append u rest (x ∷ xs) ys [] e = let f : x ≡ u = cc in inl (xs, ap (λ z. z ∷ xs) f)
split_append u rest (x ∷ xs) ys (y ∷ done) e =
    let f : x ≡ y = cc in
    let g : xs ++ ys ≡ done ++ u ∷ rest = cc in
    ⊎_elim (λ r. inl (r.0, ap₂ (λ p q. p ∷ q) f r.1)) (λ r. inr (r.0, ap₂ (λ p q. p ∷ q) (sym f) r.1, r.2)) (split_append u rest xs ys done g)
