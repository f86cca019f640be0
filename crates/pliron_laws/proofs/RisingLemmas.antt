-- Rising lists.
use Rattle.std.proofs.Common.{◌≡◌, inl, inr, ℕ, ◌<◌, List, [], ◌∷◌, refl, sym, arith}
use Rattle.pliron_core.specs.Rising.{IsRising}
use Rattle.pliron_core.specs.Tree.{In}

head_same : (x y : ℕ) (xs ys : List ℕ) → IsRising (x ∷ xs) → IsRising (y ∷ ys) → In x (y ∷ ys) → In y (x ∷ xs) → x ≡ y
head_same x y xs ys r s (inl e) q = e
head_same x y xs ys r s (inr i) (inl e) = sym e
head_same x y xs ys r s (inr i) (inr j) = let a = s.0 x i in let b = r.0 y j in absurd (omega (arith, a, b))

tail_in : (x y z : ℕ) (ys : List ℕ) → x ≡ y → x < z → In z (y ∷ ys) → In z ys
tail_in x y z ys e lt (inl s) = absurd (omega (arith, e, lt, s))
tail_in x y z ys e lt (inr i) = i

-- rising lists with the same members are one
pub rising_same : (xs ys : List ℕ) → IsRising xs → IsRising ys → ((x : ℕ) → In x xs → In x ys) → ((x : ℕ) → In x ys → In x xs) → xs ≡ ys
rising_same [] [] r s f g = refl
rising_same [] (y ∷ ys) r s f g = absurd (g y (inl refl))
rising_same (x ∷ xs) [] r s f g = absurd (f x (inl refl))
rising_same (x ∷ xs) (y ∷ ys) r s f g =
    let e = head_same x y xs ys r s (f x (inl refl)) (g y (inl refl)) in
    let h = rising_same xs ys r.1 s.1 (λ z i. tail_in x y z ys e (r.0 z i) (f z (inr i))) (λ z i. tail_in y x z xs (sym e) (s.0 z i) (g z (inr i))) in
    cc
