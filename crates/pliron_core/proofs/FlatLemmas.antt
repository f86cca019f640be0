-- Lemmas on lists that are joined of pieces.
use Rattle.std.proofs.Common.{◌≡◌, ℕ, zero, suc, ◌≤◌, List, [], ◌∷◌, ◌++◌, length, drop, Option, Some, refl, sym, ap, ◌∙◌, subst, inl, inr, arith, append_assoc, length-append}
use Rattle.std.specs.List.{flat_map, slice_get}
use Rattle.pliron_core.specs.Lists.{In, IsDistinct, first_of}
use Rattle.pliron_core.proofs.ListLemmas.{In-left, In-right, In-cases, distinct-join}

-- a member of a piece is a member of the whole, and the other way round
pub In-flat_map : (f : ℕ → List ℕ) (xs : List ℕ) (x z : ℕ) → In x xs → In z (f x) → In z (flat_map f xs)
In-flat_map f [] x z i j = absurd i
In-flat_map f (y ∷ ys) x z (inl e) j = In-left z (f y) (flat_map f ys) (subst (λ w. In z (f w)) e j)
In-flat_map f (y ∷ ys) x z (inr i) j = In-right z (f y) (flat_map f ys) (In-flat_map f ys x z i j)

pub flat_map-In : (f : ℕ → List ℕ) (xs : List ℕ) (z : ℕ) → In z (flat_map f xs) → (x : ℕ) × In x xs × In z (f x)
flat_map-In f [] z i = absurd i
flat_map-In f (y ∷ ys) z i = elim (In-cases z (f y) (flat_map f ys) i) [
  | inl a ↦ (y, inl refl, a)
  | inr b ↦ let r = flat_map-In f ys z b in (r.0, inr r.1, r.2)
]

-- pieces of distinct members that share none
pub distinct-flat_map : (f : ℕ → List ℕ) (xs : List ℕ) → IsDistinct xs → ((x : ℕ) → In x xs → IsDistinct (f x))
    → ((x y z : ℕ) → In x xs → In y xs → In z (f x) → In z (f y) → x ≡ y) → IsDistinct (flat_map f xs)
distinct-flat_map f [] d each apart = tt
distinct-flat_map f (x ∷ xs) d each apart =
    distinct-join (f x) (flat_map f xs) (each x (inl refl)) (distinct-flat_map f xs d.1 (λ y i. each y (inr i)) (λ y z w i j. apart y z w (inr i) (inr j))) (λ z i j.
    let r = flat_map-In f xs z j in
    d.0 (subst (λ w. In w xs) (sym (apart x r.0 z (inl refl) (inr r.1) i r.2)) r.1))

pub flat_map-same : (f g : ℕ → List ℕ) (xs : List ℕ) → ((x : ℕ) → In x xs → f x ≡ g x) → flat_map f xs ≡ flat_map g xs
flat_map-same f g [] same = refl
flat_map-same f g (x ∷ xs) same =
    let here : f x ≡ g x = same x (inl refl) in
    let there : flat_map f xs ≡ flat_map g xs = flat_map-same f g xs (λ y i. same y (inr i)) in cc

-- what stands at an index is a member, and a member stands at an index
pub In-slice_get : (xs : List ℕ) (i x : ℕ) → slice_get xs i ≡ Some x → In x xs
In-slice_get [] i x e = absurd (cc)
In-slice_get (y ∷ ys) zero x e = inl (cc)
In-slice_get (y ∷ ys) (suc i) x e = inr (In-slice_get ys i x e)

pub slice_get-In : (x : ℕ) (xs : List ℕ) → In x xs → (i : ℕ) × (slice_get xs i ≡ Some x)
slice_get-In x [] i = absurd i
slice_get-In x (y ∷ ys) (inl e) = (0, ap Some (sym e))
slice_get-In x (y ∷ ys) (inr i) = let r = slice_get-In x ys i in (suc r.0, r.1)

-- members that tell their index are distinct
pub distinct-indices : (xs : List ℕ) → ((i j x : ℕ) → slice_get xs i ≡ Some x → slice_get xs j ≡ Some x → i ≡ j) → IsDistinct xs
distinct-indices [] once = tt
distinct-indices (x ∷ xs) once = (
  λ i. let r = slice_get-In x xs i in let e : 0 ≡ suc r.0 = once 0 (suc r.0) x refl r.1 in absurd (omega arith),
  distinct-indices xs (λ i j y e f. let s : suc i ≡ suc j = once (suc i) (suc j) y e f in omega arith),
)

-- a list is taken apart at an index
pub flat_map-drop : (f : ℕ → List ℕ) (xs : List ℕ) (i x : ℕ) → slice_get xs i ≡ Some x → (front : List ℕ) × (flat_map f xs ≡ front ++ (f x ++ flat_map f (drop (suc i) xs)))
flat_map-drop f [] i x e = absurd (cc)
flat_map-drop f (y ∷ ys) zero x e = let s : y ≡ x = cc in ([], ap (λ w. f w ++ flat_map f ys) s)
flat_map-drop f (y ∷ ys) (suc i) x e = let r = flat_map-drop f ys i x e in (f y ++ r.0, ap (λ zs. f y ++ zs) r.1 ∙ sym (append_assoc (f y) r.0 (f x ++ flat_map f (drop (suc i) ys))))

pub flat_map-none : (f : ℕ → List ℕ) (xs : List ℕ) → ((x : ℕ) → In x xs → ⊥) → flat_map f xs ≡ []
flat_map-none f [] none = refl
flat_map-none f (x ∷ xs) none = absurd (none x (inl refl))

pub length-piece : (f : ℕ → List ℕ) (xs : List ℕ) (x : ℕ) → In x xs → length (f x) ≤ length (flat_map f xs)
length-piece f [] x i = absurd i
length-piece f (y ∷ ys) x (inl e) = omega (arith, ap (λ z. length (f z)) e, length-append (f y) (flat_map f ys))
length-piece f (y ∷ ys) x (inr i) = omega (arith, length-piece f ys x i, length-append (f y) (flat_map f ys))

-- where each piece begins with its own
pub first_of-pieces : (g : ℕ → List ℕ) (xs : List ℕ) (after : Option ℕ) → first_of (flat_map (λ c. c ∷ g c) xs) after ≡ first_of xs after
first_of-pieces g [] after = refl
first_of-pieces g (x ∷ xs) after = refl
