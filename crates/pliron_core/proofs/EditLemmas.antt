-- Members of a list after an edit.
use Rattle.std.proofs.Common.{◌≡◌, ◌≢◌, ◌⊎◌, ℕ, ◌+◌, ◌↔◌, List, [], ◌∷◌, ◌++◌, length, refl, sym, ap, ◌∙◌, subst, inl, inr, arith}
use Rattle.std.proofs.lemmas.Bool.{cases_eq, ne_eqb, eq-eqb}
use Rattle.pliron_core.specs.Lists.{without, put_before, In, IsDistinct}
use Rattle.pliron_core.proofs.ListLemmas.{In-left, In-right, In-cases, distinct-join}

-- the cases of `without`
pub without-first : (x y : ℕ) (ys : List ℕ) → x ≡ y → without x (y ∷ ys) ≡ ys
without-first x y ys e = rw (eq-eqb x y e) refl

pub without-other : (x y : ℕ) (ys : List ℕ) → x ≢ y → without x (y ∷ ys) ≡ y ∷ without x ys
without-other x y ys ne = rw (ne_eqb x y ne) refl

-- the cases of `put_before`
pub put_before-first : (at x y : ℕ) (ys : List ℕ) → at ≡ y → put_before at x (y ∷ ys) ≡ x ∷ y ∷ ys
put_before-first at x y ys e = rw (eq-eqb at y e) refl

pub put_before-other : (at x y : ℕ) (ys : List ℕ) → at ≢ y → put_before at x (y ∷ ys) ≡ y ∷ put_before at x ys
put_before-other at x y ys ne = rw (ne_eqb at y ne) refl

-- what is left was there
pub In-without : (x y : ℕ) (xs : List ℕ) → In x (without y xs) → In x xs
In-without x y [] i = i
In-without x y (z ∷ zs) i =
    elim (cases_eq y z) [
      | inl e ↦ inr (subst (In x) (without-first y z zs e) i)
      | inr ne ↦ elim (subst (In x) (without-other y z zs ne) i) [ inl e ↦ inl e | inr j ↦ inr (In-without x y zs j) ]
    ]

-- the others are left
pub In-without_other : (x y : ℕ) (xs : List ℕ) → In x xs → x ≢ y → In x (without y xs)
In-without_other x y [] i apart = i
In-without_other x y (z ∷ zs) i apart =
    elim (cases_eq y z) [
      | inl e ↦ subst (In x) (sym (without-first y z zs e)) (elim i [ inl f ↦ absurd (apart (f ∙ sym e)) | inr j ↦ j ])
      | inr ne ↦ subst (In x) (sym (without-other y z zs ne)) (elim i [ inl f ↦ inl f | inr j ↦ inr (In-without_other x y zs j apart) ])
    ]

-- a list without repeats stays one
pub distinct-without : (y : ℕ) (xs : List ℕ) → IsDistinct xs → IsDistinct (without y xs)
distinct-without y [] d = tt
distinct-without y (z ∷ zs) d =
    elim (cases_eq y z) [
      | inl e ↦ subst IsDistinct (sym (without-first y z zs e)) d.1
      | inr ne ↦ subst IsDistinct (sym (without-other y z zs ne)) (λ i. d.0 (In-without z y zs i), distinct-without y zs d.1)
    ]

-- what was taken out of a list without repeats is gone
pub not_in-without : (x : ℕ) (xs : List ℕ) → IsDistinct xs → In x (without x xs) → ⊥
not_in-without x [] d i = i
not_in-without x (z ∷ zs) d i =
    elim (cases_eq x z) [
      | inl e ↦ d.0 (subst (λ w. In w zs) e (subst (In x) (without-first x z zs e) i))
      | inr ne ↦ elim (subst (In x) (without-other x z zs ne) i) [ inl e ↦ ne e | inr j ↦ not_in-without x zs d.1 j ]
    ]

-- the members of a list without repeats that something was taken out of
pub In-without_exactly : (x y : ℕ) (xs : List ℕ) → IsDistinct xs → In x (without y xs) ↔ ((x ≢ y) × In x xs)
In-without_exactly x y xs d = (
  λ i. (λ e. not_in-without y xs d (subst (λ w. In w (without y xs)) e i), In-without x y xs i),
  λ both. In-without_other x y xs both.1 both.0,
)

-- nothing changes where there is nothing to take out
pub without-out : (x : ℕ) (xs : List ℕ) → (In x xs → ⊥) → without x xs ≡ xs
without-out x [] out = refl
without-out x (z ∷ zs) out = without-other x z zs (λ e. out (inl e)) ∙ ap (λ r. z ∷ r) (without-out x zs (λ i. out (inr i)))

-- one fewer
pub length-without : (x : ℕ) (xs : List ℕ) → In x xs → length xs ≡ length (without x xs) + 1
length-without x [] i = absurd i
length-without x (z ∷ zs) i =
    elim (cases_eq x z) [
      | inl e ↦ omega (arith, ap length (without-first x z zs e))
      | inr ne ↦
          let rest : length zs ≡ length (without x zs) + 1 = length-without x zs (elim i [ inl e ↦ absurd (ne e) | inr j ↦ j ]) in
          omega (arith, ap length (without-other x z zs ne))
    ]

-- the first of a list is taken out again
pub without-cons : (x : ℕ) (xs : List ℕ) → without x (x ∷ xs) ≡ xs
without-cons x xs = without-first x x xs refl

-- the last of a list is taken out again
pub without-push : (x : ℕ) (xs : List ℕ) → (In x xs → ⊥) → without x (xs ++ x ∷ []) ≡ xs
without-push x [] out = without-first x x [] refl
without-push x (z ∷ zs) out = without-other x z (zs ++ x ∷ []) (λ e. out (inl e)) ∙ ap (λ r. z ∷ r) (without-push x zs (λ i. out (inr i)))

-- what was put in is taken out again
pub without-put_before : (at x : ℕ) (ys : List ℕ) → (In x ys → ⊥) → without x (put_before at x ys) ≡ ys
without-put_before at x [] out = refl
without-put_before at x (z ∷ zs) out =
    elim (cases_eq at z) [
      | inl e ↦ ap (without x) (put_before-first at x z zs e) ∙ without-first x x (z ∷ zs) refl
      | inr ne ↦ ap (without x) (put_before-other at x z zs ne) ∙ without-other x z (put_before at x zs) (λ e. out (inl e)) ∙ ap (λ r. z ∷ r) (without-put_before at x zs (λ i. out (inr i)))
    ]

-- a member was put in, or was there
pub In-put_before : (z at x : ℕ) (ys : List ℕ) → In z (put_before at x ys) → (z ≡ x) ⊎ In z ys
In-put_before z at x [] i = absurd i
In-put_before z at x (y ∷ ys) i =
    elim (cases_eq at y) [
      | inl e ↦ subst (In z) (put_before-first at x y ys e) i
      | inr ne ↦ elim (subst (In z) (put_before-other at x y ys ne) i) [
        | inl e ↦ inr (inl e)
        | inr j ↦ elim (In-put_before z at x ys j) [ inl e ↦ inl e | inr k ↦ inr (inr k) ]
      ]
    ]

-- the others stay
pub In-put_before_old : (z at x : ℕ) (ys : List ℕ) → In z ys → In z (put_before at x ys)
In-put_before_old z at x [] i = absurd i
In-put_before_old z at x (y ∷ ys) i =
    elim (cases_eq at y) [
      | inl e ↦ subst (In z) (sym (put_before-first at x y ys e)) (inr i)
      | inr ne ↦ subst (In z) (sym (put_before-other at x y ys ne)) (elim i [ inl e ↦ inl e | inr j ↦ inr (In-put_before_old z at x ys j) ])
    ]

-- what is put before a member is there
pub In-put_before_new : (at x : ℕ) (ys : List ℕ) → In at ys → In x (put_before at x ys)
In-put_before_new at x [] i = absurd i
In-put_before_new at x (y ∷ ys) i =
    elim (cases_eq at y) [
      | inl e ↦ subst (In x) (sym (put_before-first at x y ys e)) (inl refl)
      | inr ne ↦ subst (In x) (sym (put_before-other at x y ys ne)) (inr (In-put_before_new at x ys (elim i [ inl e ↦ absurd (ne e) | inr j ↦ j ])))
    ]

-- the members after something was put before a member
pub In-put_before_exactly : (z at x : ℕ) (ys : List ℕ) → In at ys → In z (put_before at x ys) ↔ ((z ≡ x) ⊎ In z ys)
In-put_before_exactly z at x ys i = (
  In-put_before z at x ys,
  λ either. elim either [ inl e ↦ subst (λ w. In w (put_before at x ys)) (sym e) (In-put_before_new at x ys i) | inr j ↦ In-put_before_old z at x ys j ],
)

-- a list without repeats stays one where something new is put in
pub distinct-put_before : (at x : ℕ) (ys : List ℕ) → (In x ys → ⊥) → IsDistinct ys → IsDistinct (put_before at x ys)
distinct-put_before at x [] out d = tt
distinct-put_before at x (y ∷ ys) out d =
    elim (cases_eq at y) [
      | inl e ↦ subst IsDistinct (sym (put_before-first at x y ys e)) (out, d)
      | inr ne ↦ subst IsDistinct (sym (put_before-other at x y ys ne)) (
        λ i. elim (In-put_before y at x ys i) [ inl e ↦ out (inl (sym e)) | inr j ↦ d.0 j ],
        distinct-put_before at x ys (λ i. out (inr i)) d.1,
      )
    ]

-- one more
pub length-put_before : (at x : ℕ) (ys : List ℕ) → In at ys → length (put_before at x ys) ≡ length ys + 1
length-put_before at x [] i = absurd i
length-put_before at x (y ∷ ys) i =
    elim (cases_eq at y) [
      | inl e ↦ omega (arith, ap length (put_before-first at x y ys e))
      | inr ne ↦
          let rest : length (put_before at x ys) ≡ length ys + 1 = length-put_before at x ys (elim i [ inl e ↦ absurd (ne e) | inr j ↦ j ]) in
          omega (arith, ap length (put_before-other at x y ys ne))
    ]

-- a member of a list that grew at its end
pub In-push_exactly : (x y : ℕ) (xs : List ℕ) → In x (xs ++ y ∷ []) ↔ ((x ≡ y) ⊎ In x xs)
In-push_exactly x y xs = (
  λ i. elim (In-cases x xs (y ∷ []) i) [ inl a ↦ inr a | inr b ↦ elim b [ inl e ↦ inl e | inr none ↦ absurd none ] ],
  λ either. elim either [ inl e ↦ In-right x xs (y ∷ []) (inl e) | inr i ↦ In-left x xs (y ∷ []) i ],
)

-- a list without repeats stays one where something new goes to its end
pub distinct-push : (y : ℕ) (xs : List ℕ) → (In y xs → ⊥) → IsDistinct xs → IsDistinct (xs ++ y ∷ [])
distinct-push y xs out d =
    distinct-join xs (y ∷ []) d (λ i. i, tt) (λ z i j. elim j [ inl e ↦ out (subst (λ w. In w xs) e i) | inr none ↦ none ])
