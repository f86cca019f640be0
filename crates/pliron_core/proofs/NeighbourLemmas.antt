-- The first, the last and the neighbours in a list.
use Rattle.std.proofs.Common.{◌≡◌, ◌≢◌, ◌⊎◌, ℕ, List, [], ◌∷◌, Option, Some, None, refl, sym, ap, ◌∙◌, subst, inl, inr}
use Rattle.std.proofs.lemmas.Bool.{cases_eq, ne_eqb, eq-eqb}
use Rattle.pliron_core.specs.Lists.{first_of, last_of, next_in, prev_in, In, IsDistinct}

-- the first is a member
pub first_of-In : (x : ℕ) (xs : List ℕ) → first_of xs None ≡ Some x → In x xs
first_of-In x [] e = absurd (cc)
first_of-In x (y ∷ ys) e = let same : x ≡ y = cc in inl same

-- a list with no first has no members
pub first_of-none : (xs : List ℕ) → first_of xs None ≡ None → xs ≡ []
first_of-none [] e = refl
first_of-none (y ∷ ys) e = absurd (cc)

-- the last is a member, or what was given
pub last_of-cases : (before : Option ℕ) (x : ℕ) (xs : List ℕ) → last_of before xs ≡ Some x → (before ≡ Some x) ⊎ In x xs
last_of-cases before x [] e = inl e
last_of-cases before x (y ∷ ys) e =
    elim (last_of-cases (Some y) x ys e) [ inl f ↦ let same : x ≡ y = cc in inr (inl same) | inr i ↦ inr (inr i) ]

-- the last is a member
pub last_of-In : (x : ℕ) (xs : List ℕ) → last_of None xs ≡ Some x → In x xs
last_of-In x xs e = elim (last_of-cases None x xs e) [ inl f ↦ absurd (cc) | inr i ↦ i ]

-- a list that goes on has a last
pub last_of-some : (x : ℕ) (xs : List ℕ) → last_of (Some x) xs ≢ None
last_of-some x [] e = absurd (cc)
last_of-some x (y ∷ ys) e = last_of-some y ys e

-- a list with no last has no members
pub last_of-none : (xs : List ℕ) → last_of None xs ≡ None → xs ≡ []
last_of-none [] e = refl
last_of-none (y ∷ ys) e = absurd (last_of-some y ys e)

-- the cases of `next_in`
pub next_in-first : (x y : ℕ) (ys : List ℕ) → x ≡ y → next_in x (y ∷ ys) ≡ first_of ys None
next_in-first x y ys e = rw (eq-eqb x y e) refl

pub next_in-other : (x y : ℕ) (ys : List ℕ) → x ≢ y → next_in x (y ∷ ys) ≡ next_in x ys
next_in-other x y ys ne = rw (ne_eqb x y ne) refl

-- the cases of `prev_in`
pub prev_in-first : (before : Option ℕ) (x y : ℕ) (ys : List ℕ) → x ≡ y → prev_in before x (y ∷ ys) ≡ before
prev_in-first before x y ys e = rw (eq-eqb x y e) refl

pub prev_in-other : (before : Option ℕ) (x y : ℕ) (ys : List ℕ) → x ≢ y → prev_in before x (y ∷ ys) ≡ prev_in (Some y) x ys
prev_in-other before x y ys ne = rw (ne_eqb x y ne) refl

-- the next one is a member
pub next_in-In : (x at : ℕ) (xs : List ℕ) → next_in at xs ≡ Some x → In x xs
next_in-In x at [] e = absurd (cc)
next_in-In x at (y ∷ ys) e =
    elim (cases_eq at y) [
      | inl f ↦ inr (first_of-In x ys (sym (next_in-first at y ys f) ∙ e))
      | inr ne ↦ inr (next_in-In x at ys (sym (next_in-other at y ys ne) ∙ e))
    ]

-- the one before is a member, or what was given
pub prev_in-cases : (before : Option ℕ) (x at : ℕ) (xs : List ℕ) → prev_in before at xs ≡ Some x → (before ≡ Some x) ⊎ In x xs
prev_in-cases before x at [] e = absurd (cc)
prev_in-cases before x at (y ∷ ys) e =
    elim (cases_eq at y) [
      | inl f ↦ inl (sym (prev_in-first before at y ys f) ∙ e)
      | inr ne ↦ elim (prev_in-cases (Some y) x at ys (sym (prev_in-other before at y ys ne) ∙ e)) [
        | inl f ↦ let same : x ≡ y = cc in inr (inl same)
        | inr i ↦ inr (inr i)
      ]
    ]

-- the one before is a member
pub prev_in-In : (x at : ℕ) (xs : List ℕ) → prev_in None at xs ≡ Some x → In x xs
prev_in-In x at xs e = elim (prev_in-cases None x at xs e) [ inl f ↦ absurd (cc) | inr i ↦ i ]

-- what has a next one is a member
pub In-next_in : (x at : ℕ) (xs : List ℕ) → next_in at xs ≡ Some x → In at xs
In-next_in x at [] e = absurd (cc)
In-next_in x at (y ∷ ys) e =
    elim (cases_eq at y) [ inl f ↦ inl f | inr ne ↦ inr (In-next_in x at ys (sym (next_in-other at y ys ne) ∙ e)) ]

-- what has one before it is a member
pub In-prev_in : (before : Option ℕ) (x at : ℕ) (xs : List ℕ) → prev_in before at xs ≡ Some x → In at xs
In-prev_in before x at [] e = absurd (cc)
In-prev_in before x at (y ∷ ys) e =
    elim (cases_eq at y) [ inl f ↦ inl f | inr ne ↦ inr (In-prev_in (Some y) x at ys (sym (prev_in-other before at y ys ne) ∙ e)) ]

-- what is no member has no neighbours
pub next_in-out : (x : ℕ) (xs : List ℕ) → (In x xs → ⊥) → next_in x xs ≡ None
next_in-out x [] out = refl
next_in-out x (y ∷ ys) out = next_in-other x y ys (λ e. out (inl e)) ∙ next_in-out x ys (λ i. out (inr i))

pub prev_in-out : (before : Option ℕ) (x : ℕ) (xs : List ℕ) → (In x xs → ⊥) → prev_in before x xs ≡ None
prev_in-out before x [] out = refl
prev_in-out before x (y ∷ ys) out = prev_in-other before x y ys (λ e. out (inl e)) ∙ prev_in-out (Some y) x ys (λ i. out (inr i))

-- a member with no next one is the last
pub last_of-next_in : (before : Option ℕ) (x : ℕ) (xs : List ℕ) → In x xs → next_in x xs ≡ None → last_of before xs ≡ Some x
last_of-next_in before x [] i e = absurd i
last_of-next_in before x (y ∷ ys) i e =
    elim (cases_eq x y) [
      | inl f ↦ ap (last_of (Some y)) (first_of-none ys (sym (next_in-first x y ys f) ∙ e)) ∙ ap Some (sym f)
      | inr ne ↦ last_of-next_in (Some y) x ys (elim i [ inl f ↦ absurd (ne f) | inr j ↦ j ]) (sym (next_in-other x y ys ne) ∙ e)
    ]

-- a member that goes on from another has one before it
pub prev_in-some : (b x : ℕ) (xs : List ℕ) → In x xs → prev_in (Some b) x xs ≢ None
prev_in-some b x [] i e = i
prev_in-some b x (y ∷ ys) i e =
    elim (cases_eq x y) [
      | inl f ↦ let given : Some b ≡ None = sym (prev_in-first (Some b) x y ys f) ∙ e in absurd (cc)
      | inr ne ↦ prev_in-some y x ys (elim i [ inl f ↦ absurd (ne f) | inr j ↦ j ]) (sym (prev_in-other (Some b) x y ys ne) ∙ e)
    ]

-- a member with none before it is the first
pub first_of-prev_in : (x : ℕ) (xs : List ℕ) → In x xs → prev_in None x xs ≡ None → first_of xs None ≡ Some x
first_of-prev_in x [] i e = absurd i
first_of-prev_in x (y ∷ ys) i e =
    elim (cases_eq x y) [
      | inl f ↦ ap Some (sym f)
      | inr ne ↦ absurd (prev_in-some y x ys (elim i [ inl f ↦ absurd (ne f) | inr j ↦ j ]) (sym (prev_in-other None x y ys ne) ∙ e))
    ]

-- the first has none before it
pub prev_in-head : (x : ℕ) (xs : List ℕ) → first_of xs None ≡ Some x → prev_in None x xs ≡ None
prev_in-head x [] e = refl
prev_in-head x (y ∷ ys) e = let same : x ≡ y = cc in prev_in-first None x y ys same

-- the last of a list without repeats has no next one
pub next_in-last : (before : Option ℕ) (x : ℕ) (xs : List ℕ) → IsDistinct xs → In x xs → last_of before xs ≡ Some x → next_in x xs ≡ None
next_in-last before x [] d i e = refl
next_in-last before x (y ∷ ys) d i e =
    elim (cases_eq x y) [
      | inl f ↦ next_in-first x y ys f ∙ ap (λ zs. first_of zs None) (alone ys f e d.0)
      | inr ne ↦ next_in-other x y ys ne ∙ next_in-last (Some y) x ys d.1 (elim i [ inl f ↦ absurd (ne f) | inr j ↦ j ]) e
    ]
  where
    alone : (zs : List ℕ) → x ≡ y → last_of (Some y) zs ≡ Some x → (In y zs → ⊥) → zs ≡ []
    alone [] f e out = refl
    alone (z ∷ zs) f e out =
        elim (last_of-cases (Some z) x zs e) [
          | inl g ↦ let same : y ≡ z = cc in absurd (out (inl same))
          | inr j ↦ absurd (out (inr (subst (λ w. In w zs) f j)))
        ]

-- in a list without repeats the one before the next one is the one at hand
pub prev_in-next_in : (before : Option ℕ) (x y : ℕ) (xs : List ℕ) → IsDistinct xs → next_in x xs ≡ Some y → prev_in before y xs ≡ Some x
prev_in-next_in before x y [] d e = absurd (cc)
prev_in-next_in before x y (z ∷ zs) d e =
    elim (cases_eq x z) [
      | inl f ↦
          let first : first_of zs None ≡ Some y = sym (next_in-first x z zs f) ∙ e in
          let ne : y ≢ z = λ g. d.0 (subst (λ w. In w zs) g (first_of-In y zs first)) in
          prev_in-other before y z zs ne ∙ head (Some z) zs first ∙ ap Some (sym f)
      | inr nf ↦
          let later : next_in x zs ≡ Some y = sym (next_in-other x z zs nf) ∙ e in
          let ne : y ≢ z = λ g. d.0 (subst (λ w. In w zs) g (next_in-In y x zs later)) in
          prev_in-other before y z zs ne ∙ prev_in-next_in (Some z) x y zs d.1 later
    ]
  where
    head : (b : Option ℕ) (ws : List ℕ) → first_of ws None ≡ Some y → prev_in b y ws ≡ b
    head b [] e = absurd (cc)
    head b (w ∷ ws) e = let same : y ≡ w = cc in prev_in-first b y w ws same

-- and the one after the one before is the one at hand
pub next_in-prev_in : (x y : ℕ) (xs : List ℕ) → IsDistinct xs → prev_in None y xs ≡ Some x → next_in x xs ≡ Some y
next_in-prev_in x y [] d e = absurd (cc)
next_in-prev_in x y (z ∷ zs) d e =
    elim (cases_eq y z) [
      | inl f ↦ let none : None ≡ Some x = sym (prev_in-first None y z zs f) ∙ e in absurd (cc)
      | inr ne ↦ after z zs d (sym (prev_in-other None y z zs ne) ∙ e)
    ]
  where
    after : (b : ℕ) (ws : List ℕ) → IsDistinct (b ∷ ws) → prev_in (Some b) y ws ≡ Some x → next_in x (b ∷ ws) ≡ Some y
    after b [] d e = absurd (cc)
    after b (w ∷ ws) d e =
        elim (cases_eq y w) [
          | inl f ↦
              let here : Some b ≡ Some x = sym (prev_in-first (Some b) y w ws f) ∙ e in
              let same : x ≡ b = cc in
              next_in-first x b (w ∷ ws) same ∙ ap Some (sym f)
          | inr ne ↦
              let later : prev_in (Some w) y ws ≡ Some x = sym (prev_in-other (Some b) y w ws ne) ∙ e in
              let there : In x (w ∷ ws) = elim (prev_in-cases (Some w) x y ws later) [ inl g ↦ let same : x ≡ w = cc in inl same | inr i ↦ inr i ] in
              next_in-other x b (w ∷ ws) (λ g. d.0 (subst (λ v. In v (w ∷ ws)) g there)) ∙ after w ws d.1 later
        ]
