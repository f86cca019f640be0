-- Lemmas on lists without repeats.
use Rattle.std.proofs.Common.{◌≡◌, ◌≢◌, ◌⊎◌, ℕ, zero, suc, ◌<◌, ◌≤◌, List, [], ◌∷◌, ◌++◌, length, Option, Some, None, refl, sym, ap, subst, inl, inr, arith, length-append}
use Rattle.std.proofs.lemmas.Bool.{cases_eq, ne_eqb, eq-eqb}
use Rattle.pliron_core.specs.Lists.{without, put_before, first_of, last_of, next_in, prev_in, In, IsDistinct}

-- no member of both
abbrev pub AreApart : List ℕ → List ℕ → Type 0
AreApart xs ys = (x : ℕ) → In x xs → In x ys → ⊥

-- a member of one part is a member of the whole
pub In-left : (x : ℕ) (xs ys : List ℕ) → In x xs → In x (xs ++ ys)
In-left x [] ys i = absurd i
In-left x (z ∷ zs) ys (inl e) = inl e
In-left x (z ∷ zs) ys (inr i) = inr (In-left x zs ys i)

pub In-right : (x : ℕ) (xs ys : List ℕ) → In x ys → In x (xs ++ ys)
In-right x [] ys i = i
In-right x (z ∷ zs) ys i = inr (In-right x zs ys i)

-- a member of the whole is a member of a part
pub In-cases : (x : ℕ) (xs ys : List ℕ) → In x (xs ++ ys) → In x xs ⊎ In x ys
In-cases x [] ys i = inr i
In-cases x (z ∷ zs) ys (inl e) = inl (inl e)
In-cases x (z ∷ zs) ys (inr i) = elim (In-cases x zs ys i) [ inl j ↦ inl (inr j) | inr j ↦ inr j ]

-- parts of a list without repeats have none, and share no member
pub distinct-front : (xs ys : List ℕ) → IsDistinct (xs ++ ys) → IsDistinct xs
distinct-front [] ys d = tt
distinct-front (x ∷ xs) ys d = (λ i. d.0 (In-left x xs ys i), distinct-front xs ys d.1)

pub distinct-back : (xs ys : List ℕ) → IsDistinct (xs ++ ys) → IsDistinct ys
distinct-back [] ys d = d
distinct-back (x ∷ xs) ys d = distinct-back xs ys d.1

pub distinct-apart : (xs ys : List ℕ) → IsDistinct (xs ++ ys) → AreApart xs ys
distinct-apart [] ys d z i j = i
distinct-apart (x ∷ xs) ys d z (inl e) j = d.0 (In-right x xs ys (subst (λ w. In w ys) e j))
distinct-apart (x ∷ xs) ys d z (inr i) j = distinct-apart xs ys d.1 z i j

-- two such lists with no common member are one together
pub distinct-join : (xs ys : List ℕ) → IsDistinct xs → IsDistinct ys → AreApart xs ys → IsDistinct (xs ++ ys)
distinct-join [] ys dx dy apart = dy
distinct-join (x ∷ xs) ys dx dy apart = (
  λ i. elim (In-cases x xs ys i) [ inl j ↦ dx.0 j | inr j ↦ apart x (inl refl) j ],
  distinct-join xs ys dx.1 dy (λ z i j. apart z (inr i) j),
)

-- a member stands between what is before it and what is after it
pub split_at : (x : ℕ) (xs : List ℕ) → In x xs → (front : List ℕ) × (back : List ℕ) × (xs ≡ front ++ x ∷ back)
split_at x [] i = absurd i
split_at x (y ∷ ys) (inl e) = ([], ys, ap (λ z. z ∷ ys) (sym e))
split_at x (y ∷ ys) (inr i) = let s = split_at x ys i in (y ∷ s.0, s.1, ap (λ zs. y ∷ zs) s.2)

-- whether a number is a member
pub decide_in : (x : ℕ) (xs : List ℕ) → In x xs ⊎ (In x xs → ⊥)
decide_in x [] = inr (λ i. i)
decide_in x (y ∷ ys) =
    elim (cases_eq x y) [
      | inl e ↦ inl (inl e)
      | inr ne ↦ elim (decide_in x ys) [ inl i ↦ inl (inr i) | inr out ↦ inr (λ i. elim i [ inl e ↦ ne e | inr j ↦ out j ]) ]
    ]

-- distinct numbers below n are n at most
pub distinct-length : (n : ℕ) (xs : List ℕ) → IsDistinct xs → ((x : ℕ) → In x xs → x < n) → length xs ≤ n
distinct-length zero [] d below = omega arith
distinct-length zero (x ∷ xs) d below = absurd (omega (arith, below x (inl refl)))
distinct-length (suc n) xs d below =
    elim (decide_in n xs) [
      | inl i ↦
          let s = split_at n xs i in
          let dist = subst IsDistinct s.2 d in
          let apart = distinct-apart s.0 (n ∷ s.1) dist in
          let two = distinct-back s.0 (n ∷ s.1) dist in
          let rest : IsDistinct (s.0 ++ s.1) = distinct-join s.0 s.1 (distinct-front s.0 (n ∷ s.1) dist) two.1 (λ z a b. apart z a (inr b)) in
          let lower : (x : ℕ) → In x (s.0 ++ s.1) → x < n = λ x j.
          let there : In x xs = subst (λ zs. In x zs) (sym s.2) (elim (In-cases x s.0 s.1 j) [ inl a ↦ In-left x s.0 (n ∷ s.1) a | inr b ↦ In-right x s.0 (n ∷ s.1) (inr b) ]) in
          let le : x < suc n = below x there in
          let ne : x ≢ n = λ e. elim (In-cases x s.0 s.1 j) [ inl a ↦ apart n (subst (λ w. In w s.0) e a) (inl refl) | inr b ↦ two.0 (subst (λ w. In w s.1) e b) ] in
          omega arith in
          let short : length (s.0 ++ s.1) ≤ n = distinct-length n (s.0 ++ s.1) rest lower in
          omega (arith, short, ap length s.2, length-append s.0 (n ∷ s.1), length-append s.0 s.1)
      | inr out ↦
          let short : length xs ≤ n = distinct-length n xs d (λ x i. let le : x < suc n = below x i in let ne : x ≢ n = λ e. out (subst (λ w. In w xs) e i) in omega arith) in
          omega (arith, short)
    ]

-- a list that is taken apart at a member that stands nowhere before it
pub without-split : (x : ℕ) (front back : List ℕ) → (In x front → ⊥) → without x (front ++ x ∷ back) ≡ front ++ back
without-split x [] back out = rw eq-eqb refl
without-split x (y ∷ ys) back out =
    let ne : x ≢ y = λ e. out (inl e) in
    rw (ne_eqb x y ne) (ap (λ r. y ∷ r) (without-split x ys back (λ i. out (inr i))))

-- a list that something was put into, before a member that stands nowhere before it
pub put_before-split : (at x : ℕ) (front back : List ℕ) → (In at front → ⊥) → put_before at x (front ++ at ∷ back) ≡ front ++ x ∷ at ∷ back
put_before-split at x [] back out = rw eq-eqb refl
put_before-split at x (y ∷ ys) back out =
    let ne : at ≢ y = λ e. out (inl e) in
    rw (ne_eqb at y ne) (ap (λ r. y ∷ r) (put_before-split at x ys back (λ i. out (inr i))))

-- the neighbours of a member that stands nowhere before it
pub next_in-split : (x : ℕ) (front back : List ℕ) → (In x front → ⊥) → next_in x (front ++ x ∷ back) ≡ first_of back None
next_in-split x [] back out = rw eq-eqb refl
next_in-split x (y ∷ ys) back out =
    let ne : x ≢ y = λ e. out (inl e) in
    rw (ne_eqb x y ne) (next_in-split x ys back (λ i. out (inr i)))

pub prev_in-split : (before : Option ℕ) (x : ℕ) (front back : List ℕ) → (In x front → ⊥) → prev_in before x (front ++ x ∷ back) ≡ last_of before front
prev_in-split before x [] back out = rw eq-eqb refl
prev_in-split before x (y ∷ ys) back out =
    let ne : x ≢ y = λ e. out (inl e) in
    rw (ne_eqb x y ne) (prev_in-split (Some y) x ys back (λ i. out (inr i)))
