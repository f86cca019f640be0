-- Lemmas on what a filter keeps of a list without repeats, and on how long such lists are.
use Rattle.std.proofs.Common.{◌≡◌, ◌≢◌, ℕ, zero, suc, ◌<◌, ◌≤◌, Bool, true, false, List, [], ◌∷◌, ◌++◌, length, nat_lt, nat_eq, Some, refl, sym, ap, ◌∙◌, subst, inl, inr, arith, length-append}
use Rattle.std.specs.List.{filter, slice_get, list_any}
use Rattle.std.proofs.lemmas.Bool.{cases_eq, cases_Bool, cases_order, eqb-true, eq-eqb, lt-ltb, le-ltb, false≢true, or_cases}
use Rattle.std.proofs.lemmas.Option.{none-some, same_Some}
use Rattle.pliron_core.specs.Lists.{In, IsDistinct}
use Rattle.pliron_core.specs.Rising.{IsRising}
use Rattle.pliron_core.proofs.ListLemmas.{In-left, In-right, In-cases, split_at}

-- what a filter keeps is what the list has and the test passes
pub In-filter : (p : ℕ → Bool) (xs : List ℕ) (x : ℕ) → In x (filter p xs) → In x xs × (p x ≡ true)
In-filter p [] x i = absurd i
In-filter p (y ∷ ys) x i =
    elim (cases_Bool (p y)) [
      | inl e ↦
          elim (rw e at i) [ inl same ↦ (inl same, ap p same ∙ e) | inr j ↦ let h = In-filter p ys x j in (inr h.0, h.1) ]
      | inr e ↦ let h = In-filter p ys x (rw e at i) in (inr h.0, h.1)
    ]

pub In-filtered : (p : ℕ → Bool) (xs : List ℕ) (x : ℕ) → In x xs → p x ≡ true → In x (filter p xs)
In-filtered p [] x i e = i
In-filtered p (y ∷ ys) x (inl same) e = rw (sym (ap p same) ∙ e) (inl same)
In-filtered p (y ∷ ys) x (inr i) e =
    elim (cases_Bool (p y)) [ inl yes_y ↦ rw yes_y (inr (In-filtered p ys x i e)) | inr no_y ↦ rw no_y (In-filtered p ys x i e) ]

pub distinct-filter : (p : ℕ → Bool) (xs : List ℕ) → IsDistinct xs → IsDistinct (filter p xs)
distinct-filter p [] d = tt
distinct-filter p (y ∷ ys) d =
    elim (cases_Bool (p y)) [
      | inl e ↦ rw e (λ i. d.0 (In-filter p ys y i).0, distinct-filter p ys d.1)
      | inr e ↦ rw e (distinct-filter p ys d.1)
    ]

pub rising-filter : (p : ℕ → Bool) (xs : List ℕ) → IsRising xs → IsRising (filter p xs)
rising-filter p [] r = tt
rising-filter p (y ∷ ys) r =
    elim (cases_Bool (p y)) [
      | inl e ↦ rw e (λ z i. r.0 z (In-filter p ys z i).0, rising-filter p ys r.1)
      | inr e ↦ rw e (rising-filter p ys r.1)
    ]

-- a list without repeats is no longer than one that has all its members
pub distinct-within : (xs ys : List ℕ) → IsDistinct xs → ((x : ℕ) → In x xs → In x ys) → length xs ≤ length ys
distinct-within [] ys d within = omega arith
distinct-within (x ∷ xs) ys d within =
    let s = split_at x ys (within x (inl refl)) in
    let rest : (z : ℕ) → In z xs → In z (s.0 ++ s.1) = λ z i.
    elim (In-cases z s.0 (x ∷ s.1) (subst (λ l. In z l) s.2 (within z (inr i)))) [
      | inl a ↦ In-left z s.0 s.1 a
      | inr b ↦ elim b [ inl e ↦ absurd (d.0 (subst (λ w. In w xs) e i)) | inr h ↦ In-right z s.0 s.1 h ]
    ] in
    let short : length xs ≤ length (s.0 ++ s.1) = distinct-within xs (s.0 ++ s.1) d.1 rest in
    omega (arith, short, ap length s.2, length-append s.0 (x ∷ s.1), length-append s.0 s.1)

-- so two such lists with the same members have one length
pub same_members : (xs ys : List ℕ) → IsDistinct xs → IsDistinct ys → ((x : ℕ) → In x xs → In x ys) → ((x : ℕ) → In x ys → In x xs) → length xs ≡ length ys
same_members xs ys dx dy to from = omega (arith, distinct-within xs ys dx to, distinct-within ys xs dy from)

-- when a list without repeats has one element
pub one_none : (xs : List ℕ) → ((x : ℕ) → In x xs → ⊥) → length xs ≡ 1 → ⊥
one_none [] out e = omega arith
one_none (x ∷ xs) out e = out x (inl refl)

pub one_all : (xs : List ℕ) (b : ℕ) → IsDistinct xs → In b xs → ((x : ℕ) → In x xs → x ≡ b) → length xs ≡ 1
one_all xs b d i all = same_members xs (b ∷ []) d (λ j. j, tt) (λ x j. inl (all x j)) (λ x j. elim j [ inl e ↦ subst (λ w. In w xs) (sym e) i | inr h ↦ absurd h ])

pub one_two : (xs : List ℕ) (a b : ℕ) → In a xs → In b xs → a ≢ b → length xs ≡ 1 → ⊥
one_two xs a b i j ne e =
    let two : length (a ∷ b ∷ []) ≤ length xs = distinct-within (a ∷ b ∷ []) xs (λ h. elim h [ inl same ↦ ne same | inr out ↦ out ], (λ out. out, tt)) (λ x h.
    elim h [ inl same ↦ subst (λ w. In w xs) (sym same) i | inr h2 ↦ elim h2 [ inl same ↦ subst (λ w. In w xs) (sym same) j | inr out ↦ absurd out ] ]) in
    omega (arith, two)

-- how many stand below a bound
pub below_zero : (xs : List ℕ) → length (filter (λ a. nat_lt a 0) xs) ≡ 0
below_zero [] = refl
below_zero (x ∷ xs) = rw (le-ltb x 0 (omega arith)) (below_zero xs)

pub below_all : (xs : List ℕ) (n : ℕ) → ((x : ℕ) → In x xs → x < n) → length (filter (λ a. nat_lt a n) xs) ≡ length xs
below_all [] n below = refl
below_all (x ∷ xs) n below = rw (lt-ltb x n (below x (inl refl))) (ap suc (below_all xs n (λ z i. below z (inr i))))

pub below_none : (xs : List ℕ) (n : ℕ) → ((x : ℕ) → In x xs → n ≤ x) → length (filter (λ a. nat_lt a n) xs) ≡ 0
below_none [] n above = refl
below_none (x ∷ xs) n above = rw (le-ltb x n (above x (inl refl))) (below_none xs n (λ z i. above z (inr i)))

-- in a rising list the number at an index is the one with so many below it
pub rising_at : (xs : List ℕ) → IsRising xs → (i b : ℕ) → length (filter (λ a. nat_lt a b) xs) ≤ i → i < length (filter (λ a. nat_lt a (suc b)) xs) → slice_get xs i ≡ Some b
rising_at [] r i b low high = absurd (omega arith)
rising_at (x ∷ xs) r i b low high =
    elim (cases_order x b) [
      | inl same ↦
          let here : nat_lt x (suc b) ≡ true = lt-ltb x (suc b) (omega arith) in
          let none : length (filter (λ a. nat_lt a (suc b)) xs) ≡ 0 = below_none xs (suc b) (λ z j. let lt : x < z = r.0 z j in omega arith) in
          let up : i < suc (length (filter (λ a. nat_lt a (suc b)) xs)) = rw here at high in
          let zero_i : i ≡ 0 = omega arith in
          rw zero_i (ap Some same)
      | inr h ↦
          elim h [
            | inl lt ↦
                let here : nat_lt x b ≡ true = lt-ltb x b lt in
                let there : nat_lt x (suc b) ≡ true = lt-ltb x (suc b) (omega arith) in
                later (λ j. rising_at xs r.1 j b) i (rw here at low) (rw there at high)
            | inr gt ↦
                let here : nat_lt x (suc b) ≡ false = le-ltb x (suc b) (omega arith) in
                let none : length (filter (λ a. nat_lt a (suc b)) xs) ≡ 0 = below_none xs (suc b) (λ z j. let lt : x < z = r.0 z j in omega arith) in
                let up : i < length (filter (λ a. nat_lt a (suc b)) xs) = rw here at high in
                absurd (omega arith)
          ]
    ]
  where
    later : ((j : ℕ) → length (filter (λ a. nat_lt a b) xs) ≤ j → j < length (filter (λ a. nat_lt a (suc b)) xs) → slice_get xs j ≡ Some b) → (i : ℕ) → suc (length (filter (λ a. nat_lt a b) xs)) ≤ i → i < suc (length (filter (λ a. nat_lt a (suc b)) xs)) → slice_get (x ∷ xs) i ≡ Some b
    later rest zero low high = absurd (omega arith)
    later rest (suc i) low high = rest i (omega arith) (omega arith)

-- where a list has a number, and where it has it first
pub any_at : (xs : List ℕ) (b : ℕ) → list_any (λ s. nat_eq s b) xs ≡ true → (p : ℕ) × (slice_get xs p ≡ Some b)
any_at [] b e = absurd (false≢true e)
any_at (x ∷ xs) b e =
    elim (or_cases (nat_eq x b) (list_any (λ s. nat_eq s b) xs) e) [ inl h ↦ (0, ap Some (eqb-true x b h)) | inr h ↦ let q = any_at xs b h in (suc q.0, q.1) ]

pub at_any : (xs : List ℕ) (b p : ℕ) → slice_get xs p ≡ Some b → list_any (λ s. nat_eq s b) xs ≡ true
at_any [] b p e = absurd (none-some b e)
at_any (x ∷ xs) b zero e = rw (eq-eqb x b (same_Some x b e)) refl
at_any (x ∷ xs) b (suc p) e = elim (cases_Bool (nat_eq x b)) [ inl h ↦ rw h refl | inr h ↦ rw h (at_any xs b p e) ]

pub first_at : (xs : List ℕ) (b p : ℕ) → slice_get xs p ≡ Some b → (q : ℕ) × (slice_get xs q ≡ Some b) × ((k : ℕ) → k < q → slice_get xs k ≢ Some b)
first_at [] b p e = absurd (none-some b e)
first_at (x ∷ xs) b p e =
    elim (cases_eq x b) [
      | inl same ↦ (0, ap Some same, λ k lt h. omega arith)
      | inr ne ↦ let q = later (λ k. first_at xs b k) p e ne in (suc q.0, q.1, λ k. before q.0 q.2 ne k)
    ]
  where
    later : ((k : ℕ) → slice_get xs k ≡ Some b → (q : ℕ) × (slice_get xs q ≡ Some b) × ((j : ℕ) → j < q → slice_get xs j ≢ Some b)) → (p : ℕ) → slice_get (x ∷ xs) p ≡ Some b → x ≢ b → (q : ℕ) × (slice_get xs q ≡ Some b) × ((k : ℕ) → k < q → slice_get xs k ≢ Some b)
    later rest zero e ne = absurd (ne (same_Some x b e))
    later rest (suc p) e ne = rest p e

    before : (q : ℕ) → ((k : ℕ) → k < q → slice_get xs k ≢ Some b) → x ≢ b → (k : ℕ) → k < suc q → slice_get (x ∷ xs) k ≢ Some b
    before q out ne zero lt h = ne (same_Some x b h)
    before q out ne (suc k) lt h = out k (omega arith) h
