-- The tests of blocks that are to be copied.
use Rattle.std.proofs.Common.{◌≡◌, inl, inr, ⊎_elim, ℕ, zero, suc, ◌⊎◌, ◌+◌, ◌<◌, ◌≤◌, Bool, true, false, not, if◌then◌else◌, List, [], ◌∷◌, ◌++◌, length, get_or, take, refl, sym, ap, ◌∙◌, subst, arith}
use Rattle.std.specs.List.{list_any}
use Rattle.std.proofs.lemmas.Bool.{false≢true, cases_Bool, or_cases, eq-eqb}
use Rattle.std.proofs.lemmas.List.{take_more, take_all}
use Rattle.indexmap.specs.IndexSet.{insert_key}
use Rattle.pliron_core.specs.Tree.{In, IsDistinct}
use Rattle.pliron_core.proofs.ListLemmas.{In-left, In-right, In-cases}
use Rattle.pliron_core.proofs.EdgeLemmas.{same_key}
use Rattle.pliron_laws.specs.Tree.{is_one_key}
use Rattle.pliron_rewrite_calls.proofs.CopyLists.{there}

taken : (xs : List ℕ) (i x : ℕ) → i < length xs → x ≡ get_or xs i x → take (i + 1) xs ≡ take i xs ++ x ∷ []
taken xs i x lt e = take_more xs i x lt ∙ ap (λ z. take i xs ++ z ∷ []) (sym e)

last_cases : (xs : List ℕ) (x y : ℕ) → In y (xs ++ x ∷ []) → In y xs ⊎ (y ≡ x)
last_cases xs x y i = ⊎_elim (λ a. inl a) (λ a. ⊎_elim (λ s. inr s) (λ z. absurd z) a) (In-cases y xs (x ∷ []) i)

last_in : (xs : List ℕ) (x y : ℕ) → In y xs ⊎ (y ≡ x) → In y (xs ++ x ∷ [])
last_in xs x y i = ⊎_elim (λ a. In-left y xs (x ∷ []) a) (λ s. In-right y xs (x ∷ []) (inl s)) i

-- what holds of the first blocks, and of the next one
pub more_hold : (P : ℕ → Type 0) (xs : List ℕ) (i x : ℕ) → i < length xs → x ≡ get_or xs i x → ((b : ℕ) → In b (take i xs) → P b) → P x → (b : ℕ) → In b (take (i + 1) xs) → P b
more_hold P xs i x lt e all p b j = ⊎_elim (λ a. all b a) (λ s. subst P (sym s) p) (last_cases (take i xs) x b (subst (In b) (taken xs i x lt e) j))

pub all_hold : (P : ℕ → Type 0) (xs : List ℕ) (i : ℕ) → length xs ≤ i → ((b : ℕ) → In b (take i xs) → P b) → (b : ℕ) → In b xs → P b
all_hold P xs i h all b j = all b (subst (In b) (sym (take_all i xs h)) j)

key_in : (xs : List ℕ) (k : ℕ) → list_any (λ y. is_one_key k y) xs ≡ true → In k xs
key_in [] k e = absurd (false≢true e)
key_in (x ∷ xs) k e = elim (or_cases (is_one_key k x) (list_any (λ y. is_one_key k y) xs) e) [ inl h ↦ inl (same_key k x (sym h)) | inr h ↦ inr (key_in xs k h) ]

in_key : (xs : List ℕ) (k : ℕ) → In k xs → list_any (λ y. is_one_key k y) xs ≡ true
in_key [] k i = absurd i
in_key (x ∷ xs) k (inl e) = rw (eq-eqb k x e) refl
in_key (x ∷ xs) k (inr i) = elim (cases_Bool (is_one_key k x)) [ inl h ↦ rw h refl | inr h ↦ rw h (in_key xs k i) ]

distinct_more : (xs : List ℕ) (x : ℕ) → IsDistinct xs → (In x xs → ⊥) → IsDistinct (xs ++ x ∷ [])
distinct_more [] x d n = ((λ i. i), tt)
distinct_more (y ∷ ys) x d n = ((λ i. ⊎_elim (λ j. d.0 j) (λ s. n (inl (sym s))) (last_cases ys x y i)), distinct_more ys x d.1 (λ i. n (inr i)))

-- an item of a list without repeats stands nowhere before itself
fresh_at : (xs : List ℕ) (i x : ℕ) → IsDistinct xs → i < length xs → x ≡ get_or xs i x → In x (take i xs) → ⊥
fresh_at [] i x d lt e j = absurd (omega arith)
fresh_at (y ∷ ys) zero x d lt e j = j
fresh_at (y ∷ ys) (suc i) x d lt e (inl s) = d.0 (subst (λ z. In z ys) s (there ys i x (let h : suc i < suc (length ys) = lt in omega (arith, h)) e))
fresh_at (y ∷ ys) (suc i) x d lt e (inr j) = fresh_at ys i x d.1 (let h : suc i < suc (length ys) = lt in omega (arith, h)) e j

-- the set has the first blocks, which are apart
pub record AreSeen (xs : List ℕ) (i : ℕ) (keys : List ℕ) : Type 0 where
  pub only : (k : ℕ) → In k keys → In k (take i xs)
  pub all : (k : ℕ) → In k (take i xs) → In k keys
  pub apart : IsDistinct (take i xs)

pub none_seen : (xs keys : List ℕ) → keys ≡ [] → AreSeen xs 0 keys
none_seen xs keys e = record { only = λ k i. absurd (subst (In k) e i); all = λ k i. absurd i; apart = tt }

module _ (xs keys : List ℕ) (i x : ℕ) (lt : i < length xs) (at : x ≡ get_or xs i x) (seen : AreSeen xs i keys) where
  pub one_seen : (now : List ℕ) → now ≡ insert_key is_one_key keys x → list_any (λ y. is_one_key x y) keys ≡ false → AreSeen xs (i + 1) now
  one_seen now e new =
      let more = taken xs i x lt at in
      let keys' : now ≡ keys ++ x ∷ [] = e ∙ ap (λ b. if b then keys else keys ++ x ∷ []) new in
      record {
        only = λ k j. subst (In k) (sym more) (last_in (take i xs) x k (⊎_elim (λ a. inl (seen.only k a)) (λ s. inr s) (last_cases keys x k (subst (In k) keys' j))));
        all = λ k j. subst (In k) (sym keys') (last_in keys x k (⊎_elim (λ a. inl (seen.all k a)) (λ s. inr s) (last_cases (take i xs) x k (subst (In k) more j))));
        apart = subst IsDistinct (sym more) (distinct_more (take i xs) x seen.apart (λ j. false≢true (sym new ∙ in_key keys x (seen.all x j))));
      }

  pub seen_twice : list_any (λ y. is_one_key x y) keys ≡ true → IsDistinct xs → ⊥
  seen_twice old d = fresh_at xs i x d lt at (seen.only x (key_in keys x old))

pub all_seen : (xs keys : List ℕ) (i : ℕ) → length xs ≤ i → AreSeen xs i keys → IsDistinct xs
all_seen xs keys i h seen = subst IsDistinct (take_all i xs h) seen.apart

-- what an insertion answers
pub is_new : (b r : Bool) → r ≡ not b → r ≡ true → b ≡ false
is_new true r e t = absurd (false≢true (sym e ∙ t))
is_new false r e t = refl

pub is_old : (b r : Bool) → r ≡ not b → r ≡ false → b ≡ true
is_old true r e f = refl
is_old false r e f = absurd (false≢true (sym f ∙ e))

pub no_item : (xs : List ℕ) → (length xs ≡ 0 → ⊥) → xs ≡ [] → ⊥
no_item xs n e = n (ap length e)

pub no_length : (xs : List ℕ) → length xs ≡ 0 → xs ≡ []
no_length [] e = refl
no_length (x ∷ xs) e = absurd (omega (arith, e))
