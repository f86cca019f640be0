-- Lists of users, each once.
use Rattle.std.proofs.Common.{◌≡◌, ◌⊎◌, ◌↔◌, ⊎_elim, inl, inr, ℕ, Bool, true, false, true≢false, ◌&&◌, nat_eq, if◌then◌else◌, List, [], ◌∷◌, ◌++◌, length, refl, sym, ap, ◌∙◌, subst, arith}
use Rattle.std.specs.List.{list_any, IsDistinct as IsDistinctBy, AllByRecursion}
use Rattle.std.proofs.lemmas.Bool.{eq-eqb}
use Rattle.indexmap.specs.IndexSet.{insert_key}
use Rattle.pliron_core.specs.Lists.{In, IsDistinct}
use Rattle.pliron_core.proofs.ListLemmas.{In-left, In-right, In-cases, distinct-join}
use Rattle.pliron_opt_sccp.specs.OperationVisits.{AddsEach}
use Rattle.pliron_opt_sccp.proofs.Worklists.{any_in, in_any}

-- the equality of keys, as a set has it
pub any_same : (p q : ℕ → Bool) → ((y : ℕ) → p y ≡ q y) → (xs : List ℕ) → list_any p xs ≡ list_any q xs
any_same p q e [] = refl
any_same p q e (y ∷ ys) = let h = e y in let r = any_same p q e ys in grind (arith, h, r)

pub and_true : (b : Bool) → (b && true) ≡ b
and_true true = refl
and_true false = refl

apart_by : {eq : ℕ → ℕ → Bool} → ((x y : ℕ) → eq x y ≡ nat_eq x y) → (x : ℕ) (ys : List ℕ) → AllByRecursion (λ y. eq x y ≡ false) ys → In x ys → ⊥
apart_by same x [] all i = i
apart_by same x (y ∷ ys) all (inl e) = true≢false (sym (same x y ∙ eq-eqb x y e) ∙ all.0)
apart_by same x (y ∷ ys) all (inr i) = apart_by same x ys all.1 i

pub distinct_by : {eq : ℕ → ℕ → Bool} → ((x y : ℕ) → eq x y ≡ nat_eq x y) → (xs : List ℕ) → IsDistinctBy eq xs → IsDistinct xs
unfolding IsDistinctBy
distinct_by same [] d = tt
distinct_by same (x ∷ xs) d = (λ i. apart_by same x xs d.0 i, distinct_by same xs d.1)

pub adds_none : (xs : List ℕ) (So : ℕ → Type 0) → ((k : ℕ) → So k → ⊥) → AddsEach xs xs So
adds_none xs So none = record { distinct = λ d. d; members = λ k. (λ i. inl i, λ s. ⊎_elim (λ i. i) (λ p. absurd (none k p)) s) }

pub adds_more : (xs ys zs : List ℕ) (P Q R : ℕ → Type 0) → AddsEach xs ys P → AddsEach ys zs Q → ((k : ℕ) → (P k ⊎ Q k) ↔ R k) → AddsEach xs zs R
adds_more xs ys zs P Q R p q both = record {
  distinct = λ d. q.distinct (p.distinct d);
  members = λ k. (
    λ i. ⊎_elim (λ j. ⊎_elim (λ h. inl h) (λ h. inr ((both k).0 (inl h))) ((p.members k).0 j)) (λ h. inr ((both k).0 (inr h))) ((q.members k).0 i),
    λ s. ⊎_elim (λ h. (q.members k).1 (inl ((p.members k).1 (inl h)))) (λ r. ⊎_elim (λ h. (q.members k).1 (inl ((p.members k).1 (inr h)))) (λ h. (q.members k).1 (inr h)) ((both k).1 r)) s,
  );
}

pub adds_as : (xs ys : List ℕ) (P R : ℕ → Type 0) → AddsEach xs ys P → ((k : ℕ) → P k ↔ R k) → AddsEach xs ys R
adds_as xs ys P R p same = adds_more xs ys ys P (λ k. ⊥) R p (adds_none ys (λ k. ⊥) (λ k z. z)) (λ k. (λ s. ⊎_elim (λ h. (same k).0 h) (λ z. absurd z) s, λ r. inl ((same k).1 r)))

-- one more key
pub key_added : {eq : ℕ → ℕ → Bool} → ((x y : ℕ) → eq x y ≡ nat_eq x y) → (xs ys : List ℕ) (x : ℕ) → ys ≡ insert_key eq xs x → AddsEach xs ys (λ k. x ≡ k)
key_added {eq} same_eq xs ys x first = by (list_any (nat_eq x) xs) refl
  where
    e : ys ≡ (if list_any (nat_eq x) xs then xs else xs ++ x ∷ [])
    e = first ∙ ap (λ b. if b then xs else xs ++ x ∷ []) (any_same (eq x) (nat_eq x) (same_eq x) xs)

    at_end : (k : ℕ) → In k (xs ++ x ∷ []) → In k xs ⊎ (x ≡ k)
    at_end k i = ⊎_elim (λ j. inl j) (λ j. inr (⊎_elim (λ s. sym s) (λ z. absurd z) j)) (In-cases k xs (x ∷ []) i)

    by : (b : Bool) → list_any (nat_eq x) xs ≡ b → AddsEach xs ys (λ k. x ≡ k)
    by true there =
        let same : ys ≡ xs = e ∙ ap (λ b. if b then xs else xs ++ x ∷ []) there in
        record {
          distinct = λ d. subst IsDistinct (sym same) d;
          members = λ k. (λ i. inl (subst (In k) same i), λ s. subst (In k) (sym same) (⊎_elim (λ i. i) (λ h. subst (λ z. In z xs) h (any_in x xs there)) s));
        }
    by false new =
        let grown : ys ≡ xs ++ x ∷ [] = e ∙ ap (λ b. if b then xs else xs ++ x ∷ []) new in
        record {
          distinct = λ d. subst IsDistinct (sym grown) (distinct-join xs (x ∷ []) d (λ z. z, tt) (λ y i j. ⊎_elim (λ s. true≢false (sym (in_any x xs (subst (λ z. In z xs) s i)) ∙ new)) (λ z. z) j));
          members = λ k. (λ i. at_end k (subst (In k) grown i), λ s. subst (In k) (sym grown) (⊎_elim (λ i. In-left k xs (x ∷ []) i) (λ h. In-right k xs (x ∷ []) (inl (sym h))) s));
        }

-- the keys of an empty set
pub no_keys : (xs : List ℕ) → length xs ≡ 0 → xs ≡ []
no_keys [] e = refl
no_keys (x ∷ xs) e = absurd (omega (arith, e))
