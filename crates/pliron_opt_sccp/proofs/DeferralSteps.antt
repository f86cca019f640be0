-- Sets of what is deferred: one of them is changed.
use Rattle.std.proofs.Common.{◌≡◌, ◌⊎◌, ◌↔◌, inl, inr, ⊎_elim, ℕ, Bool, true, false, true≢false, nat_eq, if◌then◌else◌, zero, suc, ◌+◌, ◌<◌, ◌≤◌, List, [], ◌∷◌, ◌++◌, length, length-append, map, Option, Some, None, slice_get, slice_set, refl, sym, ap, ◌∙◌, subst, arith, IsSome}
use Rattle.std.specs.List.{flat_map, list_any}
use Rattle.indexmap.specs.IndexSet.{insert_key}
use Rattle.std.specs.Option.{IfSome, IfNone, option_to_list}
use Rattle.pliron_core.specs.Lists.{In}
use Rattle.pliron_core.proofs.ListLemmas.{In-left, In-right, In-cases}
use Rattle.pliron_core.proofs.HoldingLemmas.{some_is, not_none}
use Rattle.pliron_opt_sccp.specs.Deferring.{Defers, PopsDeferred}
use Rattle.pliron_opt_sccp.specs.OperationVisits.{AddsEach}

module _ {X : Type 0} (f : X → List ℕ) where
  -- what stands in one of the sets stands in them all together
  pub in_all : (xs : List X) (i : ℕ) (x : X) (k : ℕ) → slice_get xs i ≡ Some x → In k (f x) → In k (flat_map f xs)
  in_all [] i x k at j = absurd (not_none at)
  in_all (z ∷ zs) zero x k at j = In-left k (f z) (flat_map f zs) (subst (λ q. In k (f q)) (sym (some_is at)) j)
  in_all (z ∷ zs) (suc i) x k at j = In-right k (f z) (flat_map f zs) (in_all zs i x k at j)

  pub in_changed : (xs : List X) (i : ℕ) (x y : X) (k : ℕ) → slice_get xs i ≡ Some x → In k (f y) → In k (flat_map f (slice_set xs i y))
  in_changed [] i x y k at j = absurd (not_none at)
  in_changed (z ∷ zs) zero x y k at j = In-left k (f y) (flat_map f zs) j
  in_changed (z ∷ zs) (suc i) x y k at j = In-right k (f z) (flat_map f (slice_set zs i y)) (in_changed zs i x y k at j)

  -- one set is changed
  module _ (P : ℕ → Type 0) where
    pub changed_before : (xs : List X) (i : ℕ) (x y : X) → slice_get xs i ≡ Some x → ((k : ℕ) → In k (f x) → In k (f y) ⊎ P k) → (k : ℕ) → In k (flat_map f xs) → In k (flat_map f (slice_set xs i y)) ⊎ P k
    changed_before [] i x y at each k j = absurd (not_none at)
    changed_before (z ∷ zs) zero x y at each k j = ⊎_elim
        (λ h. ⊎_elim (λ q. inl (In-left k (f y) (flat_map f zs) q)) (λ p. inr p) (each k (subst (λ q. In k (f q)) (some_is at) h)))
        (λ h. inl (In-right k (f y) (flat_map f zs) h))
        (In-cases k (f z) (flat_map f zs) j)
    changed_before (z ∷ zs) (suc i) x y at each k j = ⊎_elim
        (λ h. inl (In-left k (f z) (flat_map f (slice_set zs i y)) h))
        (λ h. ⊎_elim (λ q. inl (In-right k (f z) (flat_map f (slice_set zs i y)) q)) (λ p. inr p) (changed_before zs i x y at each k h))
        (In-cases k (f z) (flat_map f zs) j)

    pub changed_after : (xs : List X) (i : ℕ) (x y : X) → slice_get xs i ≡ Some x → ((k : ℕ) → In k (f y) → In k (f x) ⊎ P k) → (k : ℕ) → In k (flat_map f (slice_set xs i y)) → In k (flat_map f xs) ⊎ P k
    changed_after [] i x y at each k j = absurd (not_none at)
    changed_after (z ∷ zs) zero x y at each k j = ⊎_elim
        (λ h. ⊎_elim (λ q. inl (In-left k (f z) (flat_map f zs) (subst (λ r. In k (f r)) (sym (some_is at)) q))) (λ p. inr p) (each k h))
        (λ h. inl (In-right k (f z) (flat_map f zs) h))
        (In-cases k (f y) (flat_map f zs) j)
    changed_after (z ∷ zs) (suc i) x y at each k j = ⊎_elim
        (λ h. inl (In-left k (f z) (flat_map f zs) h))
        (λ h. ⊎_elim (λ q. inl (In-right k (f z) (flat_map f zs) q)) (λ p. inr p) (changed_after zs i x y at each k h))
        (In-cases k (f z) (flat_map f (slice_set zs i y)) j)

  pub changed_length : (xs : List X) (i : ℕ) (x y : X) → slice_get xs i ≡ Some x → length (flat_map f (slice_set xs i y)) + length (f x) ≡ length (flat_map f xs) + length (f y)
  changed_length [] i x y at = absurd (not_none at)
  changed_length (z ∷ zs) zero x y at =
      let a = length-append (f y) (flat_map f zs) in
      let b = length-append (f z) (flat_map f zs) in
      let e = ap (λ q. length (f q)) (some_is at) in
      omega (arith, a, b, e)
  changed_length (z ∷ zs) (suc i) x y at =
      let a = length-append (f z) (flat_map f (slice_set zs i y)) in
      let b = length-append (f z) (flat_map f zs) in
      let e = changed_length zs i x y at in
      omega (arith, a, b, e)

  -- one more is put into one of the sets
  pub put_aside : (xs : List X) (i : ℕ) (x y : X) (op : ℕ) → slice_get xs i ≡ Some x → AddsEach (f x) (f y) (λ k. op ≡ k) → length (f y) ≤ length (f x) + 1 → Defers op (flat_map f xs) (flat_map f (slice_set xs i y))
  put_aside xs i x y op at adds grows = record {
    members = λ k. (
      λ j. changed_after (λ k. k ≡ op) xs i x y at (λ k h. ⊎_elim (λ q. inl q) (λ e. inr (sym e)) ((adds.members k).0 h)) k j,
      λ j. ⊎_elim
          (λ h. ⊎_elim (λ q. q) (λ z. absurd z) (changed_before (λ k. ⊥) xs i x y at (λ k h. inl ((adds.members k).1 (inl h))) k h))
          (λ e. in_changed xs i x y k at ((adds.members k).1 (inr (sym e))))
          j,
    );
    grows = let e = changed_length xs i x y at in omega (arith, e, grows);
  }

  -- the last one of one of the sets is taken
  pub take_aside : (xs : List X) (i : ℕ) (x y : X) (r : Option ℕ) → slice_get xs i ≡ Some x → f x ≡ f y ++ option_to_list r → IfSome r (λ op. PopsDeferred op (flat_map f xs) (flat_map f (slice_set xs i y)))
  take_aside xs i x y None at e = tt
  take_aside xs i x y (Some op) at e = record {
    was = in_all xs i x op at (subst (In op) (sym e) (In-right op (f y) (op ∷ []) (inl refl)));
    others = λ k j. changed_before (λ k. k ≡ op) xs i x y at (λ k h. ⊎_elim (λ q. inl q) (λ q. ⊎_elim (λ s. inr s) (λ z. absurd z) q) (In-cases k (f y) (op ∷ []) (subst (In k) e h))) k j;
    only = λ k j. ⊎_elim (λ q. q) (λ z. absurd z) (changed_after (λ k. ⊥) xs i x y at (λ k h. inl (subst (In k) (sym e) (In-left k (f y) (op ∷ []) h))) k j);
    fewer =
        let l = changed_length xs i x y at in
        let m = ap length e ∙ length-append (f y) (op ∷ []) in
        omega (arith, l, m);
  }

  -- the keys of the set with this number
  pub first_within : (xs : List X) (i : ℕ) (keys : List ℕ) → slice_get (map f xs) i ≡ Some keys → i < length xs
  first_within [] i keys at = absurd (not_none at)
  first_within (z ∷ zs) zero keys at = omega arith
  first_within (z ∷ zs) (suc i) keys at = let l = first_within zs i keys at in omega (arith, l)

  pub first_keys : (xs : List X) (i : ℕ) (x : X) (keys : List ℕ) → slice_get xs i ≡ Some x → slice_get (map f xs) i ≡ Some keys → keys ≡ f x
  first_keys [] i x keys at e = absurd (not_none at)
  first_keys (z ∷ zs) zero x keys at e = sym (some_is e) ∙ ap f (some_is at)
  first_keys (z ∷ zs) (suc i) x keys at e = first_keys zs i x keys at e

-- where there is a key one is found
pub none_only_if_empty : (P : Type 0) (r : Option ℕ) (n : ℕ) → IsSome r ↔ (0 < n) → 0 < n → IfNone r P
none_only_if_empty P (Some x) n found some = tt
none_only_if_empty P None n found some = absurd (true≢false (sym (found.1 some)))

-- a key that is inserted adds one at most
pub key_grows : {eq : ℕ → ℕ → Bool} → ((x y : ℕ) → eq x y ≡ nat_eq x y) → (xs ys : List ℕ) (x : ℕ) → ys ≡ insert_key eq xs x → length ys ≤ length xs + 1
key_grows {eq} same xs ys x e = by (list_any (eq x) xs) refl
  where
    by : (b : Bool) → list_any (eq x) xs ≡ b → length ys ≤ length xs + 1
    by true t = let l = ap length (e ∙ ap (λ b. if b then xs else xs ++ x ∷ []) t) in omega (arith, l)
    by false t = let l = ap length (e ∙ ap (λ b. if b then xs else xs ++ x ∷ []) t) in let m = length-append xs (x ∷ []) in omega (arith, l, m)
