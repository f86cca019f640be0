-- The checks of uses.
use Rattle.std.proofs.Common.{◌≡◌, ◌↔◌, ℕ, ◌<◌, ◌≤◌, ◌⊎◌, ◌+◌, Bool, true, false, nat_eq, ◌&&◌, List, [], ◌∷◌, ◌++◌, length, Some, inl, inr, ⊎_elim, refl, sym, ap, ◌∙◌, subst, arith, take, get_or}
use Rattle.std.proofs.Common.{if◌then◌else◌}
use Rattle.std.specs.List.{slice_get, list_any}
use Rattle.pliron_opt_cfg.proofs.Tested.{tested_in}
use Rattle.std.proofs.lemmas.List.{take_more, take_all}
use Rattle.std.proofs.lemmas.Option.{slice_get_within}
use Rattle.indexmap.specs.IndexSet.{insert_key}
use Rattle.pliron_core.specs.declared.uses.Use.{Use}
use Rattle.std.proofs.Common.{zero, suc}
use Rattle.pliron_opt_cfg.proofs.ListLemmas.{item_in}
use Rattle.pliron_opt_cfg.proofs.Growing.{distinct_push}
use Rattle.pliron_core.specs.Tree.{View, In, IsDistinct, operands_of, uses_of}
use Rattle.pliron_core.specs.Invariant.{HaveUses}
use Rattle.pliron_core.proofs.ListLemmas.{In-left, In-right, In-cases}
use Rattle.pliron_core.proofs.MemberLemmas.{in_slice, in_at}
use Rattle.pliron_opt_cfg.specs.Internal.Contents.{IsUsedWithin}

-- one more item of a list
pub taken_cases : (xs : List ℕ) (i x y : ℕ) → i < length xs → x ≡ get_or xs i x → In y (take (i + 1) xs) → (In y (take i xs) → ⊥) → y ≡ x
taken_cases xs i x y lt e j n =
    let more : take (i + 1) xs ≡ take i xs ++ x ∷ [] = take_more xs i x lt ∙ ap (λ z. take i xs ++ z ∷ []) (sym e) in
    ⊎_elim (λ a. absurd (n a)) (λ a. ⊎_elim (λ s. s) (λ z. absurd z) a) (In-cases y (take i xs) (x ∷ []) (subst (In y) more j))

pub taken_split : (xs : List ℕ) (i x y : ℕ) → i < length xs → x ≡ get_or xs i x → In y (take (i + 1) xs) ↔ (In y (take i xs) ⊎ (y ≡ x))
taken_split xs i x y lt e =
    let more : take (i + 1) xs ≡ take i xs ++ x ∷ [] = take_more xs i x lt ∙ ap (λ z. take i xs ++ z ∷ []) (sym e) in (
      λ j. ⊎_elim (λ a. inl a) (λ a. ⊎_elim (λ s. inr s) (λ z. absurd z) a) (In-cases y (take i xs) (x ∷ []) (subst (In y) more j)),
      λ j. subst (In y) (sym more) (⊎_elim (λ a. In-left y (take i xs) (x ∷ []) a) (λ s. In-right y (take i xs) (x ∷ []) (inl s)) j),
    )

pub taken_whole : (xs : List ℕ) (i y : ℕ) → length xs ≤ i → In y xs → In y (take i xs)
taken_whole xs i y h j = subst (In y) (sym (take_all i xs h)) j

-- the first uses of the value are by these operations
abbrev pub AreUsedWithin : View → List ℕ → (v i : ℕ) → Type 0
AreUsedWithin c ops v i = (j : ℕ) (u : Use) → j < i → slice_get (uses_of c.value_uses v) j ≡ Some u → In u.user ops

pub used_within : (c : View) → HaveUses c → (ops : List ℕ) (v i : ℕ) → length (uses_of c.value_uses v) ≤ i → AreUsedWithin c ops v i → IsUsedWithin c.tree ops v
used_within c h ops v i whole all k j =
    let at = in_at (operands_of c.tree k) v j in
    let one : Use = record { user = k; place = at.0 } in
    let listed = h.value_uses.complete k at.0 v at.1 in
    let lt = slice_get_within (uses_of c.value_uses v) listed.0 one listed.1 in
    all listed.0 one (omega (arith, lt, whole)) listed.1

pub is_use : (c : View) → HaveUses c → (v i : ℕ) (u : Use) → slice_get (uses_of c.value_uses v) i ≡ Some u → In v (operands_of c.tree u.user)
is_use c h v i u e = in_slice (operands_of c.tree u.user) u.place v (h.value_uses.listed v i u e)

-- a set and one more
pub in_inserted : (ks : List ℕ) (x k : ℕ) → In k (insert_key (λ a b. nat_eq a b && true) ks x) ↔ (In k ks ⊎ (k ≡ x))
in_inserted ks x k = by (list_any (λ b. nat_eq x b && true) ks) refl
  where
    by : (z : Bool) → list_any (λ b. nat_eq x b && true) ks ≡ z → In k (if z then ks else ks ++ x ∷ []) ↔ (In k ks ⊎ (k ≡ x))
    by true e = (λ i. inl i, λ i. ⊎_elim (λ a. a) (λ s. subst (λ y. In y ks) (sym s) (tested_in ks x e)) i)
    by false e = (λ i. ⊎_elim (λ a. inl a) (λ a. ⊎_elim (λ s. inr s) (λ z. absurd z) a) (In-cases k ks (x ∷ []) i), λ i. ⊎_elim (λ a. In-left k ks (x ∷ []) a) (λ s. In-right k ks (x ∷ []) (inl s)) i)

pub less_or_last : (i j : ℕ) → j < i + 1 → (j < i) ⊎ (j ≡ i)
less_or_last i j lt = grind arith

-- an item of a list without repeats stands nowhere before itself
pub fresh_at : (xs : List ℕ) (i x : ℕ) → IsDistinct xs → i < length xs → x ≡ get_or xs i x → In x (take i xs) → ⊥
fresh_at [] i x d lt e j = absurd (omega arith)
fresh_at (y ∷ ys) zero x d lt e j = j
fresh_at (y ∷ ys) (suc i) x d lt e (inl s) = d.0 (subst (λ z. In z ys) s (item_in ys i x (let h : suc i < suc (length ys) = lt in omega (arith, h)) e))
fresh_at (y ∷ ys) (suc i) x d lt e (inr j) = fresh_at ys i x d.1 (let h : suc i < suc (length ys) = lt in omega (arith, h)) e j

-- the first blocks that are not among the reached ones
pub record AreLeft (all reached left : List ℕ) : Type 0 where
  pub members : (b : ℕ) → In b left ↔ (In b all × (In b reached → ⊥))
  pub distinct : IsDistinct left

pub none_left : (reached : List ℕ) → AreLeft [] reached []
none_left reached = record { members = λ b. (λ i. absurd i, λ i. absurd i.0); distinct = tt }

module _ (all reached left : List ℕ) (x : ℕ) (fresh : In x all → ⊥) (h : AreLeft all reached left) where
  last_cases : (b : ℕ) → In b (all ++ x ∷ []) → In b all ⊎ (b ≡ x)
  last_cases b i = ⊎_elim (λ a. inl a) (λ a. ⊎_elim (λ s. inr s) (λ z. absurd z) a) (In-cases b all (x ∷ []) i)

  pub one_reached : In x reached → AreLeft (all ++ x ∷ []) reached left
  one_reached r = record {
    members = λ b. (λ i. let m = (h.members b).0 i in (In-left b all (x ∷ []) m.0, m.1), λ i. ⊎_elim (λ a. (h.members b).1 (a, i.1)) (λ s. absurd (i.1 (subst (λ z. In z reached) (sym s) r))) (last_cases b i.0));
    distinct = h.distinct;
  }

  pub one_left : (In x reached → ⊥) → AreLeft (all ++ x ∷ []) reached (left ++ x ∷ [])
  one_left n = record {
    members = λ b. (
      λ i. ⊎_elim (λ a. let m = (h.members b).0 a in (In-left b all (x ∷ []) m.0, m.1)) (λ a. ⊎_elim (λ s. (In-right b all (x ∷ []) (inl s), λ r. n (subst (λ z. In z reached) s r))) (λ z. absurd z) a) (In-cases b left (x ∷ []) i),
      λ i. ⊎_elim (λ a. In-left b left (x ∷ []) ((h.members b).1 (a, i.1))) (λ s. In-right b left (x ∷ []) (inl s)) (last_cases b i.0),
    );
    distinct = distinct_push left x h.distinct (λ i. fresh ((h.members x).0 i).0);
  }

pub empty_list : (xs : List ℕ) → length xs ≡ 0 → xs ≡ []
empty_list [] e = refl
empty_list (x ∷ xs) e = absurd (omega (arith, e))

pub some_item : (xs : List ℕ) → (length xs ≡ 0 → ⊥) → (x : ℕ) × In x xs
some_item [] n = absurd (n refl)
some_item (x ∷ xs) n = (x, inl refl)
