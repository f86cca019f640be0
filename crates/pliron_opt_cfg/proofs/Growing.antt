-- Regions that are seen for the first time wait.
use Rattle.std.proofs.Common.{inl, inr, ⊎_elim, ℕ, List, [], ◌∷◌, ◌++◌, length-append, refl, sym, subst, arith}
use Rattle.pliron_core.specs.Lists.{In, IsDistinct}
use Rattle.pliron_core.proofs.ListLemmas.{In-left, In-right, In-cases}
use Rattle.pliron_opt_cfg.specs.Internal.Seen.{HasGrown}

pub grew_none : (s w : List ℕ) → HasGrown [] s w s w
grew_none s w = record {
  kept = λ r i. i;
  only = λ r i. inl i;
  all = λ r i. absurd i;
  wait = λ r i. i;
  fresh = λ r i. inl i;
  within = λ r i. inl i;
  count = refl;
  distinct = λ d. d;
}

-- a distinct list and one more
pub distinct_push : (xs : List ℕ) (x : ℕ) → IsDistinct xs → (In x xs → ⊥) → IsDistinct (xs ++ x ∷ [])
distinct_push [] x d n = ((λ i. i), tt)
distinct_push (y ∷ ys) x d n = ((λ i. ⊎_elim (λ j. d.0 j) (λ j. ⊎_elim (λ e. n (inl (sym e))) (λ z. z) j) (In-cases y ys (x ∷ []) i)), distinct_push ys x d.1 (λ i. n (inr i)))

module _ (rs s w s' w' : List ℕ) (x : ℕ) (g : HasGrown rs s w s' w') where
  pub grew_old : In x s' → HasGrown (rs ++ x ∷ []) s w s' w'
  grew_old i = record {
    kept = g.kept;
    only = λ r j. ⊎_elim (λ a. inl a) (λ a. inr (In-left r rs (x ∷ []) a)) (g.only r j);
    all = λ r j. ⊎_elim (λ a. g.all r a) (λ a. ⊎_elim (λ e. subst (λ z. In z s') (sym e) i) (λ z. absurd z) a) (In-cases r rs (x ∷ []) j);
    wait = g.wait;
    fresh = g.fresh;
    within = g.within;
    count = g.count;
    distinct = g.distinct;
  }

  pub grew_new : (In x s' → ⊥) → HasGrown (rs ++ x ∷ []) s w (s' ++ x ∷ []) (w' ++ x ∷ [])
  grew_new n = record {
    kept = λ r j. In-left r s' (x ∷ []) (g.kept r j);
    only = λ r j. ⊎_elim (λ a. ⊎_elim (λ b. inl b) (λ b. inr (In-left r rs (x ∷ []) b)) (g.only r a)) (λ a. inr (In-right r rs (x ∷ []) a)) (In-cases r s' (x ∷ []) j);
    all = λ r j. ⊎_elim (λ a. In-left r s' (x ∷ []) (g.all r a)) (λ a. In-right r s' (x ∷ []) a) (In-cases r rs (x ∷ []) j);
    wait = λ r j. In-left r w' (x ∷ []) (g.wait r j);
    fresh = λ r j. ⊎_elim (λ a. ⊎_elim (λ b. inl b) (λ b. inr (In-left r w' (x ∷ []) b)) (g.fresh r a)) (λ a. inr (In-right r w' (x ∷ []) a)) (In-cases r s' (x ∷ []) j);
    within = λ r j. ⊎_elim (λ a. ⊎_elim (λ b. inl b) (λ b. inr (In-left r s' (x ∷ []) b)) (g.within r a)) (λ a. inr (In-right r s' (x ∷ []) a)) (In-cases r w' (x ∷ []) j);
    count = let e = g.count in omega (arith, e, length-append w' (x ∷ []), length-append s' (x ∷ []));
    distinct = λ d. distinct_push s' x (g.distinct d) n;
  }

-- and more regions
pub grew_both : (rs qs s w s' w' s'' w'' : List ℕ) → HasGrown rs s w s' w' → HasGrown qs s' w' s'' w'' → HasGrown (rs ++ qs) s w s'' w''
grew_both rs qs s w s' w' s'' w'' g h = record {
  kept = λ r i. h.kept r (g.kept r i);
  only = λ r i. ⊎_elim (λ a. ⊎_elim (λ b. inl b) (λ b. inr (In-left r rs qs b)) (g.only r a)) (λ a. inr (In-right r rs qs a)) (h.only r i);
  all = λ r i. ⊎_elim (λ a. h.kept r (g.all r a)) (λ a. h.all r a) (In-cases r rs qs i);
  wait = λ r i. h.wait r (g.wait r i);
  fresh = λ r i. ⊎_elim (λ a. ⊎_elim (λ b. inl b) (λ b. inr (h.wait r b)) (g.fresh r a)) (λ a. inr a) (h.fresh r i);
  within = λ r i. ⊎_elim (λ a. ⊎_elim (λ b. inl b) (λ b. inr (h.kept r b)) (g.within r a)) (λ a. inr a) (h.within r i);
  count = let e = g.count in let f = h.count in omega (arith, e, f);
  distinct = λ d. h.distinct (g.distinct d);
}
