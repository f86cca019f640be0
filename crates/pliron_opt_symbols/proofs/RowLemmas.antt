-- Lists of nodes that get more.
use Rattle.std.proofs.Common.{◌≡◌, ◌⊎◌, inl, inr, ⊎_elim, ℕ, suc, ◌+◌, List, [], ◌∷◌, ◌++◌, take, refl, sym, subst, arith}
use Rattle.std.specs.Prelude.{◌↔◌, Contains}
use Rattle.std.proofs.lemmas.List.Elements.{Contains-append_left, Contains-push, Contains-push_cases}
use Rattle.pliron_core.specs.Tree.{In}
use Rattle.pliron_core.proofs.ListLemmas.{In-left, In-right, In-cases}
use Rattle.pliron_opt_symbols.specs.Rows.{Gets, OfOne}

pub gets_none : (xs : List ℕ) (P : ℕ → Type 0) → ((v : ℕ) → P v → ⊥) → Gets xs xs P
gets_none xs P none v = (λ h. inl h, λ h. ⊎_elim (λ x. x) (λ p. absurd (none v p)) h)

pub gets_push : (xs : List ℕ) (x : ℕ) (P : ℕ → Type 0) → P x → ((v : ℕ) → P v → v ≡ x) → Gets xs (xs ++ x ∷ []) P
gets_push xs x P is only v = (
  λ h. ⊎_elim (λ a. inl a) (λ e. inr (subst P e is)) (Contains-push_cases xs x v h),
  λ h. ⊎_elim (λ a. Contains-append_left xs (x ∷ []) v a) (λ p. subst (Contains (xs ++ x ∷ [])) (sym (only v p)) (Contains-push xs x)) h,
)

pub gets_then : (a b c : List ℕ) (P Q : ℕ → Type 0) → Gets a b P → Gets b c Q → Gets a c (λ v. P v ⊎ Q v)
gets_then a b c P Q f g v = (
  λ h. ⊎_elim (λ x. ⊎_elim (λ y. inl y) (λ p. inr (inl p)) ((f v).0 x)) (λ q. inr (inr q)) ((g v).0 h),
  λ h. ⊎_elim (λ x. (g v).1 (inl ((f v).1 (inl x)))) (λ z. ⊎_elim (λ p. (g v).1 (inl ((f v).1 (inr p)))) (λ q. (g v).1 (inr q)) z) h,
)

pub gets_by : (a b : List ℕ) (P Q : ℕ → Type 0) → Gets a b P → ((v : ℕ) → P v → Q v) → ((v : ℕ) → Q v → P v) → Gets a b Q
gets_by a b P Q f forth back v = (
  λ h. ⊎_elim (λ x. inl x) (λ p. inr (forth v p)) ((f v).0 h),
  λ h. (f v).1 (⊎_elim (λ x. inl x) (λ q. inr (back v q)) h),
)

-- what one more of these adds
pub gets_more : (a b c ks : List ℕ) (i k : ℕ) (P : ℕ → ℕ → Type 0) → take (i + 1) ks ≡ take i ks ++ k ∷ [] → Gets a b (OfOne (take i ks) P) → Gets b c (P k) → Gets a c (OfOne (take (i + 1) ks) P)
gets_more a b c ks i k P more f g = gets_by a c (λ v. OfOne (take i ks) P v ⊎ P k v) (OfOne (take (i + 1) ks) P) (gets_then a b c (OfOne (take i ks) P) (P k) f g) forth back
  where
    forth : (v : ℕ) → OfOne (take i ks) P v ⊎ P k v → OfOne (take (i + 1) ks) P v
    forth v h = subst (λ xs. OfOne xs P v) (sym more) (⊎_elim (λ x. (x.0, In-left x.0 (take i ks) (k ∷ []) x.1, x.2)) (λ p. (k, In-right k (take i ks) (k ∷ []) (inl refl), p)) h)

    back : (v : ℕ) → OfOne (take (i + 1) ks) P v → OfOne (take i ks) P v ⊎ P k v
    back v h =
        let x : OfOne (take i ks ++ k ∷ []) P v = subst (λ xs. OfOne xs P v) more h in
        ⊎_elim (λ j. inl (x.0, j, x.2)) (λ j. ⊎_elim (λ e. inr (subst (λ z. P z v) e x.2)) (λ z. absurd z) j) (In-cases x.0 (take i ks) (k ∷ []) x.1)

-- an empty list has what it gets
pub gets_all : (xs : List ℕ) (P : ℕ → Type 0) → Gets [] xs P → (v : ℕ) → Contains xs v ↔ P v
gets_all xs P h v = (λ i. ⊎_elim (λ x. absurd (let lt = x.1 in omega (arith, lt))) (λ p. p) ((h v).0 i), λ p. (h v).1 (inr p))
