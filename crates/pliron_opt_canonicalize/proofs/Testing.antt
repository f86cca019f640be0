-- Whether an operation may fold.
use Rattle.std.proofs.Common.{◌≡◌, ◌≢◌, ◌⊎◌, ◌↔◌, ◌<◌, ◌≤◌, ◌+◌, ℕ, Bool, true, false, not, true≢false, List, [], ◌∷◌, length, Some, IsTrue, ⊎_elim, slice_get, refl, sym, ap, ◌∙◌, subst, arith}
use Rattle.std.proofs.lemmas.Option.{slice_get_within}
use Rattle.pliron_core.specs.Tree.{Tree, In, operands_of, results_of, successors_of}
use Rattle.pliron_core.proofs.HoldingLemmas.{slice_in, some_is}
use Rattle.pliron_rewrite_operands.specs.Answered.{MayFold, UsesItself}

no_entries : (xs : List ℕ) → length xs ≡ 0 → xs ≡ []
no_entries [] e = refl
no_entries (x ∷ xs) e = grind (arith, e)

module _ (t : Tree) (k : ℕ) where
  pub without_operands : length (operands_of t k) ≡ 0 → MayFold t k → ⊥
  without_operands e m = m.operands (no_entries (operands_of t k) e)

  pub with_successors : length (successors_of t k) ≢ 0 → MayFold t k → ⊥
  with_successors ne m = ne (ap length m.successors)

  pub may_if : length (operands_of t k) ≢ 0 → length (successors_of t k) ≡ 0 → (b : Bool) → IsTrue b ↔ UsesItself t k → IsTrue (not b) ↔ MayFold t k
  may_if ne e true itself = (λ never. absurd (true≢false (sym never)), λ m. absurd (m.apart (itself.0 refl)))
  may_if ne e false itself = (λ yes. record { operands = λ f. ne (ap length f); successors = no_entries (successors_of t k) e; apart = λ u. true≢false (sym (itself.1 u)) }, λ m. refl)

  -- none of the first operands is a result
  pub none_more : (i v : ℕ) → ((p w : ℕ) → p < i → slice_get (operands_of t k) p ≡ Some w → In w (results_of t k) → ⊥) → slice_get (operands_of t k) i ≡ Some v → (In v (results_of t k) → ⊥) → (p w : ℕ) → p < i + 1 → slice_get (operands_of t k) p ≡ Some w → In w (results_of t k) → ⊥
  none_more i v h at apart p w lt there own = ⊎_elim
      (λ e. apart (subst (λ z. In z (results_of t k)) (some_is (sym there ∙ ap (slice_get (operands_of t k)) e ∙ at)) own))
      (λ ne. h p w (omega (arith, lt, ne)) there own)
      (cases p i)
    where
      cases : (x y : ℕ) → (x ≡ y) ⊎ (x ≢ y)
      cases x y = grind arith

  pub none_itself : (n : ℕ) → length (operands_of t k) ≤ n → ((p w : ℕ) → p < n → slice_get (operands_of t k) p ≡ Some w → In w (results_of t k) → ⊥) → UsesItself t k → ⊥
  none_itself n le h u =
      let x = slice_in (operands_of t k) u.0 u.2 in
      let lt = slice_get_within (operands_of t k) x.0 u.0 x.1 in
      h x.0 u.0 (omega (arith, le, lt)) x.1 u.1
