-- Values that are passed in turn.
use Rattle.std.proofs.Common.{◌≡◌, ℕ, zero, suc, ◌+◌, ◌≤◌, List, [], ◌∷◌, ◌++◌, length, take, Some, slice_get, refl, sym, ap, ◌∙◌, subst, arith}
use Rattle.pliron_core.specs.Tree.{Tree}
use Rattle.pliron_core.proofs.HoldingLemmas.{some_is, not_none}
use Rattle.pliron_laws.specs.Datum.{Head, Shape, Meaning}
use Rattle.pliron_rewrite_loops.specs.Passing.{IsValuePassed, AreValuesPassed}

take_next : (xs : List ℕ) (i x : ℕ) → slice_get xs i ≡ Some x → take (suc i) xs ≡ take i xs ++ x ∷ []
take_next [] i x e = absurd (not_none e)
take_next (y ∷ ys) zero x e = ap (λ z. z ∷ []) (some_is e)
take_next (y ∷ ys) (suc i) x e = ap (λ l. y ∷ l) (take_next ys i x e)

pub take_past : (xs : List ℕ) (i : ℕ) → length xs ≤ i → take i xs ≡ xs
take_past [] zero h = refl
take_past [] (suc i) h = refl
take_past (x ∷ xs) zero h = absurd (omega (arith, h))
take_past (x ∷ xs) (suc i) h = ap (λ l. x ∷ l) (take_past xs i (omega (arith, h)))

module _ (m : Meaning) (shortened : Shape → ℕ → ℕ → Head) (block : ℕ) (users : List ℕ) where
  passed_then : (xs : List ℕ) (v argument : ℕ) (t s u : Tree) → AreValuesPassed m shortened t s block xs users → IsValuePassed m shortened s u block v argument users → AreValuesPassed m shortened t u block (xs ++ v ∷ []) users
  passed_then [] v argument t s u c p = (u, argument, subst (λ z. IsValuePassed m shortened z u block v argument users) c p, refl)
  passed_then (x ∷ xs) v argument t s u c p = (c.0, c.1, c.2, passed_then xs v argument c.0 s u c.3 p)

  pub one_more_passed : (values : List ℕ) (i v argument : ℕ) (t s u : Tree) → slice_get values i ≡ Some v → AreValuesPassed m shortened t s block (take i values) users → IsValuePassed m shortened s u block v argument users → AreValuesPassed m shortened t u block (take (i + 1) values) users
  one_more_passed values i v argument t s u at c p =
      let n : suc i ≡ i + 1 = omega arith in
      subst (λ z. AreValuesPassed m shortened t u block z users) (sym (take_next values i v at) ∙ ap (λ z. take z values) n) (passed_then (take i values) v argument t s u c p)
