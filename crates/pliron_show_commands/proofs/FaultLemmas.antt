-- One more that is found wrong with a text.
use Rattle.std.proofs.Common.{◌≡◌, ℕ, zero, suc, List, [], ◌∷◌, ◌++◌, Some, slice_get, subst, sym}
use Rattle.pliron_core.specs.Tree.{Tree}
use Rattle.pliron_laws.specs.Datum.{Meaning}
use Rattle.pliron_pass_fit.specs.declared.violation.Violation.{Violation}
use Rattle.pliron_pass_fit.specs.Found.{AreViolations}
use Rattle.pliron_pass_fit.specs.Violation.{IsViolation}
use Rattle.pliron_show_commands.specs.declared.one_by_one.PartViolation.{PartViolation}
use Rattle.pliron_show_commands.specs.Faults.{AreFaults}

module _ (m : Meaning) (t : Tree) where
  -- each of those that are found is wrong
  pub at_place : (root : ℕ) (found : List Violation) (i : ℕ) (violation : Violation) → AreViolations m t root found → slice_get found i ≡ Some violation → IsViolation m t root violation
  at_place root [] i violation all is = absurd (cc)
  at_place root (first ∷ others) zero violation all is = let e : first ≡ violation = cc in subst (IsViolation m t root) e all.0
  at_place root (first ∷ others) (suc i) violation all is = at_place root others i violation all.1 is

  put_last : (found : List PartViolation) (more : PartViolation) → AreFaults m t found → IsViolation m t more.part more.violation → AreFaults m t (found ++ more ∷ [])
  put_last [] more all wrong = (wrong, tt)
  put_last (first ∷ others) more all wrong = (all.0, put_last others more all.1 wrong)

  -- a list with one more at its end
  pub one_more : (found pushed : List PartViolation) (more : PartViolation) → pushed ≡ found ++ more ∷ [] → AreFaults m t found → IsViolation m t more.part more.violation → AreFaults m t pushed
  one_more found pushed more e all wrong = subst (AreFaults m t) (sym e) (put_last found more all wrong)
