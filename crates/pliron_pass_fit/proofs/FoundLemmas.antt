-- One more that is found wrong.
use Rattle.std.proofs.Common.{◌≡◌, ℕ, List, [], ◌∷◌, ◌++◌, subst, sym}
use Rattle.pliron_core.specs.Tree.{Tree}
use Rattle.pliron_laws.specs.Datum.{Meaning}
use Rattle.pliron_pass_fit.specs.declared.violation.Violation.{Violation}
use Rattle.pliron_pass_fit.specs.Found.{AreViolations}
use Rattle.pliron_pass_fit.specs.Violation.{IsViolation}

module _ (m : Meaning) (t : Tree) (root : ℕ) where
  put_last : (found : List Violation) (more : Violation) → AreViolations m t root found → IsViolation m t root more → AreViolations m t root (found ++ more ∷ [])
  put_last [] more all wrong = (wrong, tt)
  put_last (violation ∷ others) more all wrong = (all.0, put_last others more all.1 wrong)

  -- a list with one more at its end
  pub one_more : (found pushed : List Violation) (more : Violation) → pushed ≡ found ++ more ∷ [] → AreViolations m t root found → IsViolation m t root more → AreViolations m t root pushed
  one_more found pushed more e all wrong = subst (AreViolations m t root) (sym e) (put_last found more all wrong)
