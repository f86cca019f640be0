-- Fit to run, but for dominance of uses.
use Rattle.std.specs.Prelude.{◌≡◌, ◌≢◌, ℕ, [], IsTrue}
use Rattle.pliron_core.specs.Tree.{Tree, In, IsInside, IsWithin, operands_of, successors_of, results_of, regions_of}
use Rattle.pliron_core.specs.Changes.{IsDefinedInside}
use Rattle.pliron_core.specs.Reads.{has_ssa}
use Rattle.pliron_laws.specs.Datum.{Meaning}
use Rattle.pliron_laws.specs.Answers.{HeadPasses}
use Rattle.pliron_laws.specs.Linked.{IsWellLinked}
use Rattle.pliron_pass_fit.specs.Violation.{ForwardsAt, EndsIfTerminator}

-- all that is asked of a root that is to run, but that definitions dominate uses
pub record IsPlainlyFit (m : Meaning) (t : Tree) (root : ℕ) : Type 0 where
  pub chosen : HeadPasses m.may_be_root t root
  pub linked : IsWellLinked m t root
  -- the root has no successors; what is inside it uses only values defined inside it, and nothing else uses them
  pub no_successors : successors_of t root ≡ []
  pub own_values : (k v : ℕ) → IsInside t root k → In v (operands_of t k) → IsDefinedInside t root v
  pub own_users : (k v : ℕ) → In v (operands_of t k) → IsDefinedInside t root v → IsInside t root k
  -- the regions of the root, and of the operations inside it, have SSA dominance
  pub dominance : (k r : ℕ) → IsWithin t root k → In r (regions_of t k) → IsTrue (has_ssa t r)
  -- edges forward what their targets take, terminators are last, and results of what has successors are unused
  pub forwards : (k i : ℕ) → IsInside t root k → ForwardsAt m t k i
  pub terminators : (k : ℕ) → IsInside t root k → EndsIfTerminator m t k
  pub unused : (k v user : ℕ) → IsInside t root k → successors_of t k ≢ [] → In v (results_of t k) → In v (operands_of t user) → ⊥
