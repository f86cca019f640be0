-- What the parts of the check find.
use Rattle.std.specs.Prelude.{◌≡◌, ◌≢◌, ℕ, [], Some, IsTrue}
use Rattle.pliron_core.specs.Tree.{Tree, In, IsInside, operands_of, successors_of, results_of, regions_of, arguments_of, block_parent_of}
use Rattle.pliron_core.specs.Changes.{IsDefinedInside}
use Rattle.pliron_core.specs.Reads.{has_ssa}
use Rattle.pliron_laws.specs.Datum.{Meaning}
use Rattle.pliron_laws.specs.declared.fault.OptError.TheVariants.{Memory}
use Rattle.pliron_laws.specs.Linked.{IsAdmitted}
use Rattle.pliron_laws.specs.EdgeChecks.{HasOwnUsers, EndsBlockIf}
use Rattle.pliron_pass_fit.specs.declared.violation.CheckStop.{CheckStop}
use Rattle.pliron_pass_fit.specs.declared.violation.CheckStop.TheVariants.{Found, Fault}
use Rattle.pliron_pass_fit.specs.Violation.{IsViolation, ForwardsAt, EndsIfTerminator}

-- a check ends early at what is wrong, or for allocation failure
abbrev pub IsStop : Meaning → Tree → ℕ → CheckStop → Type 0
IsStop m t root (Found violation) = IsViolation m t root violation
IsStop m t root (Fault e) = e ≡ Memory

-- only what is inside the root uses the value
abbrev pub IsUsedInside : Tree → (root v : ℕ) → Type 0
IsUsedInside t root v = (user : ℕ) → In v (operands_of t user) → IsInside t root user

-- edges to the block come from its region, and its arguments are used inside the root
pub record IsFitBlock (t : Tree) (root block : ℕ) : Type 0 where
  pub users : HasOwnUsers t block
  pub arguments : (v : ℕ) → In v (arguments_of t block) → IsUsedInside t root v

-- the region has dominance, and its blocks are fit
pub record IsFitRegion (t : Tree) (root region : ℕ) : Type 0 where
  pub dominance : IsTrue (has_ssa t region)
  pub blocks : (b : ℕ) → block_parent_of t b ≡ Some region → IsFitBlock t root b

-- the operation, which is the root or is inside it, is admitted, and its regions are fit
pub record IsFitHolder (m : Meaning) (t : Tree) (root op : ℕ) : Type 0 where
  pub admitted : IsAdmitted m t op
  pub regions : (r : ℕ) → In r (regions_of t op) → IsFitRegion t root r

-- what else is asked of an operation inside the root, but for dominance
pub record IsFitInside (m : Meaning) (t : Tree) (root op : ℕ) : Type 0 where
  pub ends : EndsBlockIf t op
  pub operands : (v : ℕ) → In v (operands_of t op) → IsDefinedInside t root v
  pub forwards : (i : ℕ) → ForwardsAt m t op i
  pub terminator : EndsIfTerminator m t op
  pub unused : (v user : ℕ) → successors_of t op ≢ [] → In v (results_of t op) → In v (operands_of t user) → ⊥
  pub results : (v : ℕ) → In v (results_of t op) → IsUsedInside t root v

-- both
pub record IsSoundAt (m : Meaning) (t : Tree) (root op : ℕ) : Type 0 where
  pub holder : IsFitHolder m t root op
  pub inside : op ≢ root → IsFitInside m t root op
