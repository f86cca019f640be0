-- Why an operation is not fit to run.
use Rattle.std.specs.Prelude.{◌≡◌, ◌≢◌, ◌⊎◌, ℕ, [], Some, None, length, slice_get, IsTrue}
use Rattle.pliron_core.specs.Tree.{Tree, In, IsInside, IsWithin, HoldsBlock, head_of, operands_of, successors_of, results_of, regions_of, parent_of, body_of, arguments_of, last_of}
use Rattle.pliron_core.specs.Changes.{IsDefinedInside}
use Rattle.pliron_core.specs.Reads.{has_ssa}
use Rattle.pliron_laws.specs.Datum.{Head, Meaning}
use Rattle.pliron_laws.specs.Tree.{Operation, op_at, shape_of}
use Rattle.pliron_laws.specs.Answers.{HeadPasses}
use Rattle.pliron_laws.specs.Root.{IsDominated}
use Rattle.pliron_laws.specs.Linked.{IsAdmitted, EndsBlock}
use Rattle.pliron_pass_fit.specs.declared.violation.Violation.{Violation}
use Rattle.pliron_pass_fit.specs.declared.violation.Violation.TheVariants.{NotRoot, HasSuccessors, NotAdmitted, EdgeNotLast, ForeignValue, NoDominance, UnequalEdge, TerminatorNotLast, ResultUsed, UsedOutside, NotDominated}

-- each edge of a branch forwards as many values as its target has arguments, at this index
abbrev pub ForwardsAt : Meaning → Tree → (k i : ℕ) → Type 0
ForwardsAt m t k i = (b : ℕ) (o : Operation) → op_at t k ≡ Some o → IsTrue (m.is_branch o.head) → slice_get o.successors i ≡ Some b → length (m.forwarded (shape_of m t o) i) ≡ length (arguments_of t b)

-- a terminator is the last of its block
abbrev pub EndsIfTerminator : Meaning → Tree → ℕ → Type 0
EndsIfTerminator m t k = (b : ℕ) (h : Head) → head_of t k ≡ Some h → IsTrue (m.is_terminator h) → parent_of t k ≡ Some b → last_of None (body_of t b) ≡ Some k

-- the operand of the operation at this index, defined inside the root, meets the test
abbrev pub SomeOperand : Tree → (k i : ℕ) → (ℕ → Type 0) → Type 0
SomeOperand t k i P = (v : ℕ) × (slice_get (operands_of t k) i ≡ Some v) × P v

-- what is wrong is so at its place
abbrev pub IsViolation : Meaning → Tree → ℕ → Violation → Type 0
IsViolation m t root NotRoot = HeadPasses m.may_be_root t root → ⊥
IsViolation m t root HasSuccessors = successors_of t root ≢ []
IsViolation m t root (NotAdmitted k) = IsWithin t root k × (IsAdmitted m t k → ⊥)
IsViolation m t root (EdgeNotLast k) = (s : ℕ) × In s (successors_of t k) × (IsInside t root k ⊎ HoldsBlock t root s) × (EndsBlock t k → ⊥)
IsViolation m t root (ForeignValue k i) = IsInside t root k × SomeOperand t k i (λ v. IsDefinedInside t root v → ⊥)
IsViolation m t root (NoDominance r) = (k : ℕ) × IsWithin t root k × In r (regions_of t k) × (IsTrue (has_ssa t r) → ⊥)
IsViolation m t root (UnequalEdge k i) = IsInside t root k × (ForwardsAt m t k i → ⊥)
IsViolation m t root (TerminatorNotLast k) = IsInside t root k × (EndsIfTerminator m t k → ⊥)
IsViolation m t root (ResultUsed k i) = IsInside t root k × (successors_of t k ≢ []) × ((v user : ℕ) × (slice_get (results_of t k) i ≡ Some v) × In v (operands_of t user))
IsViolation m t root (UsedOutside k i) = (IsInside t root k → ⊥) × SomeOperand t k i (λ v. IsDefinedInside t root v)
IsViolation m t root (NotDominated k i) = IsInside t root k × SomeOperand t k i (λ v. IsDefinedInside t root v × (IsDominated t k v → ⊥))
