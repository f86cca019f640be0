-- What is left: no redundant operation, where definitions come before uses.
use Rattle.std.specs.Prelude.{◌≡◌, ◌↔◌, ℕ, Bool, Option}
use Rattle.pliron_core.specs.declared.attrs.IRStatus.{IRStatus}
use Rattle.pliron_core.specs.declared.attrs.IRStatus.TheVariants.{Changed}
use Rattle.pliron_core.specs.Tree.{Tree, In, operands_of, results_of}
use Rattle.pliron_laws.specs.Datum.{Head}
use Rattle.pliron_rewrite_equals.specs.OperationDominance.{DominatesOperation}
use Rattle.pliron_graph_order.specs.Seen.{IsSeen}
use Rattle.pliron_opt_cse.specs.Merges.{IsPair}

-- some operation that is seen does what one before it did
abbrev pub HasRedundancy : (Head → Option Bool) → Tree → ℕ → Type 0
HasRedundancy side_effects t root = (a b : ℕ) × IsPair side_effects t root a b

-- of operations that are seen, one that defines an operand of another dominates it
abbrev pub UsesAreBehind : Tree → ℕ → Type 0
UsesAreBehind t root = (k v user : ℕ) → IsSeen t root k → IsSeen t root user → In v (results_of t k) → In v (operands_of t user) → DominatesOperation t k user

-- where uses are behind, no redundant operation is left
abbrev pub LeavesNoRedundancy : (Head → Option Bool) → (t t' : Tree) → ℕ → Type 0
LeavesNoRedundancy side_effects t t' root = UsesAreBehind t root → HasRedundancy side_effects t' root → ⊥

-- `Changed` exactly if there was a redundant operation
abbrev pub ReportsEquivalent : (Head → Option Bool) → Tree → ℕ → IRStatus → Type 0
ReportsEquivalent side_effects t root status = (status ≡ Changed) ↔ HasRedundancy side_effects t root
