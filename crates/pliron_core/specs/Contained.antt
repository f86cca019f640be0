-- What is used nowhere outside an operation or a block.
use Rattle.std.specs.Prelude.{ℕ}
use Rattle.pliron_core.specs.declared.context.contained.Scope.{Scope}
use Rattle.pliron_core.specs.declared.context.contained.Scope.TheVariants.{Inside, InBlock}
use Rattle.pliron_core.specs.Lists.{In}
use Rattle.pliron_core.specs.Tree.{Tree, operands_of, successors_of, results_of, regions_of, layout_of, arguments_of, body_of, IsWithin}
use Rattle.pliron_core.specs.Erased.{IsInOperation}

-- x is the operation or is inside it, or it is in the block
abbrev pub IsInScope : Tree → Scope → ℕ → Type 0
IsInScope t (Inside op) x = IsWithin t op x
IsInScope t (InBlock block) x = IsInOperation t block x

-- each operation that uses the value is in the scope
abbrev pub IsValueKept : Tree → Scope → ℕ → Type 0
IsValueKept t scope v = (x : ℕ) → In v (operands_of t x) → IsInScope t scope x

-- each operation that has the block as a successor is in the scope
abbrev pub IsTargetKept : Tree → Scope → ℕ → Type 0
IsTargetKept t scope b = (x : ℕ) → In b (successors_of t x) → IsInScope t scope x

-- the same of the block and of its arguments
pub record IsBlockKept (t : Tree) (scope : Scope) (b : ℕ) : Type 0 where
  pub block : IsTargetKept t scope b
  pub arguments : (v : ℕ) → In v (arguments_of t b) → IsValueKept t scope v

-- of the blocks of a region
abbrev pub IsRegionKept : Tree → Scope → ℕ → Type 0
IsRegionKept t scope r = (b : ℕ) → In b (layout_of t r) → IsBlockKept t scope b

-- of the results of an operation and of the blocks directly in it
pub record IsOperationKept (t : Tree) (scope : Scope) (op : ℕ) : Type 0 where
  pub results : (v : ℕ) → In v (results_of t op) → IsValueKept t scope v
  pub regions : (r : ℕ) → In r (regions_of t op) → IsRegionKept t scope r

-- of an operation and of all that is inside it
abbrev pub IsPreorderKept : Tree → Scope → ℕ → Type 0
IsPreorderKept t scope root = (k : ℕ) → IsWithin t root k → IsOperationKept t scope k

-- of all operations in a block, at any depth
abbrev pub IsBodyKept : Tree → Scope → ℕ → Type 0
IsBodyKept t scope block = (k : ℕ) → In k (body_of t block) → IsPreorderKept t scope k
