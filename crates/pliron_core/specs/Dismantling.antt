-- The steps by which an operation is taken apart.
use Rattle.std.specs.Prelude.{◌≡◌, ◌-◌, ℕ, [], length, take, Option, Some, None, slice_set}
use Rattle.pliron_core.specs.declared.context.Def.{Def}
use Rattle.pliron_core.specs.declared.context.Def.TheVariants.{Result, Argument}
use Rattle.pliron_core.specs.declared.context.erase.Inner.{Inner}
use Rattle.pliron_core.specs.declared.context.erase.Inner.TheVariants.{Operation, Block, Region, Nothing}
use Rattle.pliron_core.specs.Lists.{In, last_of}
use Rattle.pliron_core.specs.Tree.{Tree, no_entry, row_of, regions_of, operands_of, successors_of, body_of, layout_of, parent_operation_of, block_parent_operation_of, definition_of, IsLive, IsWithin, IsDefinedWithin, HoldsBlock}
use Rattle.pliron_core.specs.Writes.{taken_out}
use Rattle.pliron_core.specs.Erased.{block_taken_out, IsInOperation, IsBlockWithin, IsDefinedInBlock}

-- the operation is erased
abbrev pub after_dismantling : Tree → ℕ → Tree
after_dismantling t op = record t { operations = slice_set t.operations op no_entry }

-- the operation loses its last region
abbrev pub region_popped : Tree → ℕ → Tree
region_popped t op = record t { operations = slice_set t.operations op (record (row_of t op) { regions = take (length (regions_of t op) - 1) (regions_of t op) }) }

-- the operation's last region
abbrev pub last_region_of : Tree → ℕ → Option ℕ
last_region_of t op = last_of None (regions_of t op)

-- this is last inside op, or nothing is inside
abbrev pub IsLast : Tree → ℕ → Inner → Type 0
IsLast t op (Operation c) = IsLive t c × (parent_operation_of t c ≡ Some op)
IsLast t op (Block b) = (block_parent_operation_of t b ≡ Some op) × (body_of t b ≡ [])
IsLast t op Region = (r : ℕ) × (last_region_of t op ≡ Some r) × (layout_of t r ≡ [])
IsLast t op Nothing = regions_of t op ≡ []

-- the value is a result of op, or an argument of a block that is directly inside it
abbrev pub IsMadeAt : Tree → ℕ → Option Def → Type 0
IsMadeAt t op None = ⊥
IsMadeAt t op (Some (Result k i)) = k ≡ op
IsMadeAt t op (Some (Argument b i)) = block_parent_operation_of t b ≡ Some op

-- nothing names a value or a block of op, and op names nothing
pub record IsUnnamed (t : Tree) (op : ℕ) : Type 0 where
  pub values : (x v : ℕ) → In v (operands_of t x) → IsMadeAt t op (definition_of t v) → ⊥
  pub blocks : (x b : ℕ) → In b (successors_of t x) → block_parent_operation_of t b ≡ Some op → ⊥
  pub operands : operands_of t op ≡ []
  pub successors : successors_of t op ≡ []

-- one step at op, which makes u of t; the next step is at `to`
pub data IsStep (t : Tree) (op : ℕ) (to : Option ℕ) (u : Tree) : Type 0 where
  -- down to an operation that is directly inside it
  Down : (c : ℕ) → to ≡ Some c → IsLive t c → parent_operation_of t c ≡ Some op → u ≡ t → IsStep t op to u
  -- an empty block of its own is erased
  LessBlock : (b : ℕ) → to ≡ Some op → block_parent_operation_of t b ≡ Some op → body_of t b ≡ [] → u ≡ block_taken_out t b → IsStep t op to u
  -- its last region, which is empty, is erased
  LessRegion : (r : ℕ) → to ≡ Some op → last_region_of t op ≡ Some r → layout_of t r ≡ [] → u ≡ region_popped t op → IsStep t op to u
  -- it is erased itself, and its parent operation is next
  Up : to ≡ parent_operation_of t op → regions_of t op ≡ [] → u ≡ after_dismantling (taken_out t op) op → IsStep t op to u

-- what is within op names nothing, and nothing names a value or a block of it
pub record IsUnused (t : Tree) (op : ℕ) : Type 0 where
  pub bare : (k : ℕ) → IsWithin t op k → (operands_of t k ≡ []) × (successors_of t k ≡ [])
  pub values : (x v : ℕ) → In v (operands_of t x) → IsDefinedWithin t op (definition_of t v) → ⊥
  pub blocks : (x b : ℕ) → In b (successors_of t x) → HoldsBlock t op b → ⊥

-- the operation has no operands and no successors
abbrev pub without_names : Tree → ℕ → Tree
without_names t op = record t { operands = slice_set t.operands op []; successors = slice_set t.successors op [] }

-- what is in the block names nothing, and nothing names the block, or a value or a block in it
pub record IsUnusedBlock (t : Tree) (block : ℕ) : Type 0 where
  pub bare : (k : ℕ) → IsInOperation t block k → (operands_of t k ≡ []) × (successors_of t k ≡ [])
  pub values : (x v : ℕ) → In v (operands_of t x) → IsDefinedInBlock t block (definition_of t v) → ⊥
  pub blocks : (x b : ℕ) → In b (successors_of t x) → IsBlockWithin t block b → ⊥
