-- What a contract sees of a context.
pub use Rattle.pliron_core.specs.Lists.{In, IsDistinct, without, put_before, next_in, prev_in, first_of, last_of}
pub use Rattle.pliron_core.specs.Rising.{IsRising}
use Rattle.std.specs.Prelude.{zero, suc, ◌≡◌, ℕ, List, [], Option, Some, None, IsSome, slice_index_or, slice_get, ◌⊎◌}
use Rattle.pliron_core.specs.declared.attrs.Head.{Head}
use Rattle.pliron_core.specs.declared.context.Def.{Def}
use Rattle.pliron_core.specs.declared.context.Def.TheVariants.{Result, Argument}
use Rattle.pliron_core.specs.declared.context.RegionSlot.{RegionSlot}
use Rattle.pliron_core.specs.declared.context.OperationEntry.{OperationEntry}
use Rattle.pliron_core.specs.declared.uses.Use.{Use}

-- the tables of a tree: each is a list, and the handle is the index
pub record Tree : Type 0 where
  -- by operation: its own part, which has no head once it is erased; what it uses; the block that has it
  pub operations : List OperationEntry
  pub operands : List (List ℕ)
  pub successors : List (List ℕ)
  pub parents : List (Option ℕ)
  -- by block: its operations and its arguments in order; the region that has it, none once it is erased
  pub bodies : List (List ℕ)
  pub arguments : List (List ℕ)
  pub block_parents : List (Option ℕ)
  -- by region: its blocks in order; its operation, and its index there
  pub layouts : List (List ℕ)
  pub slots : List RegionSlot
  -- by value: its definition
  pub definitions : List Def

-- a tree, and the uses of each value and of each block in any order
pub record View : Type 0 where
  pub tree : Tree
  pub value_uses : List (List Use)
  pub block_uses : List (List Use)

-- what the table has at an erased operation's handle
abbrev pub no_entry : OperationEntry
no_entry = record { head = None; results = []; regions = [] }

-- reading a table: a handle that was never given out reads as an erased one
abbrev pub row_of : Tree → ℕ → OperationEntry
row_of t op = slice_index_or t.operations op no_entry

abbrev pub head_of : Tree → ℕ → Option Head
head_of t op = (row_of t op).head

abbrev pub results_of : Tree → ℕ → List ℕ
results_of t op = (row_of t op).results

abbrev pub regions_of : Tree → ℕ → List ℕ
regions_of t op = (row_of t op).regions

abbrev pub operands_of : Tree → ℕ → List ℕ
operands_of t op = slice_index_or t.operands op []

abbrev pub successors_of : Tree → ℕ → List ℕ
successors_of t op = slice_index_or t.successors op []

abbrev pub parent_of : Tree → ℕ → Option ℕ
parent_of t op = slice_index_or t.parents op None

abbrev pub body_of : Tree → ℕ → List ℕ
body_of t block = slice_index_or t.bodies block []

abbrev pub arguments_of : Tree → ℕ → List ℕ
arguments_of t block = slice_index_or t.arguments block []

abbrev pub block_parent_of : Tree → ℕ → Option ℕ
block_parent_of t block = slice_index_or t.block_parents block None

abbrev pub layout_of : Tree → ℕ → List ℕ
layout_of t region = slice_index_or t.layouts region []

abbrev pub slot_of : Tree → ℕ → Option RegionSlot
slot_of t region = slice_get t.slots region

abbrev pub definition_of : Tree → ℕ → Option Def
definition_of t value = slice_get t.definitions value

abbrev pub uses_of : List (List Use) → ℕ → List Use
uses_of uses key = slice_index_or uses key []

-- what is live: an operation has a head, a block has a region, and what defines a value or a region still lists
-- it
abbrev pub IsLive : Tree → ℕ → Type 0
IsLive t op = IsSome (head_of t op)

abbrev pub IsBlock : Tree → ℕ → Type 0
IsBlock t block = IsSome (block_parent_of t block)

abbrev pub IsListedBy : Tree → ℕ → Option RegionSlot → Type 0
IsListedBy t r None = ⊥
IsListedBy t r (Some slot) = slice_get (regions_of t slot.op) slot.index ≡ Some r

abbrev pub IsRegion : Tree → ℕ → Type 0
IsRegion t r = IsListedBy t r (slot_of t r)

abbrev pub IsMadeBy : Tree → ℕ → Option Def → Type 0
IsMadeBy t v None = ⊥
IsMadeBy t v (Some (Result op i)) = slice_get (results_of t op) i ≡ Some v
IsMadeBy t v (Some (Argument block i)) = slice_get (arguments_of t block) i ≡ Some v

abbrev pub IsDefined : Tree → ℕ → Type 0
IsDefined t v = IsMadeBy t v (definition_of t v)

-- one step up, where there is one
abbrev pub up_from : Option ℕ → (ℕ → Option ℕ) → Option ℕ
up_from None f = None
up_from (Some x) f = f x

abbrev pub op_of_slot : Option RegionSlot → Option ℕ
op_of_slot None = None
op_of_slot (Some slot) = Some slot.op

-- the operation of a region
abbrev pub region_parent_of : Tree → ℕ → Option ℕ
region_parent_of t region = op_of_slot (slot_of t region)

-- the parent operation of a block, and of an operation
abbrev pub block_parent_operation_of : Tree → ℕ → Option ℕ
block_parent_operation_of t block = up_from (block_parent_of t block) (λ r. region_parent_of t r)

abbrev pub parent_operation_of : Tree → ℕ → Option ℕ
parent_operation_of t op = up_from (parent_of t op) (λ b. block_parent_operation_of t b)

-- what is n steps above
abbrev pub climb : (ℕ → Option ℕ) → ℕ → Option ℕ → Option ℕ
climb h zero o = o
climb h (suc n) o = climb h n (up_from o h)

-- every chain of steps up ends
abbrev pub IsRooted : (ℕ → Option ℕ) → Type 0
IsRooted h = (x : ℕ) → (n : ℕ) × (climb h n (Some x) ≡ None)

-- x is inside op, at any depth
pub data IsInside (t : Tree) (op : ℕ) : ℕ → Type 0 where
  Directly : {x : ℕ} → parent_operation_of t x ≡ Some op → IsInside t op x
  Deeper : {x : ℕ} (p : ℕ) → parent_operation_of t x ≡ Some p → IsInside t op p → IsInside t op x

-- x is op or is inside it
abbrev pub IsWithin : Tree → ℕ → ℕ → Type 0
IsWithin t op x = (x ≡ op) ⊎ IsInside t op x

-- op holds the block, at any depth
abbrev pub HoldsBlock : Tree → ℕ → ℕ → Type 0
HoldsBlock t op block = (k : ℕ) × (block_parent_operation_of t block ≡ Some k) × IsWithin t op k

-- the value is defined by op or inside it
abbrev pub IsDefinedWithin : Tree → ℕ → Option Def → Type 0
IsDefinedWithin t op None = ⊥
IsDefinedWithin t op (Some (Result k i)) = IsWithin t op k
IsDefinedWithin t op (Some (Argument block i)) = HoldsBlock t op block
