-- What holds of each tree that a context has.
use Rattle.std.specs.Prelude.{◌≡◌, ◌<◌, ◌^◌, ℕ, [], length, Some, None, slice_get}
use Rattle.pliron_core.specs.declared.context.Def.TheVariants.{Result, Argument}
use Rattle.pliron_core.specs.Lists.{In, AreOwned}
use Rattle.pliron_core.specs.Rising.{IsRising}
use Rattle.pliron_core.specs.Uses.{AreAgreed}
use Rattle.pliron_core.specs.Tree.{Tree, View, IsLive, IsBlock, IsRegion, IsDefined, IsRooted, no_entry, row_of, head_of, results_of, regions_of, operands_of, successors_of, parent_of, body_of, arguments_of, block_parent_of, layout_of, slot_of, definition_of, parent_operation_of}

-- the tables have an entry for each handle
pub record HaveSameKeys (t : Tree) : Type 0 where
  pub operands : length t.operands ≡ length t.operations
  pub successors : length t.successors ≡ length t.operations
  pub parents : length t.parents ≡ length t.operations
  pub arguments : length t.arguments ≡ length t.bodies
  pub block_parents : length t.block_parents ≡ length t.bodies
  pub slots : length t.slots ≡ length t.layouts

-- the handles of each kind that were ever given out are fewer than 2 ^ 64 (the limit of a context is key_limit)
pub record HaveFewKeys (t : Tree) : Type 0 where
  pub operations : length t.operations < 2 ^ 64
  pub blocks : length t.bodies < 2 ^ 64
  pub regions : length t.layouts < 2 ^ 64
  pub values : length t.definitions < 2 ^ 64

-- what is named is live, and names back
pub record IsJoined (t : Tree) : Type 0 where
  -- what is in a block is live, and so are the block and its region
  pub all_in_place : (x b : ℕ) → parent_of t x ≡ Some b → IsLive t x × IsBlock t b
  pub placed : (b r : ℕ) → block_parent_of t b ≡ Some r → IsRegion t r
  -- a region has one place, a value one definition
  pub regions : (k i r : ℕ) → slice_get (regions_of t k) i ≡ Some r → slot_of t r ≡ Some (record { op = k; index = i })
  pub results : (k i v : ℕ) → slice_get (results_of t k) i ≡ Some v → definition_of t v ≡ Some (Result k i)
  pub arguments : (b i v : ℕ) → slice_get (arguments_of t b) i ≡ Some v → definition_of t v ≡ Some (Argument b i)
  -- what is used is live
  pub operands : (k v : ℕ) → In v (operands_of t k) → IsDefined t v
  pub successors : (k b : ℕ) → In b (successors_of t k) → IsBlock t b
  -- the blocks of a region are in the order in which they were created
  pub ordered : (r : ℕ) → IsRising (layout_of t r)
  -- what was erased names nothing
  pub erased : (k : ℕ) → head_of t k ≡ None → (operands_of t k ≡ []) × (successors_of t k ≡ []) × (row_of t k ≡ no_entry)
  pub unplaced : (b : ℕ) → block_parent_of t b ≡ None → (arguments_of t b ≡ []) × (body_of t b ≡ [])
  -- every chain of parent operations ends
  pub rooted : IsRooted (parent_operation_of t)

pub record IsTree (t : Tree) : Type 0 where
  pub keys : HaveSameKeys t
  pub joined : IsJoined t
  pub bodies : AreOwned t.parents t.bodies
  pub layouts : AreOwned t.block_parents t.layouts

-- each operand and each successor is a use that is listed once, and no other use is listed
pub record HaveUses (v : View) : Type 0 where
  pub values : length v.value_uses ≡ length v.tree.definitions
  pub blocks : length v.block_uses ≡ length v.tree.bodies
  pub value_uses : AreAgreed v.tree.operands v.value_uses
  pub block_uses : AreAgreed v.tree.successors v.block_uses

-- the part of this that the tables themselves do not keep
pub record IsWellFormed (v : View) : Type 0 where
  pub keys : HaveSameKeys v.tree
  pub joined : IsJoined v.tree
  pub value_uses : length v.value_uses ≡ length v.tree.definitions
  pub block_uses : length v.block_uses ≡ length v.tree.bodies
