-- What is live while a text is built in a tree.
use Rattle.std.specs.Prelude.{◌≡◌, ◌⊎◌, ℕ, ◌<◌, ◌≤◌, List, length, Some, None, slice_get}
use Rattle.pliron_core.specs.declared.attrs.Head.{Head}
use Rattle.pliron_core.specs.Tree.{Tree, In, IsLive, IsBlock, IsRegion, IsDefined, parent_of, parent_operation_of, block_parent_operation_of, region_parent_of}
use Rattle.pliron_core.specs.Invariant.{IsTree}
use Rattle.pliron_core.specs.Writes.{after_creating, put_last}
use Rattle.pliron_text.specs.declared.build.BuiltTree.{BuiltTree}
use Rattle.pliron_text.specs.declared.syntax.MadeCounts.{MadeCounts}
use Rattle.pliron_text.specs.declared.syntax.Syntax.{Syntax}

-- the table still has each entry
abbrev pub KeepsEntries : {A : Type 0} → List A → List A → Type 0
KeepsEntries {A} xs ys = (k : ℕ) (x : A) → slice_get xs k ≡ Some x → slice_get ys k ≡ Some x

-- what is live in t is live in u, at the same place and defined by the same
pub record IsExtended (t u : Tree) : Type 0 where
  pub operations : KeepsEntries t.operations u.operations
  pub parents : KeepsEntries t.parents u.parents
  pub arguments : KeepsEntries t.arguments u.arguments
  pub block_parents : KeepsEntries t.block_parents u.block_parents
  pub slots : KeepsEntries t.slots u.slots
  pub definitions : KeepsEntries t.definitions u.definitions

-- all that t has is in u as it was
pub record IsKept (t u : Tree) : Type 0 where
  pub more : IsExtended t u
  pub operands : KeepsEntries t.operands u.operands
  pub successors : KeepsEntries t.successors u.successors
  pub bodies : KeepsEntries t.bodies u.bodies
  pub layouts : KeepsEntries t.layouts u.layouts

-- u is t and a new operation in no block, with what is inside it: each of these operations has a parent operation that
-- is new and older
pub record IsGrown (t u : Tree) (root : ℕ) : Type 0 where
  pub before : IsTree t
  pub kept : IsKept t u
  pub fresh : root ≡ length t.operations
  pub live : IsLive u root
  pub loose : parent_of u root ≡ None
  pub held : (k : ℕ) → IsLive u k → root < k → (h : ℕ) × (parent_operation_of u k ≡ Some h) × (root ≤ h) × (h < k)

abbrev pub All : (ℕ → Type 0) → List ℕ → Type 0
All p xs = (x : ℕ) → In x xs → p x

-- it is new, and so is its parent operation
abbrev pub IsNewBlock : Tree → Tree → ℕ → ℕ → Type 0
IsNewBlock t u root b = (h : ℕ) × (block_parent_operation_of u b ≡ Some h) × (root ≤ h) × (length t.bodies ≤ b)

abbrev pub IsNewRegion : Tree → Tree → ℕ → ℕ → Type 0
IsNewRegion t u root r = (h : ℕ) × (region_parent_of u r ≡ Some h) × (root ≤ h) × (length t.layouts ≤ r)

-- u is t and the new operation with what is built of it so far
pub record IsBuilt (t u : Tree) (root : ℕ) (built : BuiltTree) : Type 0 where
  pub grown : IsGrown t u root
  pub operations : All (λ k. root ≤ k) built.operations.items
  pub blocks : All (IsNewBlock t u root) built.blocks.items
  pub regions : All (IsNewRegion t u root) built.regions.items

-- the building continues from u to v
abbrev pub BuildingContinues : (u : Tree) (built : BuiltTree) (v : Tree) (more : BuiltTree) → Type 0
BuildingContinues u built v more = (t : Tree) (root : ℕ) → IsBuilt t u root built → IsBuilt t v root more

-- so it does of each root that is no later than the operation
abbrev pub BuildingContinuesAt : (op : ℕ) (u : Tree) (built : BuiltTree) (v : Tree) (more : BuiltTree) → Type 0
BuildingContinuesAt op u built v more = (t : Tree) (root : ℕ) → root ≤ op → IsBuilt t u root built → IsBuilt t v root more

-- what is built is live
pub record AreLive (u : Tree) (built : BuiltTree) : Type 0 where
  pub operations : All (IsLive u) built.operations.items
  pub blocks : All (IsBlock u) built.blocks.items
  pub regions : All (IsRegion u) built.regions.items
  pub values : All (IsDefined u) built.values.items

-- so much is built
pub record HasMade (built : BuiltTree) (m : MadeCounts) : Type 0 where
  pub operations : length built.operations.items ≡ m.operations
  pub blocks : length built.blocks.items ≡ m.blocks
  pub regions : length built.regions.items ≡ m.regions
  pub values : length built.values.items ≡ m.values

-- all of the text is built
pub record HasAllMade (s : Syntax) (built : BuiltTree) : Type 0 where
  pub operations : length built.operations.items ≡ length s.operations.items
  pub blocks : length built.blocks.items ≡ length s.blocks.items
  pub values : length built.values.items ≡ s.values

-- what the list has more is among these
abbrev pub AddsOnly : (xs ys new : List ℕ) → Type 0
AddsOnly xs ys new = (x : ℕ) → In x ys → In x xs ⊎ In x new

-- the tree with a new operation at the end of the block
abbrev pub after_appending : Tree → Head → (results regions block : ℕ) → Tree
after_appending t head results regions block = put_last (after_creating t head results regions) (length t.operations) block
