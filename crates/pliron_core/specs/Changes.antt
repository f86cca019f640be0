-- What a change of a tree leaves alone.
use Rattle.std.specs.Prelude.{◌≡◌, ℕ, length, slice_get, Option, Some, None}
use Rattle.pliron_core.specs.declared.context.Def.{Def}
use Rattle.pliron_core.specs.declared.context.Def.TheVariants.{Result, Argument}
use Rattle.pliron_core.specs.Tree.{Tree, IsLive, IsBlock, IsRegion, IsDefined, IsInside, IsWithin, HoldsBlock, row_of, operands_of, successors_of, parent_of, body_of, arguments_of, block_parent_of, layout_of, slot_of, region_parent_of, definition_of}

-- the same tree but for erased handles: what is live in the one is live in the other with the same entry, and
-- nothing else is live (an erased handle has the entry of one that was never given out)
pub record IsSameTree (t u : Tree) : Type 0 where
  pub operations : (k : ℕ) → row_of u k ≡ row_of t k
  pub operands : (k : ℕ) → operands_of u k ≡ operands_of t k
  pub successors : (k : ℕ) → successors_of u k ≡ successors_of t k
  pub parents : (k : ℕ) → parent_of u k ≡ parent_of t k
  pub bodies : (b : ℕ) → body_of u b ≡ body_of t b
  pub arguments : (b : ℕ) → arguments_of u b ≡ arguments_of t b
  pub block_parents : (b : ℕ) → block_parent_of u b ≡ block_parent_of t b
  pub layouts : (r : ℕ) → layout_of u r ≡ layout_of t r

-- op holds the region, at any depth
abbrev pub HoldsRegion : Tree → ℕ → ℕ → Type 0
HoldsRegion t op r = (k : ℕ) × (region_parent_of t r ≡ Some k) × IsWithin t op k

-- the value is defined inside op, at any depth; the results of op itself are not
abbrev pub IsDefiningOperationInside : Tree → ℕ → Option Def → Type 0
IsDefiningOperationInside t op None = ⊥
IsDefiningOperationInside t op (Some (Result k i)) = IsInside t op k
IsDefiningOperationInside t op (Some (Argument block i)) = HoldsBlock t op block

abbrev pub IsDefinedInside : Tree → ℕ → ℕ → Type 0
IsDefinedInside t op v = IsDefiningOperationInside t op (definition_of t v)

-- it is live, and not inside op; op itself is so too
abbrev pub IsOutside : Tree → ℕ → ℕ → Type 0
IsOutside t op x = IsLive t x × (IsInside t op x → ⊥)

abbrev pub IsBlockOutside : Tree → ℕ → ℕ → Type 0
IsBlockOutside t op block = IsBlock t block × (HoldsBlock t op block → ⊥)

abbrev pub IsRegionOutside : Tree → ℕ → ℕ → Type 0
IsRegionOutside t op r = IsRegion t r × (HoldsRegion t op r → ⊥)

abbrev pub IsValueOutside : Tree → ℕ → ℕ → Type 0
IsValueOutside t op v = IsDefined t v × (IsDefinedInside t op v → ⊥)

-- the operation is as before, but for operands that named a value defined inside op
pub record IsKeptOperation (t u : Tree) (op x : ℕ) : Type 0 where
  pub row : row_of u x ≡ row_of t x
  pub successors : successors_of u x ≡ successors_of t x
  pub parent : parent_of u x ≡ parent_of t x
  pub count : length (operands_of u x) ≡ length (operands_of t x)
  pub operands : (i v : ℕ) → slice_get (operands_of t x) i ≡ Some v → IsValueOutside t op v → slice_get (operands_of u x) i ≡ Some v

-- the block, the region is as before
pub record IsKeptBlock (t u : Tree) (block : ℕ) : Type 0 where
  pub arguments : arguments_of u block ≡ arguments_of t block
  pub body : body_of u block ≡ body_of t block
  pub parent : block_parent_of u block ≡ block_parent_of t block

pub record IsKeptRegion (t u : Tree) (r : ℕ) : Type 0 where
  pub layout : layout_of u r ≡ layout_of t r
  pub slot : slot_of u r ≡ slot_of t r

-- only what is inside op changes: what is outside stays outside and is as before, but for operands that named a
-- value defined inside, and nothing new is live there
pub record IsInsideChange (t u : Tree) (op : ℕ) : Type 0 where
  pub operations : (x : ℕ) → IsOutside t op x → IsOutside u op x × IsKeptOperation t u op x
  pub blocks : (b : ℕ) → IsBlockOutside t op b → IsBlockOutside u op b × IsKeptBlock t u b
  pub regions : (r : ℕ) → IsRegionOutside t op r → IsRegionOutside u op r × IsKeptRegion t u r
  pub values : (v : ℕ) → IsValueOutside t op v → IsValueOutside u op v × (definition_of u v ≡ definition_of t v)
  pub no_new_operation : (x : ℕ) → IsOutside u op x → IsOutside t op x
  pub no_new_block : (b : ℕ) → IsBlockOutside u op b → IsBlockOutside t op b
