-- Laws of the words on changes.
use Rattle.std.specs.Prelude.{◌≡◌, ◌↔◌, ℕ, length, Some}
use Rattle.pliron_core.specs.declared.attrs.Head.{Head}
use Rattle.pliron_core.specs.declared.context.Def.{Def}
use Rattle.pliron_core.specs.declared.rewriter.OpInsertionPoint.{OpInsertionPoint}
use Rattle.pliron_core.specs.Tree.{Tree, IsLive, IsBlock, IsRegion, IsDefined, IsInside, IsWithin, HoldsBlock, parent_of, slot_of, definition_of, region_parent_of, block_parent_operation_of, parent_operation_of}
use Rattle.pliron_core.specs.Invariant.{IsTree}
use Rattle.pliron_core.specs.Writes.{after_creating}
use Rattle.pliron_core.specs.Insertion.{IsPointFor}
use Rattle.pliron_core.specs.Erased.{IsSelfContained, IsSelfContainedBlock, IsInOperation, after_erasing}
use Rattle.pliron_core.specs.Reads.{next_of, prev_of, next_block_of, prev_block_of, has_ssa, IsDefinitionLive}
use Rattle.pliron_core.specs.Edges.{succs_of, preds_of}
use Rattle.pliron_core.specs.Walks.{children, contents, preorder}
use Rattle.pliron_core.specs.Changes.{IsSameTree, HoldsRegion, IsDefinedInside, IsInsideChange}

-- the same is live in both trees, at the same place and defined by the same
pub record ReadAlike (t u : Tree) : Type 0 where
  pub operations : (x : ℕ) → IsLive t x ↔ IsLive u x
  pub blocks : (b : ℕ) → IsBlock t b ↔ IsBlock u b
  pub regions : (r : ℕ) → IsRegion t r ↔ IsRegion u r
  pub values : (v : ℕ) → IsDefined t v ↔ IsDefined u v
  pub slots : (r : ℕ) → IsRegion t r → slot_of u r ≡ slot_of t r
  pub definitions : (v : ℕ) → IsDefined t v → definition_of u v ≡ definition_of t v
  pub region_holders : (r : ℕ) → IsRegion t r → region_parent_of u r ≡ region_parent_of t r
  pub block_holders : (b : ℕ) → block_parent_operation_of u b ≡ block_parent_operation_of t b
  pub holders : (x : ℕ) → parent_operation_of u x ≡ parent_operation_of t x
  pub inside : (op x : ℕ) → IsInside t op x ↔ IsInside u op x
  pub within : (op x : ℕ) → IsWithin t op x ↔ IsWithin u op x
  pub holds : (op b : ℕ) → HoldsBlock t op b ↔ HoldsBlock u op b
  pub holds_region : (op r : ℕ) → IsRegion t r → HoldsRegion t op r ↔ HoldsRegion u op r
  pub made_inside : (op v : ℕ) → IsDefined t v → IsDefinedInside t op v ↔ IsDefinedInside u op v

-- neighbours, edges and contents are the same, in the same order
pub record AreReadAlike (t u : Tree) : Type 0 where
  pub next : (op : ℕ) → next_of u op ≡ next_of t op
  pub prev : (op : ℕ) → prev_of u op ≡ prev_of t op
  pub next_block : (b : ℕ) → next_block_of u b ≡ next_block_of t b
  pub prev_block : (b : ℕ) → prev_block_of u b ≡ prev_block_of t b
  pub ssa : (r : ℕ) → IsRegion t r → has_ssa u r ≡ has_ssa t r
  pub makers : (d : Def) → IsDefinitionLive t d ↔ IsDefinitionLive u d
  pub succs : (b : ℕ) → succs_of u b ≡ succs_of t b
  pub preds : (b : ℕ) → preds_of u b ≡ preds_of t b
  pub children : (op : ℕ) → children u op ≡ children t op
  pub contents : (op : ℕ) → contents u op ≡ contents t op
  pub preorder : (op : ℕ) → preorder u op ≡ preorder t op

-- what inserting and erasing ask holds of both trees, or of neither
pub record AllowAlike (t u : Tree) : Type 0 where
  pub points : (point : OpInsertionPoint) (op : ℕ) → IsPointFor t point op ↔ IsPointFor u point op
  pub in_block : (b x : ℕ) → IsInOperation t b x ↔ IsInOperation u b x
  pub contained : (op : ℕ) → IsSelfContained t op ↔ IsSelfContained u op
  pub contained_block : (b : ℕ) → IsSelfContainedBlock t b ↔ IsSelfContainedBlock u b

pub record SameTreeLaws : Type 0 where
  pub reflexive : (t : Tree) → IsSameTree t t
  pub symmetric : (t u : Tree) → IsSameTree t u → IsSameTree u t
  pub transitive : (t u v : Tree) → IsSameTree t u → IsSameTree u v → IsSameTree t v
  pub alike : (t u : Tree) → IsTree t → IsTree u → IsSameTree t u → ReadAlike t u
  pub read : (t u : Tree) → IsTree t → IsTree u → IsSameTree t u → AreReadAlike t u
  pub allow : (t u : Tree) → IsTree t → IsTree u → IsSameTree t u → AllowAlike t u
  -- what is created and erased again leaves only an erased handle
  pub undone : (t : Tree) (head : Head) (results regions : ℕ) → IsTree t → IsSameTree t (after_erasing (after_creating t head results regions) (length t.operations))

pub record InsideChangeLaws : Type 0 where
  pub reflexive : (t : Tree) (op : ℕ) → IsInsideChange t t op
  pub transitive : (t u v : Tree) (op : ℕ) → IsInsideChange t u op → IsInsideChange u v op → IsInsideChange t v op
  pub same : (t u : Tree) (op : ℕ) → IsTree t → IsTree u → IsSameTree t u → IsInsideChange t u op
  -- it grows with op
  pub wider : (t u : Tree) (op b : ℕ) → IsTree t → IsInside t op b → IsInsideChange t u b → IsInsideChange t u op
  -- what is beside b keeps its place
  pub beside : (t u : Tree) (op b : ℕ) → IsTree t → parent_operation_of t b ≡ Some op → IsInsideChange t u b → (x : ℕ) → parent_operation_of t x ≡ Some op → IsLive u x × (parent_operation_of u x ≡ Some op) × (parent_of u x ≡ parent_of t x)
