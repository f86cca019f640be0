-- Trees without some blocks.
use Rattle.std.specs.Prelude.{◌≡◌, ◌↔◌, ◌⊎◌, ℕ, None}
use Rattle.pliron_core.specs.declared.attrs.IRStatus.{IRStatus}
use Rattle.pliron_core.specs.declared.attrs.IRStatus.TheVariants.{Changed, Unchanged}
use Rattle.pliron_laws.specs.declared.fault.OptError.{OptError}
use Rattle.pliron_laws.specs.declared.fault.OptError.TheVariants.{Memory, LiveUse}
use Rattle.pliron_core.specs.Tree.{Tree, In, row_of, head_of, operands_of, successors_of, parent_of, body_of, arguments_of, block_parent_of, layout_of, definition_of}
use Rattle.pliron_core.specs.Erased.{IsInOperation, IsBlockWithin, IsDefinedInBlock}
use Rattle.pliron_opt_cfg.specs.Visited.{Start, IsVisitedSsaRegion, IsCutOff, IsUnreachable}

-- the operation, the block is erased with one of these blocks
abbrev pub IsErasedWith : Tree → (ℕ → Type 0) → ℕ → Type 0
IsErasedWith t Dropped k = (b : ℕ) × Dropped b × IsInOperation t b k

abbrev pub IsBlockErasedWith : Tree → (ℕ → Type 0) → ℕ → Type 0
IsBlockErasedWith t Dropped c = (b : ℕ) × Dropped b × IsBlockWithin t b c

-- the second tree is the first one without these blocks and what is in them, and nothing else changed; the
-- blocks of a region are in one order in every tree
pub record IsWithout (t t' : Tree) (Dropped : ℕ → Type 0) : Type 0 where
  pub deleted : (k : ℕ) → IsErasedWith t Dropped k → head_of t' k ≡ None
  pub detached_blocks : (c : ℕ) → IsBlockErasedWith t Dropped c → block_parent_of t' c ≡ None
  pub rows : (k : ℕ) → (IsErasedWith t Dropped k → ⊥) → row_of t' k ≡ row_of t k
  pub operands : (k : ℕ) → (IsErasedWith t Dropped k → ⊥) → operands_of t' k ≡ operands_of t k
  pub successors : (k : ℕ) → (IsErasedWith t Dropped k → ⊥) → successors_of t' k ≡ successors_of t k
  pub parents : (k : ℕ) → (IsErasedWith t Dropped k → ⊥) → parent_of t' k ≡ parent_of t k
  pub bodies : (c : ℕ) → (IsBlockErasedWith t Dropped c → ⊥) → body_of t' c ≡ body_of t c
  pub arguments : (c : ℕ) → (IsBlockErasedWith t Dropped c → ⊥) → arguments_of t' c ≡ arguments_of t c
  pub block_parents : (c : ℕ) → (IsBlockErasedWith t Dropped c → ⊥) → block_parent_of t' c ≡ block_parent_of t c
  pub layouts : (r c : ℕ) → In c (layout_of t' r) ↔ (In c (layout_of t r) × (IsBlockErasedWith t Dropped c → ⊥))

-- an operation outside the region's unreachable blocks uses a value that is defined in one of them
pub record HasLiveUse (t : Tree) (r : ℕ) : Type 0 where
  pub block : ℕ
  pub cut_off : IsCutOff t r block
  pub value : ℕ
  pub made : IsDefinedInBlock t block (definition_of t value)
  pub user : ℕ
  pub names : In value (operands_of t user)
  pub outside : (c : ℕ) → IsCutOff t r c → IsInOperation t c user → ⊥

-- all unreachable blocks of some searched regions are erased, region by region
pub data RemovesSome (start : Start) (t : Tree) : Tree → Type 0 where
  Nothing : RemovesSome start t t
  Then : {u t' : Tree} (r b : ℕ) → RemovesSome start t u → IsVisitedSsaRegion start u r → IsCutOff u r b → IsWithout u t' (IsCutOff u r) → RemovesSome start t t'

-- exactly the unreachable blocks of the searched regions are erased, with what is in them, and nothing else
-- changed; they were erased region by region, and none is left; the answer says whether there were any
abbrev pub RemovesAll : Start → (t t' : Tree) → IRStatus → Type 0
RemovesAll start t t' Changed = ((b : ℕ) × IsUnreachable start t b) × IsWithout t t' (IsUnreachable start t) × RemovesSome start t t' × ((b : ℕ) → IsUnreachable start t' b → ⊥)
RemovesAll start t t' Unchanged = ((b : ℕ) → IsUnreachable start t b → ⊥) × (t' ≡ t)

-- why a removal gave up, and the tree then: a first part is done, and where values are in use that is so in a
-- region that was due
abbrev pub RemovalFails : Start → (t t' : Tree) → OptError → Type 0
RemovalFails start t t' e = RemovesSome start t t' × ((e ≡ Memory) ⊎ ((e ≡ LiveUse) × ((r : ℕ) × IsVisitedSsaRegion start t' r × HasLiveUse t' r)))
