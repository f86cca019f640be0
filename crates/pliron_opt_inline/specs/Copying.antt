-- Which blocks of a function may be copied to where it is called.
use Rattle.std.specs.Prelude.{◌≡◌, ◌≢◌, ◌⊎◌, ℕ, Bool, [], Some, None, length}
use Rattle.pliron_core.specs.declared.attrs.Head.{Head}
use Rattle.pliron_core.specs.Tree.{Tree, In, operands_of, successors_of, results_of, regions_of, body_of, block_parent_of, layout_of}
use Rattle.pliron_core.specs.Reads.{next_of}
use Rattle.pliron_laws.specs.Datum.{Meaning}
use Rattle.pliron_laws.specs.Answers.{HeadPasses}
use Rattle.pliron_dialect_calls.specs.Inlinable.{NeverLeaves}
use Rattle.pliron_rewrite_calls.specs.Copying.{parts_of}
use Rattle.pliron_rewrite_calls.specs.Inlining.{ReturnsAsMany, StaysWithin}

-- the operation, in a block of the region, has no regions and names values and blocks of the region alone; it is as the last of
-- a block must be, or, with one behind it, as the others must be
pub record FitsInCopy (last others : ℕ → Type 0) (t : Tree) (region k : ℕ) : Type 0 where
  pub childless : regions_of t k ≡ []
  pub values : (v : ℕ) → In v (operands_of t k) → In v (parts_of t (layout_of t region)).values
  pub blocks : (b : ℕ) → In b (successors_of t k) → block_parent_of t b ≡ Some region
  pub ends : next_of t k ≡ None → last k
  pub stands : (j : ℕ) → next_of t k ≡ Some j → others k

-- the block isn't empty, and all in it fits
pub record IsBlockFit (last others : ℕ → Type 0) (t : Tree) (region b : ℕ) : Type 0 where
  pub some : body_of t b ≢ []
  pub each : (k : ℕ) → In k (body_of t b) → FitsInCopy last others t region k

-- by what the operations do: the last returns as many values as the call has results, or stays within; others never leave
abbrev pub EndsCopy : Meaning → (returns : Head → Bool) → Tree → (results k : ℕ) → Type 0
EndsCopy m returns t results k = ReturnsAsMany m returns t results k ⊎ StaysWithin m returns t k

abbrev pub IsBlockCopyable : Meaning → (returns : Head → Bool) → Tree → (results region b : ℕ) → Type 0
IsBlockCopyable m returns t results region b = IsBlockFit (EndsCopy m returns t results) (NeverLeaves m t) t region b

-- by what the dialect answers of heads: which are returns, which never leave, which never give
abbrev pub EndsCopyByHead : (returns stays closes : Head → Bool) → Tree → (results k : ℕ) → Type 0
EndsCopyByHead returns stays closes t results k =
    (HeadPasses returns t k × (length (operands_of t k) ≡ results) × (results_of t k ≡ []))
    ⊎ ((HeadPasses returns t k → ⊥) × HeadPasses stays t k × HeadPasses closes t k)

abbrev pub IsBlockCopyableByHead : (returns stays closes : Head → Bool) → Tree → (results region b : ℕ) → Type 0
IsBlockCopyableByHead returns stays closes t results region b = IsBlockFit (EndsCopyByHead returns stays closes t results) (λ k. HeadPasses stays t k) t region b
