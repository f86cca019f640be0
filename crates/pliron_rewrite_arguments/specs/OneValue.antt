-- Arguments of blocks that are one value.
use Rattle.std.specs.Prelude.{◌≡◌, ◌≢◌, ◌⊎◌, ℕ, Some, None, slice_get}
use Rattle.pliron_core.specs.Tree.{Tree, In, first_of, successors_of, arguments_of, block_parent_of, layout_of}
use Rattle.pliron_core.specs.Writes.{after_replacing}
use Rattle.pliron_laws.specs.Datum.{Meaning}
use Rattle.pliron_laws.specs.Answers.{HeadPasses, IsForwardedAt}

-- an edge to the block forwards the value at this place
pub record IsForwardedThere (m : Meaning) (t : Tree) (block index v : ℕ) : Type 0 where
  pub branch : ℕ
  pub edge : ℕ
  pub leads : slice_get (successors_of t branch) edge ≡ Some block
  pub forwards : IsForwardedAt m t branch edge index (Some v)

-- the block is no entry, only branches lead to it, and each edge to it forwards this value to its argument at this
-- index, or that argument itself; some edge forwards the value, which is not the argument
pub record IsOneValue (m : Meaning) (t : Tree) (block index v : ℕ) : Type 0 where
  pub argument : ℕ
  pub apart : argument ≢ v
  pub there : slice_get (arguments_of t block) index ≡ Some argument
  pub no_entry : (r : ℕ) → block_parent_of t block ≡ Some r → first_of (layout_of t r) None ≢ Some block
  pub branches : (k : ℕ) → In block (successors_of t k) → HeadPasses m.is_branch t k
  pub edges : (k e : ℕ) → slice_get (successors_of t k) e ≡ Some block → IsForwardedAt m t k e index (Some v) ⊎ IsForwardedAt m t k e index (Some argument)
  pub some_edge : IsForwardedThere m t block index v

-- the uses of the block's argument at this index are uses of the value now
abbrev pub ReplacesByValue : (t t' : Tree) → (block index v : ℕ) → Type 0
ReplacesByValue t t' block index v = (argument : ℕ) → slice_get (arguments_of t block) index ≡ Some argument → t' ≡ after_replacing t argument v
