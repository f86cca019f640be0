-- What edges say of an argument, one after the other.
use Rattle.std.specs.Prelude.{◌≡◌, ◌≢◌, ◌⊎◌, ◌<◌, ℕ, List, Option, Some, None, slice_get}
use Rattle.pliron_core.specs.declared.uses.Use.{Use}
use Rattle.pliron_core.specs.Tree.{Tree, first_of, block_parent_of, layout_of}
use Rattle.pliron_laws.specs.Datum.{Meaning}
use Rattle.pliron_laws.specs.Answers.{HeadPasses, IsForwardedAt}

-- the block is the first of its region
abbrev pub IsEntry : Tree → ℕ → Type 0
IsEntry t block = (r : ℕ) × (block_parent_of t block ≡ Some r) × (first_of (layout_of t r) None ≡ Some block)

-- the edge is of a branch, and forwards this value at this place
abbrev pub EdgeForwards : Meaning → Tree → Use → (index v : ℕ) → Type 0
EdgeForwards m t e index v = HeadPasses m.is_branch t e.user × IsForwardedAt m t e.user e.place index (Some v)

-- each of the first n edges forwards the argument itself or the value that was found, and one of them the latter
pub record AreOneSoFar (m : Meaning) (t : Tree) (edges : List Use) (index argument : ℕ) (found : Option ℕ) (n : ℕ) : Type 0 where
  pub each : (k : ℕ) (e : Use) → k < n → slice_get edges k ≡ Some e → EdgeForwards m t e index argument ⊎ ((v : ℕ) × (found ≡ Some v) × EdgeForwards m t e index v)
  pub one : (v : ℕ) → found ≡ Some v → (argument ≢ v) × ((k : ℕ) × (e : Use) × (slice_get edges k ≡ Some e) × EdgeForwards m t e index v)
