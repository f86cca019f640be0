-- Where the copies of an inlined call are, and what else was made.
use Rattle.std.specs.Prelude.{◌≡◌, ◌⊎◌, ℕ, true, [], Some, None}
use Rattle.pliron_core.specs.Tree.{Tree, IsLive, IsBlock, head_of, results_of, regions_of, parent_of, block_parent_of}
use Rattle.pliron_core.specs.Invariant.{IsTree}
use Rattle.pliron_laws.specs.Datum.{Datum, Meaning}
use Rattle.pliron_theory.specs.Keeps.{IsFit}
use Rattle.pliron_theory.specs.Rebranching.{FitsInPlace}
use Rattle.pliron_pass_linked.specs.Calls.{CallingConvention}
use Rattle.pliron_rewrite_inlining.specs.Inlined.{InlinedCall, IsReturnReplaced, IsCallInlined}

-- a jump that was made: the one in the place of the call, or one in the place of a return
abbrev pub IsNewJump : Meaning → (t u : Tree) → InlinedCall → ℕ → Type 0
IsNewJump m t u x k = (k ≡ x.new) ⊎ IsReturnReplaced m t u x k

-- the copies are new blocks of the region of the call and of the block behind it, one of each original; nothing else was made
-- but the new jump; the jumps that were made have no results and no regions, and the dialect admits them
pub record AreCopiesBeside (m : Meaning) (t u : Tree) (x : InlinedCall) : Type 0 where
  pub block : ℕ
  pub region : ℕ
  pub holds : parent_of t x.call ≡ Some block
  pub in_region : block_parent_of t block ≡ Some region
  pub target : block_parent_of t x.after ≡ Some region
  pub beside : (b : ℕ) → x.copied b ≡ true → block_parent_of u b ≡ Some region
  pub absent : (b : ℕ) → x.copied b ≡ true → block_parent_of t b ≡ None
  pub absent_jump : head_of t x.new ≡ None
  pub apart : (b d : ℕ) → x.copied b ≡ true → x.copied d ≡ true → x.originals.block b ≡ x.originals.block d → b ≡ d
  pub blocks : (b : ℕ) → IsBlock u b → IsBlock t b ⊎ (x.copied b ≡ true)
  pub operations : (k : ℕ) → IsLive u k → IsLive t k ⊎ (k ≡ x.new) ⊎ ((b : ℕ) × (x.copied b ≡ true) × (parent_of u k ≡ Some b))
  pub childless : (k : ℕ) → IsNewJump m t u x k → regions_of u k ≡ []
  pub no_results : (k : ℕ) → IsNewJump m t u x k → results_of u k ≡ []
  pub fits : (k : ℕ) → IsNewJump m t u x k → FitsInPlace m u k

-- where the callee is fit to run, each root that is fit stays so if it is still live
abbrev pub InlinedRootsLaw : Type 0
InlinedRootsLaw = (m : Meaning) (c : CallingConvention) (t u : Tree) (x : InlinedCall) (symbol : Datum)
    → IsTree t → IsTree u → IsCallInlined m c t u x symbol → AreCopiesBeside m t u x
    → IsFit m t x.callee → (root : ℕ) → IsFit m t root → IsLive u root → IsFit m u root
