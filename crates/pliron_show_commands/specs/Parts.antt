-- What is fit to run by itself, or by what is inside it.
use Rattle.std.specs.Prelude.{◌≡◌, ◌≢◌, ℕ, List, [], ◌∷◌, ◌++◌, IsSomeAnd, IsTrue}
use Rattle.pliron_core.specs.Tree.{Tree, In, IsInside, regions_of, parent_operation_of}
use Rattle.pliron_core.specs.Reads.{has_ssa}
use Rattle.pliron_core.specs.Walks.{contents}
use Rattle.pliron_laws.specs.Datum.{Meaning}
use Rattle.pliron_theory.specs.Keeps.{IsFit}

-- it has a region in which definitions need not come before uses, as a `mod` has
abbrev pub IsContainer : Tree → ℕ → Type 0
IsContainer t k = (r : ℕ) × In r (regions_of t k) × (IsTrue (has_ssa t r) → ⊥)

-- it is directly inside such an operation
abbrev pub IsInContainer : Tree → ℕ → Type 0
IsInContainer t k = IsSomeAnd (parent_operation_of t k) (λ holder. IsContainer t holder)

-- runs begin at it by itself: it is directly inside a container and has regions, but isn't a container itself, as a
-- `func`
pub record IsReportedPart (t : Tree) (k : ℕ) : Type 0 where
  pub held : IsInContainer t k
  pub regions : regions_of t k ≢ []
  pub entered : IsContainer t k → ⊥

module _ (m : Meaning) (t : Tree) (root : ℕ) where
  -- each part inside the operation is fit to run
  abbrev pub AreFitParts : Type 0
  AreFitParts = (k : ℕ) → IsInside t root k → IsReportedPart t k → IsFit m t k

  -- the operation is fit to run, or it is a container and each part inside it is
  pub data IsFitByParts : Type 0 where
    AsAWhole : IsFit m t root → IsFitByParts
    InParts : IsContainer t root → AreFitParts → IsFitByParts

  -- it is a part inside the operation, and each part before it in the order of the text is fit to run
  pub record IsFirstPart (part : ℕ) : Type 0 where
    pub before : List ℕ
    pub after : List ℕ
    pub place : contents t root ≡ before ++ part ∷ after
    pub is_part : IsReportedPart t part
    pub fit : (k : ℕ) → In k before → IsReportedPart t k → IsFit m t k

  -- what a fault is reported of: the operation itself, or for a container such a part
  pub data IsAtFault (op : ℕ) : Type 0 where
    Itself : (IsContainer t root → ⊥) → op ≡ root → IsAtFault op
    Inside : IsContainer t root → IsFirstPart op → IsAtFault op
