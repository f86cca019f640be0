-- The steps by which a header is copied for the operations that enter its loop.
use Rattle.std.specs.Prelude.{◌≡◌, ◌⊎◌, ◌+◌, ◌<◌, ◌≤◌, ℕ, List, [], ◌∷◌, ◌++◌, Some, length}
use Rattle.pliron_core.specs.Changes.{IsSameTree, IsInsideChange}
use Rattle.pliron_core.specs.Invariant.{IsTree}
use Rattle.pliron_core.specs.Tree.{Tree, In, IsLive, IsInside, HoldsBlock, row_of, operands_of, successors_of, parent_of, body_of, block_parent_of, layout_of}
use Rattle.pliron_rewrite_copies.specs.Copies.{Originals}
use Rattle.pliron_rewrite_copies.specs.ClosedBlock.{IsBlockCopied}
use Rattle.pliron_rewrite_rotation.specs.Entering.{MayCopyHeader}

-- a header of a tree, and the operations that are to lead to its copy
pub record EnteredHeader : Type 0 where
  pub tree : Tree
  pub header : ℕ
  pub region : ℕ
  pub entering : List ℕ

abbrev pub copy_of : EnteredHeader → ℕ
copy_of x = length x.tree.bodies

pub record IsEnteredHeader (x : EnteredHeader) : Type 0 where
  pub tree : IsTree x.tree
  pub may : MayCopyHeader x.tree x.header x.entering
  pub in_region : block_parent_of x.tree x.header ≡ Some x.region

-- the operation and its block are as they were
pub record StandsAsBefore (t u : Tree) (k : ℕ) : Type 0 where
  pub row : row_of u k ≡ row_of t k
  pub operands : operands_of u k ≡ operands_of t k
  pub successors : successors_of u k ≡ successors_of t k
  pub parent : parent_of u k ≡ parent_of t k
  pub body : (b : ℕ) → parent_of t k ≡ Some b → body_of u b ≡ body_of t b

-- the header was copied, and some of the entering operations lead to the copy
pub record IsLeadingIn (x : EnteredHeader) (u : Tree) : Type 0 where
  pub originals : Originals
  pub copied : IsBlockCopied x.tree u originals x.header (copy_of x)
  pub old : (k : ℕ) → k < length x.tree.operations → IsLive u k → IsLive x.tree k × (originals.operation k ≡ k)
  pub longer : length x.tree.operations ≤ length u.operations
  pub waiting : (k : ℕ) → In k x.entering → IsLive u k → StandsAsBefore x.tree u k
  pub alone : (k j : ℕ) → In j x.entering → IsLive u j → IsLive u k → originals.operation k ≡ j → k ≡ j
  pub to_copy : (k : ℕ) → In (copy_of x) (successors_of u k) → In (originals.operation k) x.entering
  pub to_header : (k : ℕ) → In x.header (successors_of u k) → In (originals.operation k) x.entering → IsLive u (originals.operation k)
  pub home : (b : ℕ) → b < length x.tree.bodies → block_parent_of u b ≡ block_parent_of x.tree b
  pub copy_home : block_parent_of u (copy_of x) ≡ Some x.region
  pub last : layout_of u x.region ≡ layout_of x.tree x.region ++ copy_of x ∷ []
  pub inside : (root : ℕ) → HoldsBlock x.tree root x.header → IsInsideChange x.tree u root
  pub held : (root k : ℕ) → In k x.entering → IsLive u k → HoldsBlock x.tree root x.header → IsInside u root k

-- so it was where memory was refused: the same tree but for erased handles
pub record IsLeadingStopped (x : EnteredHeader) (u : Tree) : Type 0 where
  pub before : Tree
  pub tree : IsTree before
  pub leading : IsLeadingIn x before
  pub same : IsSameTree before u
  pub longer : length before.operations ≤ length u.operations

-- all of them lead to this copy
pub record AreLeadingIn (x : EnteredHeader) (u : Tree) (copy : ℕ) : Type 0 where
  pub key : copy_of x ≡ copy
  pub leading : IsLeadingIn x u
  pub gone : (k : ℕ) → In k x.entering → IsLive u k → ⊥
  pub bound : length u.operations ≤ length x.tree.operations + (length (body_of x.tree x.header) + length x.entering)

-- where memory was refused before, nothing changed but erased handles
abbrev pub IsCopyingStopped : EnteredHeader → Tree → Type 0
IsCopyingStopped x u = (IsSameTree x.tree u × (length x.tree.operations ≤ length u.operations)) ⊎ IsLeadingStopped x u
