-- The header of a loop was copied for the operations that enter the loop.
--
--     before:   ^a: jump ^h       ^h: x ; branch ^b ^e       ^b: jump ^h       ^e: ..
--     after:    ^a: jump ^c       ^h: x ; branch ^b ^e       ^b: jump ^h       ^e: ..       ^c: y ; branch ^b ^e
use Rattle.std.specs.Prelude.{◌≡◌, ◌+◌, ◌<◌, ◌≤◌, ℕ, List, [], ◌∷◌, ◌++◌, Some, length}
use Rattle.pliron_core.specs.Changes.{IsInsideChange}
use Rattle.pliron_core.specs.Tree.{Tree, In, IsLive, HoldsBlock, successors_of, body_of, block_parent_of, layout_of}
use Rattle.pliron_laws.specs.Datum.{Meaning}
use Rattle.pliron_laws.specs.Linked.{IsWellLinked}
use Rattle.pliron_rewrite_copies.specs.Copies.{Originals}
use Rattle.pliron_rewrite_copies.specs.ClosedBlock.{IsBlockCopied}

-- u has the copy, the last block of the header's region; each of the entering operations leads there where it led to the header
-- (another operation stands in its place), and no other operation does
pub record IsHeaderCopied (t u : Tree) (o : Originals) (header copy : ℕ) (entering : List ℕ) : Type 0 where
  pub copied : IsBlockCopied t u o header copy
  pub old : (k : ℕ) → k < length t.operations → IsLive u k → IsLive t k × (o.operation k ≡ k)
  pub to_copy : (k : ℕ) → In copy (successors_of u k) → In (o.operation k) entering
  pub to_header : (k : ℕ) → In header (successors_of u k) → In (o.operation k) entering → ⊥
  pub region : ℕ
  pub in_region : block_parent_of t header ≡ Some region
  pub last : layout_of u region ≡ layout_of t region ++ copy ∷ []
  -- so many operations were made at most
  pub longer : length t.operations ≤ length u.operations
  pub bound : length u.operations ≤ length t.operations + (length (body_of t header) + length entering)

-- a root that holds the header, and was well linked, is so still, and outside it nothing changed
pub record KeepsToHolders (m : Meaning) (t u : Tree) (header : ℕ) : Type 0 where
  pub linked : (root : ℕ) → IsWellLinked m t root → HoldsBlock t root header → IsWellLinked m u root
  pub inside : (root : ℕ) → IsWellLinked m t root → HoldsBlock t root header → IsInsideChange t u root
