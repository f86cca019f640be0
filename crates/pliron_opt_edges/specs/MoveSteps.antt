-- What holds while edges are moved, one branch after the other.
use Rattle.std.specs.Prelude.{◌≡◌, ◌≢◌, ◌<◌, ◌↔◌, ℕ, Bool, List, ◌∷◌, [], filter, length, drop, Some}
use Rattle.pliron_core.specs.declared.attrs.Head.{Head}
use Rattle.pliron_core.specs.declared.attrs.IRStatus.{IRStatus}
use Rattle.pliron_core.specs.declared.attrs.IRStatus.TheVariants.{Changed, Unchanged}
use Rattle.pliron_core.specs.Lists.{IsDistinct}
use Rattle.pliron_core.specs.Tree.{Tree, In, IsInside, head_of, operands_of, successors_of, block_parent_of}
use Rattle.pliron_core.specs.Invariant.{IsTree}
use Rattle.pliron_core.specs.Walks.{contents}
use Rattle.pliron_laws.specs.Answers.{has_passing_head, HeadPasses}
use Rattle.pliron_laws.specs.Datum.{Meaning}
use Rattle.pliron_laws.specs.Replacing.{branch_replaced}
use Rattle.pliron_theory.specs.Change.{IsWholeChange}
use Rattle.pliron_rewrite_blocks.specs.Links.{KeepsLinks}
use Rattle.pliron_opt_edges.specs.declared.chains.ChainEnds.{ChainEnds}
use Rattle.pliron_opt_edges.specs.Chains.{EndsAt}
use Rattle.pliron_opt_edges.specs.Ends.{known_targets_of}
use Rattle.pliron_opt_edges.specs.Moved.{MovesEdges}

-- the branches inside the root, in pre-order
abbrev pub branches_within : (Head → Bool) → Tree → ℕ → List ℕ
branches_within is_branch t root = filter (λ k. has_passing_head is_branch (head_of t k)) (contents t root)

-- the operation alone, where it is a branch
abbrev pub branch_alone : (Head → Bool) → Tree → ℕ → List ℕ
branch_alone is_branch t op = filter (λ k. has_passing_head is_branch (head_of t k)) (op ∷ [])

-- the edges of the operation are led by what is known, if that changes them
abbrev pub MovesOne : ChainEnds → ℕ → (t t' : Tree) → IRStatus → Type 0
MovesOne ends op t t' Changed = (known_targets_of ends t op ≢ successors_of t op) × ((head : Head) → head_of t op ≡ Some head → t' ≡ branch_replaced t op head (operands_of t op) (known_targets_of ends t op))
MovesOne ends op t t' Unchanged = (known_targets_of ends t op ≡ successors_of t op) × (t' ≡ t)

-- chains end where they ended
abbrev pub EndAlike : (Head → Bool) → (t t' : Tree) → Type 0
EndAlike is_branch t t' = (b end : ℕ) → ((n : ℕ) × EndsAt is_branch t n b end) ↔ ((n : ℕ) × EndsAt is_branch t' n b end)

-- the operation is a branch inside the root with the successors that it had
pub record IsUnmovedBranch (is_branch : Head → Bool) (start now : Tree) (root k : ℕ) : Type 0 where
  pub inside : IsInside now root k
  pub branch : HeadPasses is_branch now k
  pub successors : successors_of now k ≡ successors_of start k

-- the edges of this operation lead to the ends of their chains
abbrev pub LeadsToEnds : (Head → Bool) → Tree → ℕ → Type 0
LeadsToEnds is_branch t k = (b n end : ℕ) → In b (successors_of t k) → EndsAt is_branch t n b end → n ≡ 0

-- `Unchanged` says that the tree is as it was, `Changed` that an operation was made
abbrev pub ReportsMade : IRStatus → (t t' : Tree) → Type 0
ReportsMade Unchanged t t' = t' ≡ t
ReportsMade Changed t t' = length t.operations < length t'.operations

-- the edges of the branches before index i are led to the ends of their chains, and the others wait
pub record IsMoving (m : Meaning) (root : ℕ) (start : Tree) (branches : List ℕ) (i : ℕ) (status : IRStatus) (now : Tree) : Type 0 where
  pub tree : IsTree now
  pub change : IsWholeChange m start now root
  pub links : KeepsLinks m start now
  pub blocks : (b : ℕ) → block_parent_of now b ≡ block_parent_of start b
  pub moved : MovesEdges m.is_branch root start now
  pub ends : EndAlike m.is_branch start now
  pub waiting : (k : ℕ) → In k (drop i branches) → IsUnmovedBranch m.is_branch start now root k
  pub distinct : IsDistinct (drop i branches)
  pub done : (k : ℕ) → IsInside now root k → HeadPasses m.is_branch now k → (In k (drop i branches) → ⊥) → LeadsToEnds m.is_branch now k
  pub reported : ReportsMade status start now
