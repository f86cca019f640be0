-- Trees in which edges were moved to the ends of chains.
use Rattle.std.specs.Prelude.{◌≡◌, ◌≢◌, ◌⊎◌, ℕ, Bool, List, [], ◌∷◌, Some}
use Rattle.pliron_core.specs.declared.attrs.Head.{Head}
use Rattle.pliron_core.specs.Tree.{Tree, In, IsInside, head_of, operands_of, successors_of}
use Rattle.pliron_core.specs.Changes.{IsSameTree}
use Rattle.pliron_laws.specs.Answers.{HeadPasses}
use Rattle.pliron_laws.specs.Replacing.{branch_replaced}
use Rattle.pliron_opt_edges.specs.Chains.{EndsAt, IsEndless}

-- an edge to the block is led to the target: to the end of the chain, or nowhere else where that has none
abbrev pub IsLedToEnd : (Head → Bool) → Tree → (block target : ℕ) → Type 0
IsLedToEnd is_branch t block target = ((n : ℕ) × EndsAt is_branch t n block target) ⊎ ((target ≡ block) × IsEndless is_branch t block)

-- each of these edges is
abbrev pub AreLedToEnds : (Head → Bool) → Tree → (blocks targets : List ℕ) → Type 0
AreLedToEnds is_branch t [] [] = Unit {0}
AreLedToEnds is_branch t [] (x ∷ xs) = ⊥
AreLedToEnds is_branch t (b ∷ bs) [] = ⊥
AreLedToEnds is_branch t (b ∷ bs) (x ∷ xs) = IsLedToEnd is_branch t b x × AreLedToEnds is_branch t bs xs

-- a branch inside the root, with this head, of whose edges some are led elsewhere
pub record IsMovable (is_branch : Head → Bool) (t : Tree) (root op : ℕ) (head : Head) (targets : List ℕ) : Type 0 where
  pub inside : IsInside t root op
  pub has_head : head_of t op ≡ Some head
  pub branch : HeadPasses is_branch t op
  pub led : AreLedToEnds is_branch t (successors_of t op) targets
  pub moved : targets ≢ successors_of t op

-- branches were replaced, one after the other, each by one with its head and its operands whose edges are led to the ends of
-- their chains
pub data MovesEdges (is_branch : Head → Bool) (root : ℕ) (t : Tree) : Tree → Type 0 where
  Nothing : MovesEdges is_branch root t t
  Then : {u : Tree} (op : ℕ) (head : Head) (targets : List ℕ) → MovesEdges is_branch root t u → IsMovable is_branch u root op head targets → MovesEdges is_branch root t (branch_replaced u op head (operands_of u op) targets)

-- so were some, before memory was refused
abbrev pub MovesSome : (Head → Bool) → (root : ℕ) → (t t' : Tree) → Type 0
MovesSome is_branch root t t' = (u : Tree) × MovesEdges is_branch root t u × IsSameTree u t'

-- where an edge of a branch inside the root leads to a chain that ends, it leads to the end
abbrev pub LeavesNoChain : (Head → Bool) → Tree → ℕ → Type 0
LeavesNoChain is_branch t root = (op b n end : ℕ) → IsInside t root op → HeadPasses is_branch t op → In b (successors_of t op) → EndsAt is_branch t n b end → n ≡ 0
