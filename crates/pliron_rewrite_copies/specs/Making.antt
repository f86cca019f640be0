-- Blocks are made that nothing leads to, with what is in them: as the copies of a called function's blocks, before the call
-- becomes a jump to them.
--
--     before:   ^a: .. ; jump ^z                 after:   ^a: .. ; jump ^z       ^n(p): q = .. ; jump ^z(q)
--     no run comes to ^n; the blocks that are made may lead to others
use Rattle.std.specs.Prelude.{◌≡◌, ◌≢◌, ◌≤◌, ◌⊎◌, ℕ, Bool, true, false, [], Some, None, length, slice_get, IsTrue}
use Rattle.pliron_core.specs.Changes.{IsDefinedInside}
use Rattle.pliron_core.specs.Reads.{has_ssa}
use Rattle.pliron_core.specs.Tree.{Tree, In, IsInside, HoldsBlock, last_of, head_of, operands_of, successors_of, results_of, regions_of, parent_of, body_of, block_parent_operation_of}
use Rattle.pliron_core.specs.Invariant.{IsTree}
use Rattle.pliron_laws.specs.Datum.{Head, Meaning}
use Rattle.pliron_laws.specs.Root.{IsDominated}
use Rattle.pliron_laws.specs.Linked.{EndsBlock}
use Rattle.pliron_theory.specs.Keeps.{IsFit, KeepsRuns}
use Rattle.pliron_theory.specs.Rebranching.{FitsInPlace}
use Rattle.pliron_theory.specs.Sweeping.{IsSwept, AreNotLive}
use Rattle.pliron_rewrite_copies.specs.Copies.{IsUsedBeside}

-- t is u without the operations and blocks that were made; each of these operations is in such a block, or inside one
pub record AreMadeAnew (t u : Tree) (new new_block : ℕ → Bool) : Type 0 where
  pub swept : IsSwept u t new new_block
  pub absent : AreNotLive t new new_block
  pub in_blocks : (k b : ℕ) → parent_of u k ≡ Some b → new k ≡ true → new_block b ≡ true
  pub fresh : (k : ℕ) → new k ≡ true → length t.operations ≤ k

-- what was made is well defined and well linked, as far as the root is concerned
pub record IsMadeWell (m : Meaning) (u : Tree) (root k : ℕ) : Type 0 where
  pub own_values : (v : ℕ) → IsInside u root k → In v (operands_of u k) → IsDefinedInside u root v
  pub dominated : (v : ℕ) → In v (operands_of u k) → IsDefinedInside u root v → IsDominated u k v
  pub dominance : (r : ℕ) → IsInside u root k → In r (regions_of u k) → IsTrue (has_ssa u r)
  pub fits : IsInside u root k → FitsInPlace m u k
  pub terminator : (b : ℕ) (h : Head) → IsInside u root k → head_of u k ≡ Some h → IsTrue (m.is_terminator h) → parent_of u k ≡ Some b → last_of None (body_of u b) ≡ Some k
  pub no_jumper : (v j : ℕ) → In v (operands_of u k) → IsInside u root j → successors_of u j ≢ [] → In v (results_of u j) → ⊥
  pub edges : (s : ℕ) → In s (successors_of u k) → IsInside u root k ⊎ HoldsBlock u root s → EndsBlock u k

pub record MakingBlocks : Type 0 where
  pub made : (m : Meaning) (t u : Tree) (new new_block : ℕ → Bool) → IsTree t → IsTree u → AreMadeAnew t u new new_block → length t.operations ≤ length u.operations → ((root : ℕ) → IsFit m t root → (k : ℕ) → new k ≡ true → IsMadeWell m u root k) → KeepsRuns m t u
  -- no path comes to such a block in a region that was there, so what defines a value in the region dominates each use
  -- of it in the block
  pub dominated : (t u : Tree) (new new_block : ℕ → Bool) (user v : ℕ) → IsTree t → IsTree u → AreMadeAnew t u new new_block → (x : IsUsedBeside u (λ b. 0) user v) → new_block x.block ≡ true → ((k : ℕ) → block_parent_operation_of u x.block ≡ Some k → new k ≡ false) → IsDominated u user v
