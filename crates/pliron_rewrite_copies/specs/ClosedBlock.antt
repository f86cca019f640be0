-- A block is copied whose values are used in it alone, as a loop's header or a block that edges are threaded through: what
-- its copy needs to be closed.
use Rattle.std.specs.Prelude.{◌≡◌, ◌≢◌, ◌<◌, ◌≤◌, ℕ, [], Some, length}
use Rattle.pliron_core.specs.Tree.{Tree, In, IsLive, operands_of, regions_of, parent_of, definition_of}
use Rattle.pliron_core.specs.Invariant.{IsTree}
use Rattle.pliron_laws.specs.Datum.{Meaning}
use Rattle.pliron_laws.specs.Root.{defining_block}
use Rattle.pliron_theory.specs.Keeps.{KeepsRuns}
use Rattle.pliron_rewrite_copies.specs.Copies.{Originals, HasOriginals}

-- the values of the block are used by operations of the block
abbrev pub IsClosedBlock : Tree → ℕ → Type 0
IsClosedBlock u b = (user v : ℕ) → In v (operands_of u user) → defining_block u (definition_of u v) ≡ Some b → parent_of u user ≡ Some b

-- u has the copy c of the block e, and all else has itself as original, but for operations without regions, as branches that
-- were replaced
pub record IsBlockCopied (t u : Tree) (o : Originals) (e c : ℕ) : Type 0 where
  pub originals : HasOriginals t u o
  pub apart : c ≢ e
  pub copied : o.block c ≡ e
  pub others : (b : ℕ) → b ≢ c → o.block b ≡ b
  pub regions : (r : ℕ) → o.region r ≡ r
  pub holders : (k : ℕ) → IsLive u k → regions_of u k ≢ [] → o.operation k ≡ k
  -- what stood in a block stands in one
  pub placed : (k b : ℕ) → IsLive u k → parent_of t (o.operation k) ≡ Some b → (d : ℕ) × (parent_of u k ≡ Some d)
  pub closed : IsClosedBlock u e
  pub closed_copy : IsClosedBlock u c

-- a closed block may be copied, and edges to it may lead to the copy
abbrev pub ClosedBlockLaw : Type 0
ClosedBlockLaw = (m : Meaning) (t u : Tree) (o : Originals) (e c : ℕ) → IsTree t → IsTree u → length t.operations ≤ length u.operations → IsBlockCopied t u o e c → ((k : ℕ) → k < length t.operations → IsLive u k → IsLive t k × (o.operation k ≡ k)) → KeepsRuns m t u
