-- What is known of the ends of chains.
use Rattle.std.specs.Prelude.{◌≡◌, ◌⊎◌, ◌<◌, ℕ, suc, Bool, List, map, drop, slice_get, Option, Some, None, IsSome}
use Rattle.pliron_core.specs.Tree.{Tree, In, IsBlock, successors_of}
use Rattle.pliron_laws.specs.Datum.{Head}
use Rattle.pliron_laws.specs.Tree.{is_one_key}
use Rattle.indexmap.specs.IndexMap.{get}
use Rattle.pliron_opt_edges.specs.declared.chains.ChainEnds.{ChainEnds}
use Rattle.pliron_opt_edges.specs.Chains.{EndsAt, IsEndless, PassesOnTo}

-- what is known of the block: nothing, that its chain ends nowhere, or where it ends
abbrev pub known_end : ChainEnds → ℕ → Option (Option ℕ)
known_end ends block = get is_one_key ends.ends block

-- what is known is so
abbrev pub IsKnownRightly : (Head → Bool) → Tree → (block : ℕ) → Option (Option ℕ) → Type 0
IsKnownRightly is_branch t block None = Unit {0}
IsKnownRightly is_branch t block (Some None) = IsEndless is_branch t block
IsKnownRightly is_branch t block (Some (Some end)) = (n : ℕ) × EndsAt is_branch t n block end

abbrev pub AreKnownRightly : (Head → Bool) → Tree → ChainEnds → Type 0
AreKnownRightly is_branch t ends = (block : ℕ) → IsKnownRightly is_branch t block (known_end ends block)

-- what was known of is so still
abbrev pub KnowsMoreEnds : (ends ends' : ChainEnds) → Type 0
KnowsMoreEnds ends ends' = (block : ℕ) → IsSome (known_end ends block) → IsSome (known_end ends' block)

-- a walk from a block found this end: it holds of the block and of each on the path; what is known of the others is so
pub record IsWalked (is_branch : Head → Bool) (t : Tree) (ends : ChainEnds) (path : List ℕ) (from : ℕ) (end : Option ℕ) : Type 0 where
  pub start : IsKnownRightly is_branch t from (Some end)
  pub there : IsSome (known_end ends from)
  pub on_path : (b : ℕ) → In b path → IsKnownRightly is_branch t b (Some end)
  pub marked : (b : ℕ) → In b path → known_end ends b ≡ Some None
  pub others : (b : ℕ) → (In b path → ⊥) → IsKnownRightly is_branch t b (known_end ends b)

-- the block to which an edge to this one is led by what is known of it
abbrev pub known_target : (block : ℕ) → Option (Option ℕ) → ℕ
known_target block (Some (Some end)) = end
known_target block (Some None) = block
known_target block None = block

abbrev pub known_target_of : ChainEnds → ℕ → ℕ
known_target_of ends block = known_target block (known_end ends block)

abbrev pub known_targets_of : ChainEnds → Tree → ℕ → List ℕ
known_targets_of ends t op = map (λ b. known_target_of ends b) (successors_of t op)

-- a walk from a block stands at one: those on the path lead there and are known to end nowhere, and what is known of the
-- others is so
pub record IsOnChain (is_branch : Head → Bool) (t : Tree) (ends ends' : ChainEnds) (path : List ℕ) (from at : ℕ) : Type 0 where
  pub block : IsBlock t at
  pub begun : In from path ⊎ (from ≡ at)
  pub lead : (b : ℕ) → In b path → (n : ℕ) × PassesOnTo is_branch t (suc n) b at
  pub marked : (b : ℕ) → In b path → known_end ends' b ≡ Some None
  pub others : (b : ℕ) → (In b path → ⊥) → IsKnownRightly is_branch t b (known_end ends' b)
  pub more : KnowsMoreEnds ends ends'

-- what is known is so, but of the blocks from index i of the path on
pub record IsFilling (is_branch : Head → Bool) (t : Tree) (ends ends' : ChainEnds) (path : List ℕ) (from i : ℕ) : Type 0 where
  pub right : (b : ℕ) → IsKnownRightly is_branch t b (known_end ends' b) ⊎ In b (drop i path)
  pub there : IsSome (known_end ends' from)
  pub more : KnowsMoreEnds ends ends'

-- the first so many of these blocks are known
pub record AreEndsFound (is_branch : Head → Bool) (t : Tree) (ends ends' : ChainEnds) (blocks : List ℕ) (i : ℕ) : Type 0 where
  pub right : AreKnownRightly is_branch t ends'
  pub there : (n b : ℕ) → n < i → slice_get blocks n ≡ Some b → IsSome (known_end ends' b)
  pub more : KnowsMoreEnds ends ends'
