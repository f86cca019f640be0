-- Trees in which blocks were merged.
use Rattle.std.specs.Prelude.{◌≡◌, ◌⊎◌, ℕ, List, Some, None, take}
use Rattle.pliron_core.specs.declared.attrs.IRStatus.{IRStatus}
use Rattle.pliron_core.specs.declared.attrs.IRStatus.TheVariants.{Changed, Unchanged}
use Rattle.pliron_core.specs.Tree.{Tree, IsLive, head_of, arguments_of, block_parent_of}
use Rattle.pliron_laws.specs.Datum.{Meaning}
use Rattle.pliron_rewrite_blocks.specs.Pairs.{IsMergeable, forwarded_uses, after_block_merging}
use Rattle.pliron_opt_cfg.specs.Visited.{Start, IsVisitedSsaRegion, IsReachedIn}

-- a mergeable pair of a searched region, whose first block the region's entry reaches
pub record IsDue (start : Start) (m : Meaning) (t : Tree) (a b jump : ℕ) (values : List ℕ) : Type 0 where
  pub region : ℕ
  pub searched : IsVisitedSsaRegion start t region
  pub in_region : block_parent_of t a ≡ Some region
  pub reached : IsReachedIn t region a
  pub pair : IsMergeable m t a b jump values

-- such pairs were merged, one after the other
pub data MergesSome (start : Start) (m : Meaning) (t : Tree) : Tree → Type 0 where
  Nothing : MergesSome start m t t
  Then : {u : Tree} (a b jump : ℕ) (values : List ℕ) → MergesSome start m t u → IsDue start m u a b jump values → MergesSome start m t (after_block_merging u a b jump values)

-- some pair is due
abbrev pub HasPair : Start → Meaning → Tree → Type 0
HasPair start m t = (a b jump : ℕ) × (values : List ℕ) × IsDue start m t a b jump values

-- pairs were merged until none was left; the answer says whether there was one
abbrev pub MergesAll : Start → Meaning → (t t' : Tree) → IRStatus → Type 0
MergesAll start m t t' Changed = HasPair start m t × MergesSome start m t t' × (HasPair start m t' → ⊥)
MergesAll start m t t' Unchanged = (t' ≡ t) × (HasPair start m t → ⊥)

-- `Changed` says that an operation was erased
abbrev pub LosesOperation : IRStatus → (t t' : Tree) → Type 0
LosesOperation Changed t t' = (k : ℕ) × IsLive t k × (head_of t' k ≡ None)
LosesOperation Unchanged t t' = Unit {0}

-- the uses of the first n arguments of one pair's second block were replaced
pub record IsHalfMerged (start : Start) (m : Meaning) (u t' : Tree) : Type 0 where
  pub a : ℕ
  pub b : ℕ
  pub jump : ℕ
  pub values : List ℕ
  pub due : IsDue start m u a b jump values
  pub n : ℕ
  pub forwarded : t' ≡ forwarded_uses u (take n (arguments_of u b)) values

-- the tree on allocation failure: some pairs are merged, and one more may be half merged
abbrev pub MergesPartly : Start → Meaning → (t t' : Tree) → Type 0
MergesPartly start m t t' = MergesSome start m t t' ⊎ ((u : Tree) × MergesSome start m t u × IsHalfMerged start m u t')
