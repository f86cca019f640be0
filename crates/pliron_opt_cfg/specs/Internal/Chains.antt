-- Merges of pairs whose first blocks are listed, one after the other.
use Rattle.std.specs.Prelude.{◌≡◌, ◌⊎◌, ℕ, List, take}
use Rattle.pliron_core.specs.declared.attrs.IRStatus.{IRStatus}
use Rattle.pliron_core.specs.declared.attrs.IRStatus.TheVariants.{Changed, Unchanged}
use Rattle.pliron_core.specs.Tree.{Tree, In, arguments_of}
use Rattle.pliron_core.specs.Invariant.{IsTree}
use Rattle.pliron_laws.specs.Datum.{Meaning}
use Rattle.pliron_rewrite_blocks.specs.Joining.{JoinsWell}
use Rattle.pliron_rewrite_blocks.specs.Pairs.{IsMergeable, forwarded_uses, after_block_merging}

-- mergeable pairs whose first blocks are among these were merged; each tree on the way is one
pub data MergesAmong (m : Meaning) (blocks : List ℕ) (t : Tree) : Tree → Type 0 where
  Nothing : MergesAmong m blocks t t
  Then : {u : Tree} (a b jump : ℕ) (values : List ℕ) → MergesAmong m blocks t u → In a blocks → IsMergeable m u a b jump values → IsTree (after_block_merging u a b jump values) → JoinsWell m (forwarded_uses u (arguments_of u b) values) a b jump → MergesAmong m blocks t (after_block_merging u a b jump values)

-- the uses of the first n arguments of one pair's second block were replaced
pub record IsHalfMergedAmong (m : Meaning) (blocks : List ℕ) (u t' : Tree) : Type 0 where
  pub a : ℕ
  pub b : ℕ
  pub jump : ℕ
  pub values : List ℕ
  pub listed : In a blocks
  pub pair : IsMergeable m u a b jump values
  pub n : ℕ
  pub forwarded : t' ≡ forwarded_uses u (take n (arguments_of u b)) values

abbrev pub MergesAmongPartly : Meaning → List ℕ → (t t' : Tree) → Type 0
MergesAmongPartly m blocks t t' = MergesAmong m blocks t t' ⊎ ((u : Tree) × MergesAmong m blocks t u × IsHalfMergedAmong m blocks u t')

-- none of these blocks is the first of a pair
abbrev pub HasNoPairAmong : Meaning → List ℕ → Tree → Type 0
HasNoPairAmong m blocks t = (a b jump : ℕ) (values : List ℕ) → In a blocks → IsMergeable m t a b jump values → ⊥

-- `Changed` says that one of these blocks was the first of a pair, `Unchanged` that the tree is as it was
abbrev pub ReportsMerged : Meaning → List ℕ → (t t' : Tree) → IRStatus → Type 0
ReportsMerged m blocks t t' Changed = (a b jump : ℕ) × (values : List ℕ) × In a blocks × IsMergeable m t a b jump values
ReportsMerged m blocks t t' Unchanged = t' ≡ t
