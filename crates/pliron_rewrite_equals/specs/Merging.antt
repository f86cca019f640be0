-- All uses of an operation's results become uses of those of another, and it is erased.
use Rattle.std.specs.Prelude.{◌≡◌, ◌⊎◌, ◌<◌, ℕ, Bool, List, [], ◌∷◌, Option, take, length}
use Rattle.pliron_core.specs.Tree.{Tree, results_of}
use Rattle.pliron_core.specs.Invariant.{IsTree}
use Rattle.pliron_core.specs.Writes.{after_replacing}
use Rattle.pliron_core.specs.Erased.{after_erasing, IsSelfContained}
use Rattle.pliron_laws.specs.Datum.{Head, Meaning}
use Rattle.pliron_theory.specs.Keeps.{KeepsAllRuns}
use Rattle.pliron_rewrite_equals.specs.Redundancy.{IsLeader}

-- the uses of each of these values become uses of the one at its place among those
abbrev pub replaced_all : Tree → List ℕ → List ℕ → Tree
replaced_all t [] ws = t
replaced_all t (v ∷ vs) [] = t
replaced_all t (v ∷ vs) (w ∷ ws) = replaced_all (after_replacing t v w) vs ws

-- the uses of the first n results of b become uses of those of a
abbrev pub partly_merged : Tree → (a b n : ℕ) → Tree
partly_merged t a b n = replaced_all t (take n (results_of t b)) (take n (results_of t a))

-- of several results of b, the uses of the first ones became uses of those of a, those of one result after the other
pub record AreHandedOver (t t' : Tree) (a b : ℕ) : Type 0 where
  pub count : ℕ
  pub some : 0 < count
  pub fewer : count < length (results_of t b)
  pub tree : t' ≡ partly_merged t a b count

-- nothing changed, unless b has several results
abbrev pub IsPartlyMerged : (t t' : Tree) → (a b : ℕ) → Type 0
IsPartlyMerged t t' a b = (t' ≡ t) ⊎ AreHandedOver t t' a b

-- the uses of all results of b become uses of those of a
abbrev pub results_merged : Tree → (a b : ℕ) → Tree
results_merged t a b = replaced_all t (results_of t b) (results_of t a)

-- and b is erased
abbrev pub after_merging : Tree → (a b : ℕ) → Tree
after_merging t a b = after_erasing (results_merged t a b) b

-- where a is a leader of b, this keeps the runs of all roots; a is one still, and nothing uses the results of b
pub record MergingLaw (m : Meaning) (side_effects : Head → Option Bool) : Type 0 where
  pub runs : (t : Tree) (a b : ℕ) → IsTree t → IsLeader side_effects t a b → KeepsAllRuns m t (results_merged t a b)
  pub leads : (t : Tree) (a b : ℕ) → IsTree t → IsLeader side_effects t a b → IsLeader side_effects (results_merged t a b) a b
  pub partly : (t : Tree) (a b n : ℕ) → IsTree t → IsLeader side_effects t a b → KeepsAllRuns m t (partly_merged t a b n)
  pub deleted : (t : Tree) (a b : ℕ) → IsTree t → IsTree (after_merging t a b) → IsLeader side_effects t a b → KeepsAllRuns m t (after_merging t a b)
  pub contained : (t : Tree) (a b : ℕ) → IsTree t → IsLeader side_effects t a b → IsSelfContained (results_merged t a b) b
