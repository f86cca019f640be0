-- A mergeable pair whose second block's arguments have no uses is merged.
use Rattle.std.specs.Prelude.{◌≡◌, ℕ, List, [], Some}
use Rattle.pliron_core.specs.Tree.{Tree, In, operands_of, results_of, regions_of, body_of, arguments_of, block_parent_operation_of}
use Rattle.pliron_core.specs.Invariant.{IsTree}
use Rattle.pliron_core.specs.Erased.{after_erasing}
use Rattle.pliron_laws.specs.Datum.{Meaning}
use Rattle.pliron_laws.specs.Linked.{EdgesLast}
use Rattle.pliron_theory.specs.Keeps.{KeepsAllRuns}
use Rattle.pliron_theory.specs.Splicing.{IsSpliced}
use Rattle.pliron_rewrite_blocks.specs.Pairs.{IsMergeable, all_moved_last, after_joining}

-- the second block's operations are at the end of the first one, and runs are kept
pub record JoinsWell (m : Meaning) (t : Tree) (a b jump : ℕ) : Type 0 where
  pub front : List ℕ
  pub spliced : IsSpliced t (after_joining t a b jump) a b jump front
  pub runs : KeepsAllRuns m t (after_joining t a b jump)

abbrev pub JoiningLaw : Meaning → Type 0
JoiningLaw m = (t : Tree) (holder a b jump : ℕ) (values : List ℕ) → IsTree t → IsTree (after_erasing t jump) → IsTree (all_moved_last (after_erasing t jump) (body_of t b) a) → IsTree (after_joining t a b jump) → EdgesLast t holder → block_parent_operation_of t a ≡ Some holder → IsMergeable m t a b jump values → regions_of t jump ≡ [] → results_of t jump ≡ [] → ((k v : ℕ) → In v (operands_of t k) → In v (arguments_of t b) → ⊥) → JoinsWell m t a b jump
