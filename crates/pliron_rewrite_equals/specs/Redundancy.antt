-- Operations that do what another one did before them.
use Rattle.std.specs.Prelude.{◌≡◌, ◌≢◌, ℕ, Bool, [], Option, Some, length, slice_get}
use Rattle.pliron_core.specs.Changes.{IsDefinedInside}
use Rattle.pliron_core.specs.Tree.{Tree, In, IsInside, head_of, operands_of, successors_of, results_of, regions_of}
use Rattle.pliron_core.specs.Invariant.{IsTree}
use Rattle.pliron_core.specs.Writes.{after_replacing}
use Rattle.pliron_laws.specs.Datum.{Head, Meaning}
use Rattle.pliron_theory.specs.Keeps.{IsFit, KeepsRuns, KeepsAllRuns}
use Rattle.pliron_theory.specs.Rewrites.{HasNoSideEffects}
use Rattle.pliron_rewrite_equals.specs.OperationDominance.{DominatesOperation}

-- b has the head of a, its operands and as many results; it has neither successors nor regions, nor side effects
pub record AreAlike (side_effects : Head → Option Bool) (t : Tree) (a b : ℕ) : Type 0 where
  pub head : head_of t b ≡ head_of t a
  pub operands : operands_of t b ≡ operands_of t a
  pub results : length (results_of t b) ≡ length (results_of t a)
  pub no_successors : successors_of t b ≡ []
  pub none_of_first : successors_of t a ≡ []
  pub no_regions : regions_of t b ≡ []
  pub no_region_of_first : regions_of t a ≡ []
  pub harmless : HasNoSideEffects side_effects t b

-- something inside the operation uses a value that is defined outside it, so it is no isolated root
abbrev pub IsOpen : Tree → ℕ → Type 0
IsOpen t h = (user v : ℕ) × IsInside t h user × In v (operands_of t user) × (IsDefinedInside t h v → ⊥)

-- a dominates b and does the same; where b has no operands, each operation that has b but not a inside is open
pub record IsLeader (side_effects : Head → Option Bool) (t : Tree) (a b : ℕ) : Type 0 where
  pub apart : a ≢ b
  pub alike : AreAlike side_effects t a b
  pub before : DominatesOperation t a b
  pub near : operands_of t b ≡ [] → (h : ℕ) → IsInside t h b → (IsInside t h a → ⊥) → IsOpen t h

-- the uses of a result may become uses of the same result of an operation that is alike, wherever the two are, if
-- each fit root that has the one inside has the other inside, and the other dominates each of the uses
abbrev pub AlikeLaw : Meaning → (Head → Option Bool) → Type 0
AlikeLaw m side_effects = (t : Tree) (a b i old new : ℕ) → IsTree t → AreAlike side_effects t a b → slice_get (results_of t b) i ≡ Some old → slice_get (results_of t a) i ≡ Some new → ((root : ℕ) → IsFit m t root → IsInside t root b → IsInside t root a) → ((root : ℕ) → IsFit m t root → IsInside t root a → (user : ℕ) → In old (operands_of t user) → DominatesOperation t a user) → KeepsRuns m t (after_replacing t old new)

-- the uses of a result of an operation may become uses of the same result of its leader
abbrev pub LeaderLaw : Meaning → (Head → Option Bool) → Type 0
LeaderLaw m side_effects = (t : Tree) (a b i old new : ℕ) → IsTree t → IsLeader side_effects t a b → slice_get (results_of t b) i ≡ Some old → slice_get (results_of t a) i ≡ Some new → KeepsAllRuns m t (after_replacing t old new)
