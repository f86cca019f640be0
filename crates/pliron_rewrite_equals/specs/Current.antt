-- Results that are what the operation would give now.
use Rattle.std.specs.Prelude.{◌≡◌, ℕ, List, [], ◌∷◌, Some, None}
use Rattle.pliron_core.specs.Tree.{Tree, IsInside, successors_of}
use Rattle.pliron_core.specs.Invariant.{IsTree}
use Rattle.pliron_laws.specs.Datum.{Datum, Empty, Meaning, Give}
use Rattle.pliron_laws.specs.Tree.{Operation, op_at, shape_of}
use Rattle.pliron_laws.specs.States.{Environment, State, data_of}
use Rattle.pliron_theory.specs.Keeps.{IsFit}
use Rattle.pliron_theory.specs.Renaming.{RunReaches}
use Rattle.pliron_theory.specs.Sweeping.{GivesNow}
use Rattle.pliron_rewrite_equals.specs.OperationDominance.{DominatesOperation}

-- the results of the operation have the data that it gives on those that its operands have
pub record IsCurrent (m : Meaning) (t : Tree) (env : Environment) (k : ℕ) : Type 0 where
  pub operation : Operation
  pub liveness : op_at t k ≡ Some operation
  pub input : List Datum
  pub has : data_of env operation.operands ≡ Some input
  pub given : List Datum
  pub gives : m.act (shape_of m t operation) Empty input ≡ Give given
  pub results : data_of env operation.results ≡ Some given

-- in a root that is fit to run, wherever a run comes to an operation behind one that gives at once and has no
-- successors, the results of that one are what it would give there
abbrev pub CurrentLaw : Type 0
CurrentLaw = (m : Meaning) (t : Tree) (root k : ℕ) → IsTree t → IsFit m t root → IsInside t root k → successors_of t k ≡ [] → GivesNow m t k → (u : ℕ) (rest : List ℕ) (s : State) → DominatesOperation t k u → RunReaches m t root s → s.rest ≡ u ∷ rest → s.answer ≡ None → IsCurrent m t s.environment k
