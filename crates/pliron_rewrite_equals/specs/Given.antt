-- Results that are what the operation gave on the data that its operands still have.
use Rattle.std.specs.Prelude.{◌≡◌, ℕ, Bool, List, [], ◌∷◌, Some, None}
use Rattle.pliron_core.specs.Tree.{Tree, IsInside, successors_of}
use Rattle.pliron_core.specs.Invariant.{IsTree}
use Rattle.pliron_laws.specs.Datum.{Datum, Meaning, Give}
use Rattle.pliron_laws.specs.Tree.{Operation, op_at, shape_of}
use Rattle.pliron_laws.specs.States.{Environment, State, data_of}
use Rattle.pliron_laws.specs.Acting.{Comes}
use Rattle.pliron_theory.specs.Keeps.{IsFit}
use Rattle.pliron_theory.specs.Renaming.{RunReaches}
use Rattle.pliron_rewrite_equals.specs.OperationDominance.{DominatesOperation}

-- from a first input, which is what its operands have, the operation came to where it gave what its results have
pub record IsAsGiven (m : Meaning) (t : Tree) (env : Environment) (k : ℕ) : Type 0 where
  pub operation : Operation
  pub liveness : op_at t k ≡ Some operation
  pub first : List Datum
  pub has : data_of env operation.operands ≡ Some first
  pub later : Bool
  pub memo : Datum
  pub input : List Datum
  pub comes : Comes m.act (shape_of m t operation) first later memo input
  pub given : List Datum
  pub gives : m.act (shape_of m t operation) memo input ≡ Give given
  pub results : data_of env operation.results ≡ Some given

-- in a root that is fit to run, wherever a run comes to an operation behind one without successors, the results
-- of that one are what it gave on the data that its operands have there, whatever invocations and effects it
-- made
abbrev pub GivenLaw : Type 0
GivenLaw = (m : Meaning) (t : Tree) (root k : ℕ) → IsTree t → IsFit m t root → IsInside t root k → successors_of t k ≡ [] → (u : ℕ) (rest : List ℕ) (s : State) → DominatesOperation t k u → RunReaches m t root s → s.rest ≡ u ∷ rest → s.answer ≡ None → IsAsGiven m t s.environment k
