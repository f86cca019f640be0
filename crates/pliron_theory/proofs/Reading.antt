-- What an operation reads in a root that is fit to run.
use Rattle.std.proofs.Common.{◌≡◌, ℕ, List, ◌∷◌, Some, None}
use Rattle.pliron_core.specs.Tree.{Tree, In, operands_of}
use Rattle.pliron_core.specs.Invariant.{IsTree}
use Rattle.pliron_laws.specs.Datum.{Datum, Meaning}
use Rattle.pliron_laws.specs.States.{State}
use Rattle.pliron_theory.specs.Keeps.{IsFit}
use Rattle.pliron_theory.specs.Renaming.{RunReaches}
use Rattle.pliron_theory.proofs.Bound.{IsBound, IsOnWay, IsReady, ready, way_kept, way_start}
use Rattle.pliron_theory.proofs.Reached.{reached_holds}

-- where a run stands at an operation's first move
pub ready_when_reached : (m : Meaning) (t : Tree) (root : ℕ) (w : IsTree t) (f : IsFit m t root) (s : State) → RunReaches m t root s → (k : ℕ) (rest : List ℕ) → s.rest ≡ k ∷ rest → s.answer ≡ None → IsReady t w root m f.linked.edges f.defined s k rest
ready_when_reached m t root w f s r k rest e none =
    ready t w root m f.linked.edges f.defined s (reached_holds m t root (IsOnWay t w root m f.linked.edges f.defined) (way_kept t w root m f.linked.edges f.defined) (way_start t w root m f.linked.edges f.defined) s r) k rest e none

pub read_data : (m : Meaning) (t : Tree) (root : ℕ) → IsTree t → IsFit m t root → (s : State) → RunReaches m t root s → (k v : ℕ) (rest : List ℕ) → s.rest ≡ k ∷ rest → s.answer ≡ None → In v (operands_of t k) → (d : Datum) × (s.environment v ≡ Some d)
unfolding IsBound
read_data m t root w f s r k v rest e none i = (ready_when_reached m t root w f s r k rest e none).bound v i
