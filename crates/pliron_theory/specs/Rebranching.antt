-- Trees in which another branch took the place of a branch.
use Rattle.std.specs.Prelude.{◌≡◌, ◌≢◌, ℕ, List, [], ◌∷◌, ◌++◌, Some, None, length, slice_get, IsTrue}
use Rattle.pliron_core.specs.Tree.{Tree, In, row_of, head_of, operands_of, successors_of, results_of, regions_of, parent_of, body_of, arguments_of, block_parent_of, layout_of}
use Rattle.pliron_laws.specs.Datum.{Datum, Meaning}
use Rattle.pliron_laws.specs.Tree.{Operation, op_at, shape_of}
use Rattle.pliron_laws.specs.States.{State, data_of}
use Rattle.pliron_laws.specs.Acting.{ActAlike, PassesSame}
use Rattle.pliron_laws.specs.Linked.{IsAdmitted}
use Rattle.pliron_laws.specs.Replacing.{JumpsTo}
use Rattle.pliron_theory.specs.Renaming.{RunReaches}

-- the operation `new` took the place of `op`, which ended the block a and is erased; neither has results or
-- regions, and what `new` names `op` named
pub record IsRebranched (t t' : Tree) (a op new : ℕ) (front : List ℕ) : Type 0 where
  pub split : body_of t a ≡ front ++ op ∷ []
  pub put : body_of t' a ≡ front ++ new ∷ []
  pub fresh : head_of t new ≡ None
  pub deleted : head_of t' op ≡ None
  pub childless : regions_of t op ≡ []
  pub new_childless : regions_of t' new ≡ []
  pub no_results : results_of t op ≡ []
  pub new_no_results : results_of t' new ≡ []
  pub new_operands : (v : ℕ) → In v (operands_of t' new) → In v (operands_of t op)
  pub new_successors : (c : ℕ) → In c (successors_of t' new) → In c (successors_of t op)
  pub rows : (k : ℕ) → k ≢ op → k ≢ new → row_of t' k ≡ row_of t k
  pub operands : (k : ℕ) → k ≢ op → k ≢ new → operands_of t' k ≡ operands_of t k
  pub successors : (k : ℕ) → k ≢ op → k ≢ new → successors_of t' k ≡ successors_of t k
  pub parents : (k : ℕ) → k ≢ op → k ≢ new → parent_of t' k ≡ parent_of t k
  pub bodies : (c : ℕ) → c ≢ a → body_of t' c ≡ body_of t c
  pub arguments : (c : ℕ) → arguments_of t' c ≡ arguments_of t c
  pub block_parents : (c : ℕ) → block_parent_of t' c ≡ block_parent_of t c
  pub layouts : (r : ℕ) → layout_of t' r ≡ layout_of t r

-- from the data that a run reads at `op`, the operation `new` acts alike
abbrev pub ActsInPlace : Meaning → (t t' : Tree) → (root op new : ℕ) → Type 0
ActsInPlace m t t' root op new = (s : State) (rest : List ℕ) (o o' : Operation) (first : List Datum) → RunReaches m t root s → s.rest ≡ op ∷ rest → s.answer ≡ None → op_at t op ≡ Some o → op_at t' new ≡ Some o' → data_of s.environment o.operands ≡ Some first → (first' : List Datum) × (data_of s.environment o'.operands ≡ Some first') × ActAlike m.act PassesSame (JumpsTo (successors_of t op) (successors_of t' new)) (shape_of m t o) (shape_of m t' o') first first'

-- the dialect admits the operation, and it forwards as many values along each edge as the target has
-- arguments
pub record FitsInPlace (m : Meaning) (t' : Tree) (new : ℕ) : Type 0 where
  pub admitted : IsAdmitted m t' new
  pub forwards : (o : Operation) (i c : ℕ) → op_at t' new ≡ Some o → IsTrue (m.is_branch o.head) → slice_get o.successors i ≡ Some c → length (m.forwarded (shape_of m t' o) i) ≡ length (arguments_of t' c)
