-- An edge to a block that only jumps leads where that block jumps to.
--
--     before:   ^a: branch ^e ^d          ^e: jump ^t(y)
--     after:    ^a: branch ^t(y) ^d       ^e: jump ^t(y)       other edges to ^e stay
use Rattle.std.specs.Prelude.{◌≡◌, ◌≢◌, ◌≤◌, ◌⊎◌, ℕ, List, [], ◌∷◌, ◌++◌, Some, None, length, slice_get}
use Rattle.pliron_core.specs.Tree.{Tree, In, IsLive, IsInside, row_of, operands_of, successors_of, results_of, regions_of, parent_of, body_of, arguments_of, block_parent_of, layout_of, slot_of}
use Rattle.pliron_core.specs.Invariant.{IsTree}
use Rattle.pliron_laws.specs.Datum.{Datum, Empty, Goto, Trap, Meaning}
use Rattle.pliron_laws.specs.Tree.{Operation, op_at, shape_of}
use Rattle.pliron_laws.specs.States.{Environment, State, data_of}
use Rattle.pliron_theory.specs.Keeps.{IsFit, KeepsRuns}
use Rattle.pliron_theory.specs.Renaming.{RunReaches}
use Rattle.pliron_theory.specs.Rebranching.{FitsInPlace}
use Rattle.pliron_rewrite_copies.specs.Adding.{MayNameMore}

-- the operation `op`, which ends the block a and leads to e, leads after to blocks that it led to, or to where e leads;
-- e is beside a and has the operation `jump` alone, which binds nothing, nor does e
pub record IsEdgeMoved (t u : Tree) (a op e jump : ℕ) (front : List ℕ) : Type 0 where
  pub split : body_of t a ≡ front ++ op ∷ []
  pub childless : regions_of t op ≡ []
  pub no_results : results_of t op ≡ []
  pub leads : In e (successors_of t op)
  pub apart : a ≢ e
  pub beside : block_parent_of t e ≡ block_parent_of t a
  pub only_jumps : body_of t e ≡ jump ∷ []
  pub no_arguments : arguments_of t e ≡ []
  pub no_values : results_of t jump ≡ []
  pub targets : (c : ℕ) → In c (successors_of u op) → (In c (successors_of t op) ⊎ In c (successors_of t jump)) × (block_parent_of t c ≡ block_parent_of t a)
  pub live : IsLive u op
  pub new_childless : regions_of u op ≡ []
  pub new_no_results : results_of u op ≡ []
  pub rows : (k : ℕ) → k ≢ op → row_of u k ≡ row_of t k
  pub operands : (k : ℕ) → k ≢ op → operands_of u k ≡ operands_of t k
  pub successors : (k : ℕ) → k ≢ op → successors_of u k ≡ successors_of t k
  pub parents : (k : ℕ) → parent_of u k ≡ parent_of t k
  pub bodies : (b : ℕ) → body_of u b ≡ body_of t b
  pub arguments : (b : ℕ) → arguments_of u b ≡ arguments_of t b
  pub block_parents : (b : ℕ) → block_parent_of u b ≡ block_parent_of t b
  pub layouts : (r : ℕ) → layout_of u r ≡ layout_of t r
  pub slots : (r : ℕ) → slot_of u r ≡ slot_of t r

-- in this environment the operation goes to a block at once, with these values
pub record Goes (m : Meaning) (t : Tree) (env : Environment) (x : Operation) : Type 0 where
  pub input : List Datum
  pub reads : data_of env x.operands ≡ Some input
  pub index : ℕ
  pub values : List Datum
  pub goes : m.act (shape_of m t x) Empty input ≡ Goto index values

-- they go to one block, with the same values
abbrev pub Meet : {m m' : Meaning} {t t' : Tree} {env env' : Environment} {x x' : Operation} → Goes m t env x → Goes m' t' env' x' → Type 0
Meet {x = x} {x' = x'} g g' = (slice_get x'.successors g'.index ≡ slice_get x.successors g.index) × (g'.values ≡ g.values)

-- the operation x of t and y of u, which take each other's place, both trap; or go to one block; or x goes to e with no
-- values, and y goes where the operation z of e goes
pub data GoesAlong (m : Meaning) (t u : Tree) (e : ℕ) (env : Environment) (x y z : Operation) : Type 0 where
  BothTrap : (first first' : List Datum) → data_of env x.operands ≡ Some first → data_of env y.operands ≡ Some first' → m.act (shape_of m t x) Empty first ≡ Trap → m.act (shape_of m u y) Empty first' ≡ Trap → GoesAlong m t u e env x y z
  SameBlock : (before : Goes m t env x) (after : Goes m u env y) → Meet before after → GoesAlong m t u e env x y z
  PastBlock : (before : Goes m t env x) (on : Goes m t env z) (after : Goes m u env y) → slice_get x.successors before.index ≡ Some e → before.values ≡ [] → Meet on after → GoesAlong m t u e env x y z

-- from the data that a run reads at op, it comes to the same block in both trees
abbrev pub LeadsAlong : Meaning → (t u : Tree) → (root op e jump : ℕ) → Type 0
LeadsAlong m t u root op e jump = (s : State) (rest : List ℕ) (x y z : Operation) → RunReaches m t root s → s.rest ≡ op ∷ rest → s.answer ≡ None → op_at t op ≡ Some x → op_at u op ≡ Some y → op_at t jump ≡ Some z → GoesAlong m t u e s.environment x y z

abbrev pub MovingLaw : Type 0
MovingLaw = (m : Meaning) (t u : Tree) (a op e jump : ℕ) (front : List ℕ) → IsTree t → IsTree u → IsEdgeMoved t u a op e jump front → length t.operations ≤ length u.operations → ((root : ℕ) → IsFit m t root → MayNameMore t u root op) → ((root : ℕ) → IsFit m t root → IsInside t root op → FitsInPlace m u op) → ((root : ℕ) → IsFit m t root → LeadsAlong m t u root op e jump) → KeepsRuns m t u
