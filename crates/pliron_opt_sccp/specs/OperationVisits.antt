-- What was visited, and what that did to the tables of the search.
use Rattle.std.specs.Prelude.{◌≡◌, ◌≤◌, ◌↔◌, ◌⊎◌, ℕ, Bool, true, false, List, [], ◌∷◌, Some, None, length, slice_get, IsTrue}
use Rattle.pliron_core.specs.Tree.{Tree, In, IsDistinct, arguments_of, first_of, layout_of, operands_of, parent_of, regions_of, results_of, successors_of}
use Rattle.pliron_laws.specs.Answers.{IsForwardedOnce}
use Rattle.pliron_laws.specs.Tree.{Operation, op_at, shape_of}
use Rattle.pliron_theory.specs.LatticeValues.{AtMost, LatticeValues, Says}
use Rattle.pliron_opt_sccp.specs.declared.constraints.Constraint.{Constraint}
use Rattle.pliron_opt_sccp.specs.declared.lattice_tables.Tables.{Tables}
use Rattle.pliron_opt_sccp.specs.declared.reactions.Reaction.{Reaction}
use Rattle.pliron_opt_sccp.specs.declared.reactions.Reaction.TheVariants.{Pass, Revisit, Ask}
use Rattle.pliron_opt_sccp.specs.LatticeTables.{known_constants, is_numbered, lattice_value_in, is_executable, is_block_on_worklist, is_value_on_worklist, lattice_values_of, visit_stamp, lowered_stamp, KeepsStamps, StampsLowered}
use Rattle.pliron_opt_sccp.specs.Constraints.{Constrains, SatisfiesAll}
use Rattle.pliron_opt_sccp.specs.Lowering.{IsApplied}
use Rattle.pliron_opt_sccp.specs.declared.feasible_edges.FeasibleEdges.{FeasibleEdges}
use Rattle.pliron_opt_sccp.specs.Feasible.{KeepsFeasible, leads}

abbrev pub either : Bool → Bool → Bool
either true b = true
either false b = b

-- the stamp of the last visit of the operation; one without results has none
abbrev pub stamp_of : Tables → (results : List ℕ) → ℕ
stamp_of s [] = 0
stamp_of s (first ∷ more) = visit_stamp s first

-- the stamps don't say that the operation was visited since the value was last lowered
abbrev pub IsVisitOutdated : Tree → Tables → (k v : ℕ) → Type 0
IsVisitOutdated t s k v = stamp_of s (results_of t k) ≤ lowered_stamp s v

-- the value is on the worklist, and calls for a visit of the operation
abbrev pub CallsForVisit : Tree → Tables → (k v : ℕ) → Type 0
CallsForVisit t s k v = (is_value_on_worklist s v ≡ true) × IsVisitOutdated t s k v

-- the visit of the operation may have got another stamp, and nothing else changed
pub record StampsIt (t : Tree) (k : ℕ) (s s' : Tables) : Type 0 where
  pub facts : (v : ℕ) → lattice_value_in s' v ≡ lattice_value_in s v
  pub reached : (b : ℕ) → is_executable s' b ≡ is_executable s b
  pub blocks : (b : ℕ) → is_block_on_worklist s' b ≡ is_block_on_worklist s b
  pub values : (v : ℕ) → is_value_on_worklist s' v ≡ is_value_on_worklist s v
  pub numbers : (b : ℕ) → is_numbered s' b ≡ is_numbered s b
  pub constants : known_constants s' ≡ known_constants s
  pub visit_stamps : (j : ℕ) → (j ≡ k → ⊥) → stamp_of s' (results_of t j) ≡ stamp_of s (results_of t j)
  pub lowered : (v : ℕ) → lowered_stamp s' v ≡ lowered_stamp s v

-- the visit of the operation was stamped, and no other, and so was what it lowered
pub record IsStamped (t : Tree) (k : ℕ) (s s' : Tables) : Type 0 where
  pub others : (j : ℕ) → (j ≡ k → ⊥) → stamp_of s' (results_of t j) ≡ stamp_of s (results_of t j)
  pub lowered : StampsLowered s s'

-- one operation was visited: its constraints under the lattice values before are satisfied, and nothing else
-- was done
pub record VisitsOperation (x : Says) (t : Tree) (k : ℕ) (s s' : Tables) : Type 0 where
  pub constraints : List Constraint
  pub asks : Constrains (known_constants s) x t (lattice_values_of s) k constraints
  pub applied : IsApplied (known_constants s) constraints s s'
  pub stamped : IsStamped t k s s'

-- the blocks that the operation may enter have numbers
pub record HasNumberedTargets (t : Tree) (s : Tables) (k : ℕ) : Type 0 where
  pub entries : (r b : ℕ) → In r (regions_of t k) → first_of (layout_of t r) None ≡ Some b → is_numbered s b ≡ true
  pub successors : (b : ℕ) → In b (successors_of t k) → is_numbered s b ≡ true

-- it is so for each operation in an executable block
abbrev pub AreTargetsNumbered : Tree → Tables → Type 0
AreTargetsNumbered t s = (k b : ℕ) → parent_of t k ≡ Some b → is_executable s b ≡ true → HasNumberedTargets t s k

-- these operations were visited in turn
pub data VisitsInTurn (x : Says) (t : Tree) : List ℕ → Tables → Tables → Type 0 where
  Nothing : {s : Tables} → VisitsInTurn x t [] s s
  Then : {s s' : Tables} {ks : List ℕ} (k : ℕ) (u : Tables) → VisitsOperation x t k s u → VisitsInTurn x t ks u s' → VisitsInTurn x t (k ∷ ks) s s'

-- these operations were visited in turn, and edges of theirs that were found feasible were kept
pub data VisitsInTurnAndKeeps (x : Says) (t : Tree) : List ℕ → (s s' : Tables) → (edges edges' : FeasibleEdges) → Type 0 where
  Nowhere : {s : Tables} {edges : FeasibleEdges} → VisitsInTurnAndKeeps x t [] s s edges edges
  Onward : {s s' : Tables} {edges edges' : FeasibleEdges} {ks : List ℕ} (k : ℕ) (u : Tables) (kept : FeasibleEdges) → VisitsOperation x t k s u → KeepsFeasible x t (lattice_values_of s) k edges kept → VisitsInTurnAndKeeps x t ks u s' kept edges' → VisitsInTurnAndKeeps x t (k ∷ ks) s s' edges edges'

-- the worklist of values was emptied, and nothing else changed; these were on it, each once
pub record PopsValues (taken : List ℕ) (s s' : Tables) : Type 0 where
  pub distinct : IsDistinct taken
  pub waited : (v : ℕ) → is_value_on_worklist s v ≡ true ↔ In v taken
  pub values : (v : ℕ) → is_value_on_worklist s' v ≡ false
  pub facts : (v : ℕ) → lattice_value_in s' v ≡ lattice_value_in s v
  pub reached : (b : ℕ) → is_executable s' b ≡ is_executable s b
  pub blocks : (b : ℕ) → is_block_on_worklist s' b ≡ is_block_on_worklist s b
  pub numbers : (b : ℕ) → is_numbered s' b ≡ is_numbered s b
  pub stamps : KeepsStamps s s'

-- the operation is in an executable block that was visited
pub record WasVisited (t : Tree) (s : Tables) (k : ℕ) : Type 0 where
  pub block : ℕ
  pub in_block : parent_of t k ≡ Some block
  pub reached : is_executable s block ≡ true
  pub taken : is_block_on_worklist s block ≡ false

-- the list grows by what is so, each once
pub record AddsEach (old new : List ℕ) (IsSo : ℕ → Type 0) : Type 0 where
  pub distinct : IsDistinct old → IsDistinct new
  pub members : (k : ℕ) → In k new ↔ (In k old ⊎ IsSo k)

-- an edge of the branch forwards its operand at this place to the argument
pub record Forwarded (x : Says) (t : Tree) (o : Operation) (place argument : ℕ) : Type 0 where
  pub branch : IsTrue (x.meaning.is_branch o.head)
  pub edge : ℕ
  pub block : ℕ
  pub index : ℕ
  pub successor : slice_get o.successors edge ≡ Some block
  pub is_argument : slice_get (arguments_of t block) index ≡ Some argument
  pub forwards : slice_get (x.meaning.forwarded (shape_of x.meaning t o) edge) index ≡ Some place

-- each edge of the operation to this block is feasible for sure: it doesn't fold as a branch, or they were found to be
abbrev pub IsOpenEdge : Says → Tables → FeasibleEdges → Operation → (k b : ℕ) → Type 0
IsOpenEdge x s edges o k b = (x.can_fold_branch o.head ≡ false) ⊎ ((is_executable s b ≡ true) × (leads edges k b ≡ true))

-- the operation names its operand at this place for the argument
pub record IsNamedArgument (x : Says) (t : Tree) (o : Operation) (place argument : ℕ) : Type 0 where
  pub region : ℕ
  pub key : ℕ
  pub entry : ℕ
  pub index : ℕ
  pub in_place : slice_get o.regions region ≡ Some key
  pub first : first_of (layout_of t key) None ≡ Some entry
  pub is_argument : slice_get (arguments_of t entry) index ≡ Some argument
  pub names : x.entry_operands (shape_of x.meaning t o) region index ≡ Some place

-- the argument receives the operand at this place of the operation k for sure: along an open edge, or since it
-- is named for it
abbrev pub IsPropagatedEagerly : Says → Tree → Tables → FeasibleEdges → Operation → (k place argument : ℕ) → Type 0
IsPropagatedEagerly x t s edges o k place argument = ((f : Forwarded x t o place argument) × IsOpenEdge x s edges o k f.block) ⊎ IsNamedArgument x t o place argument

-- new constraints are at most on the arguments that receive the value v from this place of the operation for
-- sure
pub record ConstrainsEagerly (x : Says) (t : Tree) (s : Tables) (edges : FeasibleEdges) (k place v : ℕ) (constraints constraints' : List Constraint) : Type 0 where
  pub more : (now : LatticeValues) → SatisfiesAll (known_constants s) now constraints' → SatisfiesAll (known_constants s) now constraints
  pub owed : (now : LatticeValues) → SatisfiesAll (known_constants s) now constraints → ((a : ℕ) (o : Operation) → op_at t k ≡ Some o → IsPropagatedEagerly x t s edges o k place a → AtMost (now.lattice_value a) (lattice_value_in s v)) → SatisfiesAll (known_constants s) now constraints'

-- the operation names no operand for an argument of an entry
abbrev pub NamesNone : Says → Tree → Operation → Type 0
NamesNone x t o = (i j : ℕ) → x.entry_operands (shape_of x.meaning t o) i j ≡ None

-- what is to be done where the operand at this place was lowered: nothing for what does not fold, names no
-- operand and is no branch; or it is forwarded to one argument alone, by something that does not fold and names
-- none
abbrev pub IsReactionTo : Says → Tree → (k place : ℕ) → Reaction → Type 0
IsReactionTo x t k place Pass = (o : Operation) → op_at t k ≡ Some o → (x.can_fold o.head ≡ false) × (x.can_fold_branch o.head ≡ false) × NamesNone x t o × (x.meaning.is_branch o.head ≡ false)
IsReactionTo x t k place Revisit = Unit {0}
IsReactionTo x t k place (Ask edge index) = ((o : Operation) → op_at t k ≡ Some o → (x.can_fold o.head ≡ false) × (x.can_fold_branch o.head ≡ false) × NamesNone x t o × IsTrue (x.meaning.is_branch o.head)) × IsForwardedOnce x.meaning t k place edge index

-- the operation does not fold, nor as a branch, and names no operand, and where these are satisfied, each
-- argument that receives its operand v from this place is at or below the lattice value of v
pub record IsConstrainedAt (x : Says) (t : Tree) (s : Tables) (constraints : List Constraint) (o : Operation) (place v : ℕ) : Type 0 where
  pub no_fold : x.can_fold o.head ≡ false
  pub no_jump : x.can_fold_branch o.head ≡ false
  pub names_none : NamesNone x t o
  pub below : (now : LatticeValues) → SatisfiesAll (known_constants s) now constraints → (a : ℕ) → Forwarded x t o place a → AtMost (now.lattice_value a) (lattice_value_in s v)

-- the uses of the value are scheduled: an operation that was visited and has it at such a place is to be
-- visited again, or has no more constraints than those listed, or was visited since the value was lowered; and
-- nothing else is added
pub record SchedulesUses (x : Says) (t : Tree) (s : Tables) (edges : FeasibleEdges) (v : ℕ) (IsUse : (k place : ℕ) → Type 0) (users : List ℕ) (constraints : List Constraint) (users' : List ℕ) (constraints' : List Constraint) : Type 0 where
  pub kept : (k : ℕ) → In k users → In k users'
  pub more : (now : LatticeValues) → SatisfiesAll (known_constants s) now constraints' → SatisfiesAll (known_constants s) now constraints
  pub only : (k : ℕ) → In k users' → In k users ⊎ (WasVisited t s k × ((place : ℕ) × IsUse k place))
  pub seen : (k place : ℕ) (o : Operation) → IsUse k place → IsVisitOutdated t s k v → WasVisited t s k → op_at t k ≡ Some o → In k users' ⊎ IsConstrainedAt x t s constraints' o place v
  pub owed : (now : LatticeValues) → SatisfiesAll (known_constants s) now constraints → ((k place a : ℕ) (o : Operation) → IsUse k place → WasVisited t s k → op_at t k ≡ Some o → IsPropagatedEagerly x t s edges o k place a → AtMost (now.lattice_value a) (lattice_value_in s v)) → SatisfiesAll (known_constants s) now constraints'

-- the operation has the value at this place
abbrev pub IsUseOf : Tree → (v k place : ℕ) → Type 0
IsUseOf t v k place = slice_get (operands_of t k) place ≡ Some v

-- the reactions to these values: their uses are scheduled, and there are no other constraints
pub record AreReactions (x : Says) (t : Tree) (s : Tables) (edges : FeasibleEdges) (values users : List ℕ) (constraints : List Constraint) : Type 0 where
  pub only : (k : ℕ) → In k users → WasVisited t s k × ((v : ℕ) × In v values)
  pub seen : (k place v : ℕ) (o : Operation) → In v values → IsUseOf t v k place → IsVisitOutdated t s k v → WasVisited t s k → op_at t k ≡ Some o → In k users ⊎ IsConstrainedAt x t s constraints o place v
  pub owed : (now : LatticeValues) → ((k place a v : ℕ) (o : Operation) → In v values → IsUseOf t v k place → WasVisited t s k → op_at t k ≡ Some o → IsPropagatedEagerly x t s edges o k place a → AtMost (now.lattice_value a) (lattice_value_in s v)) → SatisfiesAll (known_constants s) now constraints

-- all values on the worklist were popped, so many, and these are the reactions to them
pub record PopsUsers (x : Says) (t : Tree) (edges : FeasibleEdges) (users : List ℕ) (constraints : List Constraint) (s s' : Tables) (taken : ℕ) : Type 0 where
  pub values : List ℕ
  pub takes : PopsValues values s s'
  pub calls : AreReactions x t s' edges values users constraints
  pub counted : taken ≡ length values
