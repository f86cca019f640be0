-- The constraints that an operation puts on lattice values and blocks, one by one.
use Rattle.std.specs.Prelude.{◌≡◌, ◌↔◌, ◌⊎◌, ◌<◌, ℕ, Bool, true, false, nat_eq, List, [], ◌∷◌, Option, Some, None, slice_get, IsTrue}
use Rattle.std.specs.HashSet.{HashSet, contains}
use Rattle.pliron_core.specs.declared.attrs.AttrObj.{AttrObj}
use Rattle.pliron_core.specs.Tree.{Tree, In, head_of, regions_of, successors_of, arguments_of, layout_of, first_of}
use Rattle.pliron_laws.specs.Datum.{Head, Meaning}
use Rattle.pliron_laws.specs.Tree.{Operation, op_at, shape_of}
use Rattle.pliron_laws.specs.Folding.{Feasible}
use Rattle.pliron_theory.specs.LatticeValues.{LatticeValue, Constant, NotAConstant, AtMost, value_of_answer, LatticeValues, Says, IsFeasibleEdge, Forwards, IsEntryExecutable, IsBelowNamed, AreBelowNamed}
use Rattle.pliron_opt_sccp.specs.declared.constraints.Constraint.{Constraint}
use Rattle.pliron_opt_sccp.specs.declared.constraints.Constraint.TheVariants.{Enter, Lower, Answer}
use Rattle.pliron_opt_sccp.specs.declared.lattice_tables.Tables.{Tables}
use Rattle.pliron_opt_sccp.specs.LatticeCells.{Means}
use Rattle.pliron_opt_sccp.specs.LatticeTables.{known_constants, lowest_lattice_values}
use Rattle.pliron_opt_sccp.specs.Settling.{AreAtMost, IsSatisfied}

-- the block is executable, or the value's lattice value is at or below what the cell means by these constants,
-- or at or below this constant
abbrev pub Satisfies : List AttrObj → LatticeValues → Constraint → Type 0
Satisfies constants now (Enter b) = IsTrue (now.is_executable b)
Satisfies constants now (Lower v cell) = (f : LatticeValue) × Means constants cell f × AtMost (now.lattice_value v) f
Satisfies constants now (Answer v c) = AtMost (now.lattice_value v) (Constant c)

abbrev pub SatisfiesAll : List AttrObj → LatticeValues → List Constraint → Type 0
SatisfiesAll constants now [] = Unit {0}
SatisfiesAll constants now (d ∷ ds) = Satisfies constants now d × SatisfiesAll constants now ds

-- these tables have a number for each block and each constant of the constraints
abbrev pub CanSatisfy : Tables → List Constraint → Type 0
CanSatisfy s constraints = SatisfiesAll (known_constants s) (lowest_lattice_values s) constraints

-- the constraints now are those before, and this one
abbrev pub Adds : List AttrObj → (old new : List Constraint) → (LatticeValues → Type 0) → Type 0
Adds constants old new P = (now : LatticeValues) → SatisfiesAll constants now new ↔ (SatisfiesAll constants now old × P now)

-- whatever the constants are
abbrev pub AlwaysAdds : (old new : List Constraint) → (LatticeValues → Type 0) → Type 0
AlwaysAdds old new P = (constants : List AttrObj) → Adds constants old new P

-- it is so for lattice values at or below f
abbrev pub AddsUnder : LatticeValues → List AttrObj → (old new : List Constraint) → (LatticeValues → Type 0) → Type 0
AddsUnder f constants old new P = (now : LatticeValues) → AreAtMost now f → SatisfiesAll constants now new ↔ (SatisfiesAll constants now old × P now)

-- each of these blocks is entered
abbrev pub AreEntriesExecutable : {S : Type 0} → Tree → LatticeValues → HashSet ℕ S → Type 0
AreEntriesExecutable t now blocks = (b : ℕ) → contains nat_eq blocks b ≡ true → IsEntryExecutable t now b

-- lattice values at or below f that satisfy the constraints enter each of these blocks
abbrev pub AreEntriesExecutableWhere : {S : Type 0} → List AttrObj → Tree → LatticeValues → List Constraint → HashSet ℕ S → Type 0
AreEntriesExecutableWhere constants t f constraints blocks = (now : LatticeValues) → AreAtMost now f → SatisfiesAll constants now constraints → AreEntriesExecutable t now blocks

-- an entry is due unless the block is among the first ones; the second ones have none but these and it
abbrev pub RecordsEntry : {S : Type 0} → ℕ → (blocks blocks' : HashSet ℕ S) → (due : Bool) → Type 0
RecordsEntry block blocks blocks' due = (due ≡ false → contains nat_eq blocks block ≡ true) × ((b : ℕ) → contains nat_eq blocks' b ≡ true → (contains nat_eq blocks b ≡ true) ⊎ (b ≡ block))

-- the items before index i are so
abbrev pub EachBefore : List ℕ → ℕ → (ℕ → ℕ → Type 0) → Type 0
EachBefore xs i Q = (j x : ℕ) → j < i → slice_get xs j ≡ Some x → Q j x

-- the constraints of the root
abbrev pub ConstrainsEntries : Tree → ℕ → LatticeValues → Type 0
ConstrainsEntries t op now = (r b : ℕ) → In r (regions_of t op) → first_of (layout_of t r) None ≡ Some b → IsEntryExecutable t now b

-- the block is the entry of the operation's region with this index
abbrev pub IsEntryOf : Tree → (op i b : ℕ) → Type 0
IsEntryOf t op i b = (r : ℕ) × (slice_get (regions_of t op) i ≡ Some r) × (first_of (layout_of t r) None ≡ Some b)

-- the entries of the operation are executable, and their arguments at or below what it names for them, as it
-- was read
abbrev pub ConstrainsInvocations : Says → Tree → LatticeValues → Operation → LatticeValues → Type 0
ConstrainsInvocations x t f o now = (i r b : ℕ) → slice_get o.regions i ≡ Some r → first_of (layout_of t r) None ≡ Some b → IsTrue (now.is_executable b) × AreBelowNamed x t now.lattice_value f.lattice_value o i b

abbrev pub ConstrainsJumps : Tree → ℕ → LatticeValues → Type 0
ConstrainsJumps t op now = (i b : ℕ) → slice_get (successors_of t op) i ≡ Some b → IsEntryExecutable t now b

-- the block is executable, and each argument that receives one of these values is at or below its lattice value
abbrev pub ConstrainsForwarded : Tree → LatticeValues → ℕ → List ℕ → LatticeValues → Type 0
ConstrainsForwarded t f b values now = IsTrue (now.is_executable b) × ((j v w : ℕ) → slice_get (arguments_of t b) j ≡ Some v → slice_get values j ≡ Some w → AtMost (now.lattice_value v) (f.lattice_value w))

-- the operation doesn't fold as a branch, or it does and these are the blocks that it may go to
abbrev pub AreFeasible : {S : Type 0} → Meaning → (Head → Bool) → Feasible → Tree → ℕ → List (Option AttrObj) → Option (HashSet ℕ S) → Type 0
AreFeasible m can_fold feasible t op known None = (h : Head) → head_of t op ≡ Some h → can_fold h ≡ false
AreFeasible m can_fold feasible t op known (Some blocks) = (o : Operation) → op_at t op ≡ Some o → IsTrue (can_fold o.head) × ((b : ℕ) → IsTrue (contains nat_eq blocks b) ↔ In b (feasible (shape_of m t o) o.successors known))

-- where the branch may go, the block is executable, with what the edge forwards
abbrev pub ConstrainsBranches : Says → Tree → LatticeValues → Operation → LatticeValues → Type 0
ConstrainsBranches x t f o now = (i b : ℕ) → IsFeasibleEdge x t f o i b → IsTrue (now.is_executable b) × ((j v w : ℕ) → slice_get (arguments_of t b) j ≡ Some v → Forwards x t o i j w → AtMost (now.lattice_value v) (f.lattice_value w))

-- each result is at or below its answer
abbrev pub ConstrainsAnswers : List ℕ → List (Option AttrObj) → LatticeValues → Type 0
ConstrainsAnswers results answers now = (i v : ℕ) (a : Option AttrObj) → slice_get results i ≡ Some v → slice_get answers i ≡ Some a → AtMost (now.lattice_value v) (value_of_answer a)

-- results of what folds are at or below these answers, other results are not constants
abbrev pub ConstrainsResults : (Head → Bool) → List (Option AttrObj) → Operation → LatticeValues → Type 0
ConstrainsResults can_fold answers o now = (IsTrue (can_fold o.head) → ConstrainsAnswers o.results answers now) × (can_fold o.head ≡ false → (v : ℕ) → In v o.results → now.lattice_value v ≡ NotAConstant)

-- whether one of these is the block, where there are any
abbrev pub MayLead : {S : Type 0} → Option (HashSet ℕ S) → ℕ → Bool → Type 0
MayLead None b answer = IsTrue answer
MayLead (Some blocks) b answer = answer ≡ contains nat_eq blocks b

-- lattice values at or below f satisfy all the constraints exactly if they satisfy the operation, as it was
-- read under f
abbrev pub Constrains : List AttrObj → Says → Tree → LatticeValues → ℕ → List Constraint → Type 0
Constrains constants x t f op constraints = (o : Operation) → op_at t op ≡ Some o → (now : LatticeValues) → AreAtMost now f → SatisfiesAll constants now constraints ↔ IsSatisfied x t f now op o

-- the constraint for the item at one index
abbrev pub IsNotConstant : LatticeValues → (j v : ℕ) → Type 0
IsNotConstant now j v = now.lattice_value v ≡ NotAConstant

abbrev pub EntryIsExecutable : Tree → LatticeValues → (j r : ℕ) → Type 0
EntryIsExecutable t now j r = (b : ℕ) → first_of (layout_of t r) None ≡ Some b → IsEntryExecutable t now b

abbrev pub InvocationIsExecutable : Says → Tree → LatticeValues → Operation → LatticeValues → (i r : ℕ) → Type 0
InvocationIsExecutable x t f o now i r = (b : ℕ) → first_of (layout_of t r) None ≡ Some b → IsTrue (now.is_executable b) × AreBelowNamed x t now.lattice_value f.lattice_value o i b

abbrev pub GetsNamed : Says → Tree → LatticeValues → Operation → ℕ → LatticeValues → (j v : ℕ) → Type 0
GetsNamed x t f o i now j v = IsBelowNamed now.lattice_value f.lattice_value o.operands (x.entry_operands (shape_of x.meaning t o) i j) v

abbrev pub GetsAnswer : List (Option AttrObj) → LatticeValues → (i v : ℕ) → Type 0
GetsAnswer answers now i v = (a : Option AttrObj) → slice_get answers i ≡ Some a → AtMost (now.lattice_value v) (value_of_answer a)

abbrev pub GetsForwarded : LatticeValues → List ℕ → LatticeValues → (j v : ℕ) → Type 0
GetsForwarded f values now j v = (w : ℕ) → slice_get values j ≡ Some w → AtMost (now.lattice_value v) (f.lattice_value w)

abbrev pub FollowsEdge : Says → Tree → LatticeValues → Operation → LatticeValues → (i b : ℕ) → Type 0
FollowsEdge x t f o now i b = IsFeasibleEdge x t f o i b → IsTrue (now.is_executable b) × ((j v w : ℕ) → slice_get (arguments_of t b) j ≡ Some v → Forwards x t o i j w → AtMost (now.lattice_value v) (f.lattice_value w))

-- where it is a branch the constraints of that, else that each successor is entered
abbrev pub ConstrainsEdges : Says → Tree → LatticeValues → ℕ → Operation → LatticeValues → Type 0
ConstrainsEdges x t f op o now = (IsTrue (x.meaning.is_branch o.head) → ConstrainsBranches x t f o now) × (x.meaning.is_branch o.head ≡ false → ConstrainsJumps t op now)
