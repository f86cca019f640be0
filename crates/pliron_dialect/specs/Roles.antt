-- What operations are and do, under any meaning of what a dialect computes of data that it does not know.
use Rattle.std.proofs.Common.{refl}
use Rattle.std.specs.Prelude.{◌≡◌, ◌<◌, ◌-◌, ℕ, zero, suc, nat_eq, nat_lt, not, Bool, true, false, ◌&&◌, List, [], ◌∷◌, Option, Some, None, is_some, IsSome, option_map, take, drop, map, length, slice_get, slice_index_or, IsTrue, ℤ, pos, negsuc}
use Rattle.std.specs.List.{range_with_len}
use Rattle.pliron_core.specs.declared.attrs.Head.{Head}
use Rattle.pliron_core.specs.declared.attrs.AttrObj.{AttrObj}
use Rattle.pliron_core.specs.declared.attrs.AttrObj.TheVariants.{Int}
use Rattle.pliron_laws.specs.Datum.{Datum, Empty, Number, Text, Join, datum_of, Shape, Move, Give, Visit, Goto, Leave, Emit, Trap, Meaning}
use Rattle.pliron_laws.specs.Laws.{CountsFit}
use Rattle.pliron_laws.specs.Entries.{EntryOperands}
use Rattle.pliron_laws.specs.declared.dialect.Interface.{Interface}
use Rattle.pliron_laws.specs.declared.dialect.Interface.TheVariants.{SideEffects, BlockArgRemoval, ConstFold, BranchFold, Branch, Terminator, RegionBranch}
use Rattle.pliron_dialect.specs.declared.form.Form.{Form}
use Rattle.pliron_dialect.specs.declared.form.Counting.{Counting}
use Rattle.pliron_dialect.specs.declared.form.Counting.TheVariants.{OfFirst, OfEach}
use Rattle.pliron_dialect.specs.declared.form.Otherwise.{Otherwise}
use Rattle.pliron_dialect.specs.declared.form.Otherwise.TheVariants.{Says, Never, Traps}
use Rattle.pliron_laws.specs.Acting.{Act, Comes}
use Rattle.pliron_dialect.specs.declared.identity.Identity.{Identity}
use Rattle.std.specs.Option.{option_or}
use Rattle.pliron_dialect.specs.Identities.{no_identity, place_in, place_known, given_in, given_known, IdentityHolds}
use Rattle.pliron_dialect.specs.declared.form.Form.TheVariants.{Constant as ConstantForm, Folds as FoldsForm, Picks as PicksForm, Opaque as OpaqueForm, Jumps as JumpsForm, Chooses as ChoosesForm, Leaves as LeavesForm, Stops as StopsForm, Acts as ActsForm, Names as NamesForm, Forks as ForksForm, Holds as HoldsForm}
use Rattle.pliron_dialect.specs.Counted.{counts_by, counts_fit, count_of, counted_attributes, values_of_edge, capped_places, fewer_by}
use Rattle.pliron_dialect.specs.Counts.{only_successor}

-- what an operation with this head gives of these data, where no table says it: any function
abbrev pub Interpretation : Type 0
Interpretation = Head → List Datum → List Datum

-- whether there may be an operation with this head and so many operands, results, successors and regions
abbrev pub Allows : Type 0
Allows = Head → (a b c d : ℕ) → Bool

pub data Role : Type 0 where
  -- it has no operands, and gives the datum of its first attribute
  Constant : Role
  -- it has so many operands, and gives what is known of their numbers to be computed. Where that is nothing, the
  -- interpretation says what it gives, or that never is so, or it traps. `Says`: before what is computed it gives the
  -- operand that is left as it is, or the number that is given whatever the other data are; else the identity is a fact
  -- about what is computed
  Folds : (operands : ℕ) (knows : Head → List (Option ℤ) → Option ℤ) (identity : Head → Identity) (otherwise : Otherwise) → Role
  -- it gives its second operand where its first one is true, its third where that is false
  Picks : (truth : ℤ → Option Bool) → Role
  -- it gives what the interpretation says
  Opaque : Role
  -- it jumps to its one successor, with its operands
  Jumps : Role
  -- it jumps to the successor that is chosen by its first operand and by the attributes behind the counts, where there
  -- is one
  Chooses : (counting : Counting) (choose : ℕ → List AttrObj → ℤ → Option ℕ) → Role
  -- it leaves the region with its operands
  Leaves : Role
  -- it traps
  Stops : Role
  -- it has no successors, and acts as its own table says; whether it says that it has side effects, and whether it says
  -- that arguments of all blocks but entries may be removed
  Acts : (says removes : Bool) (act : Act) → Role
  -- so does what also names, of so many operands, the one that each visit of a region passes as an argument of its entry
  Names : (act : Act) (named : ℕ → ℕ → ℕ → Option ℕ) → Role
  -- it has successors, is no branch, and acts as its own table says; whether it says that it has side effects
  Forks : (says : Bool) (act : Act) → Role
  -- it gives nothing, and no region of it is ever visited; whether it says that it has no side effects, and that all
  -- arguments may be removed
  Holds : (says : Bool) → Role

-- ---- forms

-- a role without its functions
abbrev pub form_of : Role → Form
form_of Constant = ConstantForm
form_of (Folds n knows identity otherwise) = FoldsForm n otherwise
form_of (Picks truth) = PicksForm
form_of Opaque = OpaqueForm
form_of Jumps = JumpsForm
form_of (Chooses counting choose) = ChoosesForm counting
form_of Leaves = LeavesForm
form_of Stops = StopsForm
form_of (Acts says removes act) = ActsForm says removes
form_of (Names act named) = NamesForm
form_of (Forks says act) = ForksForm says
form_of (Holds says) = HoldsForm says

abbrev pub by_form : {A : Type 0} → A → (Form → A) → Option Form → A
by_form other table None = other
by_form other table (Some f) = table f

abbrev pub ends_block : Form → Bool
ends_block JumpsForm = true
ends_block (ChoosesForm counting) = true
ends_block LeavesForm = true
ends_block StopsForm = true
ends_block (ForksForm says) = true
ends_block _ = false

abbrev pub branches : Form → Bool
branches JumpsForm = true
branches (ChoosesForm counting) = true
branches _ = false

abbrev pub folds_of : Form → Bool
folds_of ConstantForm = true
folds_of (FoldsForm n otherwise) = true
folds_of PicksForm = true
folds_of _ = false

abbrev pub folds_branch_of : Form → Bool
folds_branch_of (ChoosesForm counting) = true
folds_branch_of _ = false

abbrev pub is_naming : Form → Bool
is_naming NamesForm = true
is_naming _ = false

abbrev pub may_trap : Otherwise → Bool
may_trap Traps = true
may_trap _ = false

abbrev pub if_said : Bool → Bool → Option Bool
if_said true b = Some b
if_said false b = None

-- what gives its results at once has no side effects; what may trap, and what the world decides, has some
abbrev pub effects_of : Form → Option Bool
effects_of ConstantForm = Some false
effects_of (FoldsForm n otherwise) = Some (may_trap otherwise)
effects_of PicksForm = Some false
effects_of OpaqueForm = Some false
effects_of (ActsForm says removes) = if_said says true
effects_of NamesForm = Some true
effects_of (ForksForm says) = if_said says true
effects_of (HoldsForm says) = if_said says false
effects_of _ = None

-- where it is said, arguments of all blocks of a region but its entry may be removed; those of a region that is never
-- visited all may
abbrev pub removable_of : Form → Bool → Option Bool
removable_of (ActsForm says removes) entry = if_said removes (not entry)
removable_of NamesForm entry = Some (not entry)
removable_of (HoldsForm says) entry = if_said says true
removable_of _ entry = None

abbrev pub no_removal : Bool → Option Bool
no_removal entry = None

-- a form implements the interfaces on which it has an answer
abbrev pub interface_of : Interface → Form → Bool
interface_of SideEffects f = is_some (effects_of f)
interface_of BlockArgRemoval f = is_some (removable_of f true)
interface_of ConstFold f = folds_of f
interface_of BranchFold f = folds_branch_of f
interface_of Branch f = branches f
interface_of Terminator f = ends_block f
interface_of RegionBranch f = is_naming f

-- the forms of the operations by number
abbrev pub form_at : (ℕ → Option Role) → ℕ → Option Form
form_at roles n = option_map form_of (roles n)

-- a datum as a number, where all but numbers count as 0
abbrev pub number_of : Datum → ℤ
number_of (Number n) = n
number_of Empty = pos 0
number_of (Text s) = pos 0
number_of (Join a b) = pos 0

abbrev pub numbers_of : List Datum → List ℤ
numbers_of ds = map number_of ds

abbrev pub is_zero : ℤ → Bool
is_zero (pos zero) = true
is_zero (pos (suc n)) = false
is_zero (negsuc n) = false

abbrev pub first_number : List Datum → ℤ
first_number [] = pos 0
first_number (d ∷ ds) = number_of d

-- so many data: cut, or filled with nothing
abbrev pub fit_data : ℕ → List Datum → List Datum
fit_data zero ds = []
fit_data (suc n) [] = Empty ∷ fit_data n []
fit_data (suc n) (d ∷ ds) = d ∷ fit_data n ds

-- the data in a chain, and a chain of data
abbrev pub chain_of : List Datum → Datum
chain_of [] = Empty
chain_of (d ∷ ds) = Join d (chain_of ds)

abbrev pub data_in : Datum → List Datum
data_in (Join d ds) = d ∷ data_in ds
data_in Empty = []
data_in (Number n) = []
data_in (Text s) = []

-- ---- moves that the world decides

-- what the world is given of an operation: its kind, its attributes and its operands
abbrev pub effect_of : Head → List Datum → Datum
effect_of h input = Join (Number (pos h.kind)) (Join (chain_of (map datum_of h.attrs)) (chain_of input))

abbrev pub first_datum : List Datum → Datum
first_datum [] = Empty
first_datum (d ∷ ds) = d

-- after any effect the world's answer has the results
abbrev pub memo_after_effect : Datum
memo_after_effect = Number (pos 1)

abbrev pub ask_world_first : Datum → Shape → List Datum → Move → Move
ask_world_first Empty s input after = Emit (effect_of s.head input) memo_after_effect
ask_world_first (Number n) s input after = after
ask_world_first (Text t) s input after = after
ask_world_first (Join a b) s input after = after

abbrev pub effect_act : Shape → Datum → List Datum → Move
effect_act s memo input = ask_world_first memo s input (Give (fit_data s.results (data_in (first_datum input))))

-- an operation about whose regions nothing is known: after each effect the world says which region is visited next and
-- with what, or what the operation gives; after each visit the world is given what that visit gave
abbrev pub memo_of_unknown_regions : Datum
memo_of_unknown_regions = Text []

abbrev pub region_answer : Shape → Datum → Move
region_answer s (Join (Number (pos i)) ds) = Visit i (fit_data (slice_index_or s.entry_arguments i 0) (data_in ds)) memo_of_unknown_regions
region_answer s (Join (Number (negsuc i)) ds) = Give (fit_data s.results (data_in ds))
region_answer s (Join d ds) = Give (fit_data s.results (d ∷ data_in ds))
region_answer s d = Give (fit_data s.results [])

abbrev pub region_act : Shape → Datum → List Datum → Move
region_act s Empty input = Emit (effect_of s.head input) memo_after_effect
region_act s (Number n) input = region_answer s (first_datum input)
region_act s (Text t) input = Emit (chain_of input) memo_after_effect
region_act s (Join a b) input = Trap

-- a terminator of which nothing is known: the world says which successor is next, and with what, or it leaves
abbrev pub arguments_at : Option (List ℕ) → ℕ → ℕ
arguments_at None i = 0
arguments_at (Some counts) i = slice_index_or counts i 0

abbrev pub fork_answer : Shape → Datum → Move
fork_answer s (Join (Number (pos i)) ds) = Goto i (fit_data (arguments_at s.target_arguments i) (data_in ds))
fork_answer s d = Leave (data_in d)

abbrev pub fork_act : Shape → Datum → List Datum → Move
fork_act s memo input = ask_world_first memo s input (fork_answer s (first_datum input))

-- ---- what each role does

abbrev pub results_given : Interpretation → Head → List Datum → Option ℤ → List Datum
results_given value h input (Some n) = Number n ∷ []
results_given value h input None = fit_data 1 (value h input)

abbrev pub nth_datum : List Datum → ℕ → Datum
nth_datum ds i = slice_index_or ds i Empty

-- the operand at a place, or else these data
abbrev pub operand_left : List Datum → Option ℕ → List Datum → List Datum
operand_left input (Some p) ds = nth_datum input p ∷ []
operand_left input None ds = ds

-- what is picked, where the truth of the first operand is known
abbrev pub operands_picked : Interpretation → Head → List Datum → Option Bool → List Datum
operands_picked value h input (Some true) = nth_datum input 1 ∷ []
operands_picked value h input (Some false) = nth_datum input 2 ∷ []
operands_picked value h input None = fit_data 1 (value h input)

abbrev pub index_in : ℤ → ℕ
index_in (pos n) = n
index_in (negsuc n) = 0

-- the head without the counts of edges
abbrev pub head_without_counts : Counting → Shape → Head
head_without_counts counting s = record s.head { attrs = drop (counted_attributes counting s.successors) s.head.attrs }

abbrev pub edge_or : Interpretation → Head → List Datum → Option ℕ → ℕ
edge_or value h ds (Some i) = i
edge_or value h ds None = index_in (first_number (value h ds))

-- the edge that a table knows, and the one that is taken: else the interpretation says it
abbrev pub chosen_edge : Counting → (ℕ → List AttrObj → ℤ → Option ℕ) → Shape → ℤ → Option ℕ
chosen_edge counting choose s c = choose s.head.kind (drop (counted_attributes counting s.successors) s.head.attrs) c

abbrev pub edge_chosen : Interpretation → Counting → (ℕ → List AttrObj → ℤ → Option ℕ) → Shape → List Datum → ℕ
edge_chosen value counting choose s input = edge_or value (head_without_counts counting s) (take 1 input) (chosen_edge counting choose s (first_number input))

abbrev pub edge_counts_of : Counting → Shape → List ℕ
edge_counts_of counting s = counts_by counting s.successors s.operands s.head.attrs

-- what is computed where all numbers are known
abbrev pub complete : (Head → List (Option ℤ) → Option ℤ) → Head → List ℤ → Option ℤ
complete knows h ns = knows h (map Some ns)

-- what is computed, or a trap
abbrev pub give_or_trap : Option ℤ → Move
give_or_trap None = Trap
give_or_trap (Some n) = Give (Number n ∷ [])

abbrev pub folds_to : Otherwise → Interpretation → Head → Identity → (List ℤ → Option ℤ) → List Datum → Move
folds_to Says value h i result input = Give (operand_left input (place_in i input) (results_given value h input (option_or (given_in i input) (result (numbers_of input)))))
folds_to Never value h i result input = give_or_trap (result (numbers_of input))
folds_to Traps value h i result input = give_or_trap (result (numbers_of input))

abbrev pub first_attribute : List AttrObj → AttrObj
first_attribute [] = Int (pos 0)
first_attribute (a ∷ attrs) = a

abbrev pub act_of : Interpretation → Role → Shape → Datum → List Datum → Move
act_of value Constant s memo input = Give (datum_of (first_attribute s.head.attrs) ∷ [])
act_of value (Folds n knows identity otherwise) s memo input = folds_to otherwise value s.head (identity s.head) (complete knows s.head) input
act_of value (Picks truth) s memo input = Give (operands_picked value s.head input (truth (first_number input)))
act_of value Opaque s memo input = Give (fit_data s.results (value s.head input))
act_of value Jumps s memo input = Goto 0 input
act_of value (Chooses counting choose) s memo input = Goto (edge_chosen value counting choose s input) (values_of_edge (edge_counts_of counting s) (edge_chosen value counting choose s input) input)
act_of value Leaves s memo input = Leave input
act_of value Stops s memo input = Trap
act_of value (Acts says removes act) s memo input = act s memo input
act_of value (Names act named) s memo input = act s memo input
act_of value (Forks says act) s memo input = act s memo input
act_of value (Holds says) s memo input = Give []

-- ---- which operations there are

abbrev pub has_some : List AttrObj → Bool
has_some [] = false
has_some (a ∷ attrs) = true

abbrev pub takes_by : Head → (a b c d : ℕ) → Role → Bool
takes_by h a b c d Constant = has_some h.attrs && (nat_eq a 0 && (nat_eq b 1 && (nat_eq c 0 && nat_eq d 0)))
takes_by h a b c d (Folds n knows identity otherwise) = nat_eq a n && (nat_eq b 1 && (nat_eq c 0 && nat_eq d 0))
takes_by h a b c d (Picks truth) = nat_eq a 3 && (nat_eq b 1 && (nat_eq c 0 && nat_eq d 0))
takes_by h a b c d Opaque = nat_eq c 0 && nat_eq d 0
takes_by h a b c d Jumps = nat_eq b 0 && (nat_eq c 1 && nat_eq d 0)
takes_by h a b c d (Chooses counting choose) = counts_fit counting h.attrs c a && (nat_eq b 0 && (nat_lt 1 c && nat_eq d 0))
takes_by h a b c d Leaves = nat_eq b 0 && (nat_eq c 0 && nat_eq d 0)
takes_by h a b c d Stops = nat_eq c 0
takes_by h a b c d (Acts says removes act) = nat_eq c 0
takes_by h a b c d (Names act named) = nat_eq c 0
takes_by h a b c d (Forks says act) = nat_lt 0 c
takes_by h a b c d (Holds says) = nat_eq b 0 && nat_eq c 0

abbrev pub by_role : {A : Type 0} → A → (Role → A) → Option Role → A
by_role other table None = other
by_role other table (Some r) = table r

abbrev pub no_act : Shape → Datum → List Datum → Move
no_act s memo input = Trap

abbrev pub jump_range : ℕ → ℕ → List ℕ
jump_range a zero = range_with_len 0 a
jump_range a (suc i) = []

-- by the attributes, how many operands and successors there are, and the edge
abbrev pub places_by_form : Form → List AttrObj → ℕ → ℕ → ℕ → List ℕ
places_by_form JumpsForm attrs a c i = jump_range a i
places_by_form (ChoosesForm counting) attrs a c i = capped_places a (counts_by counting c a attrs) i
places_by_form _ attrs a c i = []

abbrev pub no_places : List AttrObj → ℕ → ℕ → ℕ → List ℕ
no_places attrs a c i = []

abbrev pub places_by : Shape → ℕ → Role → List ℕ
places_by s i r = places_by_form (form_of r) s.head.attrs s.operands s.successors i

unfoldable pub meaning_by : Interpretation → (ℕ → Option Role) → Allows → Meaning
meaning_by value roles allows = record {
  act = λ s memo input. by_role no_act (act_of value) (roles s.head.kind) s memo input;
  admits = λ h a b c d. by_role false (takes_by h a b c d) (roles h.kind) && allows h a b c d;
  may_be_root = λ h. not (by_form false is_naming (option_map form_of (roles h.kind)));
  is_terminator = λ h. by_form false ends_block (option_map form_of (roles h.kind));
  is_branch = λ h. by_form false branches (option_map form_of (roles h.kind));
  forwarded = λ s i. by_role [] (places_by s i) (roles s.head.kind);
}

-- an operation of the role that is admitted
abbrev pub Fits : Allows → Role → Shape → Type 0
Fits allows r s = IsTrue (takes_by s.head s.operands s.results s.successors (length s.entry_arguments) r && allows s.head s.operands s.results s.successors (length s.entry_arguments))

-- what acts by its own table passes on as many values as there are places for
abbrev pub MovesFit : Allows → Role → Act → Shape → Type 0
MovesFit allows r act s = Fits allows r s → (memo : Datum) (input : List Datum) → CountsFit false s (act s memo input)

-- an operand that is named is there, and each visit of the region passes its datum
pub record NamesFit (allows : Allows) (r : Role) (act : Act) (named : ℕ → ℕ → ℕ → Option ℕ) (s : Shape) : Type 0 where
  pub moves : MovesFit allows r act s
  pub there : Fits allows r s → (i j k : ℕ) → named s.operands i j ≡ Some k → k < s.operands
  pub passes : Fits allows r s → (i j k : ℕ) → named s.operands i j ≡ Some k → (first : List Datum) → length first ≡ s.operands → (later : Bool) (memo : Datum) (input ds : List Datum) (next : Datum) → Comes act s first later memo input → act s memo input ≡ Visit i ds next → (d : Datum) → slice_get ds j ≡ Some d → slice_get first k ≡ Some d

-- what is known stays so where more is known
abbrev pub Stays : {A : Type 0} → Option A → Option A → Type 0
Stays None p = Unit {0}
Stays (Some x) p = p ≡ Some x

abbrev pub AllStay : List (Option ℤ) → List (Option ℤ) → Type 0
AllStay [] [] = Unit {0}
AllStay [] (p ∷ ps) = ⊥
AllStay (o ∷ os) [] = ⊥
AllStay (o ∷ os) (p ∷ ps) = Stays o p × AllStay os ps

abbrev pub Grows : (Head → List (Option ℤ) → Option ℤ) → Type 0
Grows knows = (h : Head) (os ps : List (Option ℤ)) → AllStay os ps → Stays (knows h os) (knows h ps)

-- what is computed is a fact: knowing more numbers keeps it, and what the identity says of it is so
pub record ComputesFacts (knows : Head → List (Option ℤ) → Option ℤ) (identity : Head → Identity) : Type 0 where
  pub grows : Grows knows
  pub identity_holds : (h : Head) → IdentityHolds (identity h) (complete knows h)

-- where all n numbers are known, one is computed
abbrev pub AllSuffice : ℕ → (Head → List (Option ℤ) → Option ℤ) → Type 0
AllSuffice n knows = (h : Head) (ns : List ℤ) → length ns ≡ n → IsSome (complete knows h ns)

abbrev pub ResultFits : Otherwise → ℕ → (Head → List (Option ℤ) → Option ℤ) → (Head → Identity) → Type 0
ResultFits Says n knows identity = Unit {0}
ResultFits Never n knows identity = ComputesFacts knows identity × AllSuffice n knows
ResultFits Traps n knows identity = ComputesFacts knows identity

-- the head of a branch that lost an operand of this edge
abbrev pub shortened_of : Shape → ℕ → Role → Head
shortened_of s i (Chooses counting choose) = record s.head { attrs = fewer_by counting s.head.attrs s.successors i }
shortened_of s i _ = s.head

-- a branch that lost an operand of this edge is still allowed
abbrev pub LosesFit : Allows → Role → Shape → (i : ℕ) → Type 0
LosesFit allows r s i = Fits allows r s → IsTrue (allows (shortened_of s i r) (s.operands - 1) s.results s.successors (length s.entry_arguments))

-- what a role owes of operations with this shape
abbrev pub RoleFits : Allows → Role → Shape → Type 0
RoleFits allows (Folds n knows identity otherwise) s = ResultFits otherwise n knows identity
RoleFits allows Jumps s = 0 < s.operands → LosesFit allows Jumps s 0
RoleFits allows (Chooses counting choose) s = (i : ℕ) → i < s.successors → 0 < count_of (edge_counts_of counting s) i → LosesFit allows (Chooses counting choose) s i
RoleFits allows (Acts says removes act) s = MovesFit allows (Acts says removes act) act s
RoleFits allows (Names act named) s = NamesFit allows (Names act named) act named s
RoleFits allows (Forks says act) s = MovesFit allows (Forks says act) act s
RoleFits allows _ s = Unit {0}

abbrev pub RolesFit : Allows → (ℕ → Option Role) → Type 0
RolesFit allows roles = (s : Shape) (r : Role) → roles s.head.kind ≡ Some r → RoleFits allows r s

-- ---- answers

unfoldable pub effects_by : (ℕ → Option Role) → Head → Option Bool
effects_by roles h = by_form None effects_of (form_at roles h.kind)

unfoldable pub removable_by : (ℕ → Option Role) → Head → ℕ → Bool → Option Bool
removable_by roles h i entry = by_form no_removal removable_of (form_at roles h.kind) entry

unfoldable pub interfaces_by : (ℕ → Option Role) → Head → Interface → Bool
interfaces_by roles h interface = by_form false (interface_of interface) (form_at roles h.kind)

abbrev pub known_as : Option AttrObj → Option ℤ
known_as None = None
known_as (Some a) = Some (number_of (datum_of a))

abbrev pub with_number : Option ℤ → Option (List ℤ) → Option (List ℤ)
with_number (Some n) (Some ns) = Some (n ∷ ns)
with_number _ _ = None

abbrev pub all_known : List (Option AttrObj) → Option (List ℤ)
all_known [] = Some []
all_known (a ∷ known) = with_number (known_as a) (all_known known)

abbrev pub known_number_at : List (Option AttrObj) → ℕ → Option ℤ
known_number_at known i = known_as (slice_index_or known i None)

abbrev pub number_computed : (List ℤ → Option ℤ) → Option (List ℤ) → Option ℤ
number_computed result None = None
number_computed result (Some ns) = result ns

-- the truth of a number that is known, if it has one
abbrev pub truth_of : (ℤ → Option Bool) → Option ℤ → Option Bool
truth_of truth None = None
truth_of truth (Some c) = truth c

abbrev pub picked_known : List (Option AttrObj) → Option Bool → Option AttrObj
picked_known known None = None
picked_known known (Some true) = slice_index_or known 1 None
picked_known known (Some false) = slice_index_or known 2 None

-- what is known of the operand at a place, or else this
abbrev pub left_known : List (Option AttrObj) → Option ℕ → Option AttrObj → Option AttrObj
left_known known (Some p) answer = slice_index_or known p None
left_known known None answer = answer

-- what is known of the operand that is left, else the number that is given, else the one that is computed
abbrev pub folded_known : Identity → (List ℤ → Option ℤ) → List (Option AttrObj) → Option AttrObj
folded_known i result known = left_known known (place_known i known) (option_map (λ m. Int m) (option_or (given_known i known) (number_computed result (all_known known))))

-- what is computed of what is known of the operands, where nothing is left to the interpretation
abbrev pub fact_known : (List (Option ℤ) → Option ℤ) → List (Option AttrObj) → Option AttrObj
fact_known knows known = option_map (λ m. Int m) (knows (map known_as known))

abbrev pub folded_by : Otherwise → Identity → (List (Option ℤ) → Option ℤ) → List (Option AttrObj) → Option AttrObj
folded_by Says i knows known = folded_known i (λ ns. knows (map Some ns)) known
folded_by Never i knows known = fact_known knows known
folded_by Traps i knows known = fact_known knows known

abbrev pub answers_by : Head → List (Option AttrObj) → Role → List (Option AttrObj)
answers_by h known Constant = Some (first_attribute h.attrs) ∷ []
answers_by h known (Folds n knows identity otherwise) = folded_by otherwise (identity h) (knows h) known ∷ []
answers_by h known (Picks truth) = picked_known known (truth_of truth (known_number_at known 0)) ∷ []
answers_by h known _ = []

unfoldable pub folds_by : (ℕ → Option Role) → Head → Bool
folds_by roles h = by_form false folds_of (option_map form_of (roles h.kind))

unfoldable pub branch_folds_by : (ℕ → Option Role) → Head → Bool
branch_folds_by roles h = by_form false folds_branch_of (option_map form_of (roles h.kind))

unfoldable pub constants_by : (ℕ → Option Role) → Shape → List (Option AttrObj) → List (Option AttrObj)
constants_by roles s known = by_role [] (answers_by s.head known) (roles s.head.kind)

-- all, unless the edge is known
abbrev pub only_edge : List ℕ → Option ℕ → List ℕ
only_edge targets None = targets
only_edge targets (Some i) = only_successor (slice_get targets i)

abbrev pub edges_taken : List ℕ → (ℤ → Option ℕ) → Option ℤ → List ℕ
edges_taken targets choose None = targets
edges_taken targets choose (Some c) = only_edge targets (choose c)

abbrev pub feasible_of : Shape → List ℕ → List (Option AttrObj) → Role → List ℕ
feasible_of s targets known (Chooses counting choose) = edges_taken targets (chosen_edge counting choose s) (known_number_at known 0)
feasible_of s targets known _ = targets

unfoldable pub feasible_by : (ℕ → Option Role) → Shape → List ℕ → List (Option AttrObj) → List ℕ
feasible_by roles s targets known = by_role targets (feasible_of s targets known) (roles s.head.kind)

unfoldable pub shortened_by : (ℕ → Option Role) → Shape → ℕ → ℕ → Head
shortened_by roles s i j = by_role s.head (shortened_of s i) (roles s.head.kind)

abbrev pub named_by : Role → ℕ → ℕ → ℕ → Option ℕ
named_by (Names act named) a i j = named a i j
named_by _ a i j = None

abbrev pub no_operand : ℕ → ℕ → ℕ → Option ℕ
no_operand a i j = None

unfoldable pub entry_operands_by : (ℕ → Option Role) → EntryOperands
entry_operands_by roles s i j = by_role no_operand named_by (roles s.head.kind) s.operands i j

-- what distinguishes the kinds
unfoldable pub is_of_number : {K : Type 0} → (K → ℕ) → Head → K → Bool
is_of_number number_of h kind = nat_eq h.kind (number_of kind)

-- the head of an operation that folding makes, and that of a constant
abbrev pub head_of_kind : ℕ → Bool → Head
head_of_kind n ssa = record { kind = n; ssa = ssa; attrs = [] }

abbrev pub constant_head_of : ℕ → Bool → AttrObj → Head
constant_head_of n ssa attr = record { kind = n; ssa = ssa; attrs = attr ∷ [] }

-- the tables of a dialect: the role of each kind, its number in a head, the kind with a number, the kinds of the
-- constants and the jumps that folding makes, what is given where no table says it; which operations of a kind there
-- may be beyond what its role asks; the mark of the heads that folding makes, of which attributes constants are made,
-- and of which branches `verify` asks that edges fit
pub record Tables (K : Type 0) : Type 0 where
  pub role_of : K → Role
  pub number_of : K → ℕ
  pub kind_of : ℕ → Option K
  pub constant : K
  pub jump : K
  pub value : Interpretation
  pub allows : K → Allows
  pub is_ssa : K → Bool
  pub accepts : AttrObj → Bool
  pub checks_edges : K → Bool

abbrev pub by_kind : {K : Type 0} → (K → Allows) → Option K → Allows
by_kind allows None h a b c d = false
by_kind allows (Some k) h a b c d = allows k h a b c d

abbrev pub allows_at : {K : Type 0} → Tables K → Allows
allows_at t h a b c d = by_kind t.allows (t.kind_of h.kind) h a b c d

-- what an author of tables owes: a number names its kind; the kinds of constants and jumps are such; constants of
-- attributes that are accepted are allowed, and so are jumps; and the role of each kind fits what is allowed of it
pub record KeepsTables {K : Type 0} (t : Tables K) : Type 0 where
  pub numbered : (k : K) → t.kind_of (t.number_of k) ≡ Some k
  pub constant : t.role_of t.constant ≡ Constant
  pub jump : t.role_of t.jump ≡ Jumps
  pub constants_allowed : (attr : AttrObj) → IsTrue (t.accepts attr) → IsTrue (t.allows t.constant (constant_head_of (t.number_of t.constant) (t.is_ssa t.constant) attr) 0 1 0 0)
  pub jumps_allowed : (n : ℕ) → IsTrue (t.allows t.jump (head_of_kind (t.number_of t.jump) (t.is_ssa t.jump)) n 0 1 0)
  pub roles : (k : K) (s : Shape) → RoleFits (t.allows k) (t.role_of k) s

abbrev pub role_at : {K : Type 0} → Tables K → ℕ → Option Role
role_at t n = option_map t.role_of (t.kind_of n)

-- what a role computes, picks, chooses and takes, for the code
abbrev pub knows_in : Role → Head → List (Option ℤ) → Option ℤ
knows_in (Folds n knows identity otherwise) h os = knows h os
knows_in _ h os = None

abbrev pub identity_in : Role → Head → Identity
identity_in (Folds n knows identity otherwise) h = identity h
identity_in _ h = no_identity

abbrev pub truth_in : Role → ℤ → Option Bool
truth_in (Picks truth) c = truth c
truth_in _ c = None

abbrev pub choice_in : Role → Head → ℕ → ℤ → Option ℕ
choice_in (Chooses counting choose) h c n = choose h.kind (drop (counted_attributes counting c) h.attrs) n
choice_in _ h c n = None

abbrev pub is_constant : Option Form → Bool
is_constant (Some ConstantForm) = true
is_constant _ = false

-- the answer of an operation of a form, of these three, and the list of it
abbrev pub form_answer : Form → Option AttrObj → (Otherwise → Option AttrObj) → Option AttrObj → Option AttrObj
form_answer ConstantForm a b c = a
form_answer (FoldsForm n otherwise) a b c = b otherwise
form_answer PicksForm a b c = c
form_answer _ a b c = None

abbrev pub form_answers : Form → Option AttrObj → List (Option AttrObj)
form_answers ConstantForm answer = answer ∷ []
form_answers (FoldsForm n otherwise) answer = answer ∷ []
form_answers PicksForm answer = answer ∷ []
form_answers _ answer = []

abbrev pub role_answer : Role → Head → List (Option AttrObj) → Option AttrObj
role_answer r h known = form_answer (form_of r) (Some (first_attribute h.attrs)) (λ otherwise. folded_by otherwise (identity_in r h) (knows_in r h) known) (picked_known known (truth_of (truth_in r) (known_number_at known 0)))

-- the edge that a table has for a known number
abbrev pub edge_by_role : Option Role → Head → ℕ → Option ℤ → Option ℕ
edge_by_role (Some r) h c (Some n) = choice_in r h c n
edge_by_role _ h c _ = None

-- ---- the same by forms, for the code

pub answers_by_form : (r : Role) (h : Head) (known : List (Option AttrObj)) → form_answers (form_of r) (role_answer r h known) ≡ answers_by h known r
answers_by_form Constant h known = refl
answers_by_form (Folds n knows identity otherwise) h known = refl
answers_by_form (Picks truth) h known = refl
answers_by_form Opaque h known = refl
answers_by_form Jumps h known = refl
answers_by_form (Chooses counting choose) h known = refl
answers_by_form Leaves h known = refl
answers_by_form Stops h known = refl
answers_by_form (Acts says removes act) h known = refl
answers_by_form (Names act named) h known = refl
answers_by_form (Forks says act) h known = refl
answers_by_form (Holds says) h known = refl

pub places_by_role : (o : Option Role) (s : Shape) (i : ℕ) → by_form no_places places_by_form (option_map form_of o) s.head.attrs s.operands s.successors i ≡ by_role [] (places_by s i) o
places_by_role None s i = refl
places_by_role (Some r) s i = refl

-- whether a form takes this head and these counts
abbrev pub takes_form : Form → Head → (a b c d : ℕ) → Bool
takes_form ConstantForm h a b c d = has_some h.attrs && (nat_eq a 0 && (nat_eq b 1 && (nat_eq c 0 && nat_eq d 0)))
takes_form (FoldsForm n otherwise) h a b c d = nat_eq a n && (nat_eq b 1 && (nat_eq c 0 && nat_eq d 0))
takes_form PicksForm h a b c d = nat_eq a 3 && (nat_eq b 1 && (nat_eq c 0 && nat_eq d 0))
takes_form OpaqueForm h a b c d = nat_eq c 0 && nat_eq d 0
takes_form JumpsForm h a b c d = nat_eq b 0 && (nat_eq c 1 && nat_eq d 0)
takes_form (ChoosesForm counting) h a b c d = counts_fit counting h.attrs c a && (nat_eq b 0 && (nat_lt 1 c && nat_eq d 0))
takes_form LeavesForm h a b c d = nat_eq b 0 && (nat_eq c 0 && nat_eq d 0)
takes_form StopsForm h a b c d = nat_eq c 0
takes_form (ActsForm says removes) h a b c d = nat_eq c 0
takes_form NamesForm h a b c d = nat_eq c 0
takes_form (ForksForm says) h a b c d = nat_lt 0 c
takes_form (HoldsForm says) h a b c d = nat_eq b 0 && nat_eq c 0

pub takes_by_form : (r : Role) (h : Head) (a b c d : ℕ) → takes_form (form_of r) h a b c d ≡ takes_by h a b c d r
takes_by_form Constant h a b c d = refl
takes_by_form (Folds n knows identity otherwise) h a b c d = refl
takes_by_form (Picks truth) h a b c d = refl
takes_by_form Opaque h a b c d = refl
takes_by_form Jumps h a b c d = refl
takes_by_form (Chooses counting choose) h a b c d = refl
takes_by_form Leaves h a b c d = refl
takes_by_form Stops h a b c d = refl
takes_by_form (Acts says removes act) h a b c d = refl
takes_by_form (Names act named) h a b c d = refl
takes_by_form (Forks says act) h a b c d = refl
takes_by_form (Holds says) h a b c d = refl

-- the head of a branch of a form that lost a value of an edge
abbrev pub shortened_by_form : Head → ℕ → ℕ → Form → Head
shortened_by_form h c i (ChoosesForm counting) = record h { attrs = fewer_by counting h.attrs c i }
shortened_by_form h c i _ = h
