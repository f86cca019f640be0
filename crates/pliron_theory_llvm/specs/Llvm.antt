-- LLVM's meaning of operations: a datum may be poison, and undefined behaviour is a trap. What `undef` and `freeze` give
-- is one answer of the world.
use Rattle.std.specs.Prelude.{◌≡◌, ◌⊎◌, ◌-◌, ◌^◌, ℕ, nat_eq, Bool, true, false, ◌&&◌, ◌||◌, List, [], ◌∷◌, map, Option, Some, None, unwrap_or, option_map, IsTrue, ℤ, negsuc}
use Rattle.pliron_core.specs.declared.attrs.Head.{Head}
use Rattle.pliron_core.specs.declared.attrs.AttrObj.{AttrObj}
use Rattle.pliron_laws.specs.Datum.{Datum, Empty, Number, Text, Join, datum_of, Shape, Move, Give, Goto, Leave, Trap, Meaning}
use Rattle.pliron_bits.specs.declared.operators.BinaryOperator.{BinaryOperator}
use Rattle.pliron_bits.specs.declared.operators.BinaryOperator.TheVariants.{UnsignedDivide, SignedDivide, UnsignedRemainder, SignedRemainder, UnsignedDivideUp, SignedDivideUp, SignedDivideDown}
use Rattle.pliron_dialect.specs.declared.form.Counting.TheVariants.{OfEach}
use Rattle.pliron_dialect.specs.Identities.{same_datum}
use Rattle.pliron_dialect.specs.Counted.{values_of_edge}
use Rattle.pliron_dialect.specs.Roles.{Interpretation, Tables, role_at, allows_at, meaning_by, no_act, number_of, numbers_of, nth_datum, first_datum, first_attribute, fit_data, edge_chosen, edge_counts_of, effect_act, region_act, fork_act, complete}
use Rattle.pliron_dialect_mlir.specs.declared.kind.Class.{Class}
use Rattle.pliron_dialect_mlir.specs.declared.kind.Class.TheVariants.{Constant, Select, Opaque, Jump, Branch, Switch, Leave as LeaveClass, Unreachable, Effect, Local, Call, Regions, Root, Function, Module, Fork, Compare, Cast, Binary}
use Rattle.pliron_dialect_mlir.specs.ClassNumbers.{class_of_number}
use Rattle.pliron_dialect_mlir.specs.Data.{bits_of_width, bits_at, truth}
use Rattle.pliron_dialect_mlir.specs.Heads.{width_at}
use Rattle.pliron_dialect_mlir.specs.Classes.{computed_by, compared_by, cast_by, branch_edge, switch_edge, root_act, module_act, mlir}
use Rattle.pliron_dialect_mlir.specs.OtherData.{poison}
use Rattle.pliron_theory_refinement.specs.Refinement.{Relation, IsPreorder, AllMayBecome}

-- what LLVM leaves to the target, to libraries and to memory. Integers, pointers and floating numbers are numbers,
-- aggregates and vectors are texts
pub record Llvm : Type 0 where
  -- which datum may become which: poison any, and an aggregate that is poison in part one that is less so
  pub order : Relation
  -- what a constant is whose text isn't read as an integer, by the number of its form
  pub constant : ℕ → AttrObj
  -- what operations give that aren't computed here; and the edge of a switch whose cases aren't read
  pub value : Interpretation
  -- where operations that aren't computed here are undefined behaviour
  pub undefined : Head → List Datum → Bool

-- ---- data

-- what a datum stands for: of a constant whose text isn't read, the machine has the form
abbrev pub meant : Llvm → Datum → Datum
meant l (Number (negsuc form)) = datum_of (l.constant form)
meant l d = d

-- which datum may take the place of which
abbrev pub may_become : Llvm → Relation
may_become l d e = l.order (meant l d) (meant l e)

abbrev pub is_poison : Datum → Bool
is_poison Empty = true
is_poison (Number n) = false
is_poison (Text s) = false
is_poison (Join a b) = false

-- a number, or a chain, as which the world says what is next; no part of these is poison
abbrev pub is_whole : Datum → Bool
is_whole Empty = false
is_whole (Number n) = true
is_whole (Text s) = false
is_whole (Join a b) = true

-- poison may become anything, and nothing else becomes poison; what is whole becomes nothing else, and comes of poison
-- or of itself
pub record IsFlatOnIntegers (order : Relation) : Type 0 where
  pub preorder : IsPreorder order
  pub from_poison : (d : Datum) → IsTrue (order poison d)
  pub to_poison : (d : Datum) → IsTrue (order d poison) → d ≡ poison
  pub from_whole : (d e : Datum) → IsTrue (is_whole d) → IsTrue (order d e) → d ≡ e
  pub to_whole : (d e : Datum) → IsTrue (is_whole e) → IsTrue (order d e) → (d ≡ poison) ⊎ (d ≡ e)

-- ---- integers

-- poison, where no number is computed: an operand is none of the width, a promise as `nsw` or `exact` is broken, or a
-- shift is by the width or more
abbrev pub or_poison : Option ℤ → Datum
or_poison None = poison
or_poison (Some n) = Number n

abbrev pub computed_move : Llvm → (Head → List (Option ℤ) → Option ℤ) → Head → List Datum → Move
computed_move l knows h input = Give (or_poison (complete knows h (numbers_of (map (meant l) input))) ∷ [])

-- whether the datum is an integer of the width with this property, or poison, which may be any
abbrev pub may_be : (property : ℕ → Bool) → (width : ℕ) → Datum → Bool
may_be property width Empty = true
may_be property width (Number n) = unwrap_or (option_map property (bits_at width n)) false
may_be property width (Text s) = false
may_be property width (Join a b) = false

abbrev pub is_negative_one : (width : ℕ) → ℕ → Bool
is_negative_one width n = nat_eq n (2 ^ bits_of_width width - 1)

abbrev pub is_least : (width : ℕ) → ℕ → Bool
is_least width n = nat_eq n (2 ^ (bits_of_width width - 1))

-- a division is undefined behaviour where the divisor may be 0; one with signs also where it may be -1 and the dividend
-- the least number
abbrev pub division_fails : (is_signed : Bool) → (width : ℕ) → List Datum → Bool
division_fails is_signed width (d ∷ e ∷ []) = may_be (nat_eq 0) width e || (is_signed && (may_be (is_negative_one width) width e && may_be (is_least width) width d))
division_fails is_signed width _ = false

abbrev pub operator_fails : BinaryOperator → (width : ℕ) → List Datum → Bool
operator_fails UnsignedDivide width input = division_fails false width input
operator_fails UnsignedDivideUp width input = division_fails false width input
operator_fails UnsignedRemainder width input = division_fails false width input
operator_fails SignedDivide width input = division_fails true width input
operator_fails SignedDivideUp width input = division_fails true width input
operator_fails SignedDivideDown width input = division_fails true width input
operator_fails SignedRemainder width input = division_fails true width input
operator_fails _ width input = false

-- the operand that a select picks by its condition, whatever the other one is
abbrev pub select_result : List Datum → Option Bool → Datum
select_result input (Some true) = nth_datum input 1
select_result input (Some false) = nth_datum input 2
select_result input None = poison

-- ---- undefined behaviour

abbrev pub trap_if : Bool → Move → Move
trap_if true move = Trap
trap_if false move = move

-- a branch goes by a number alone
abbrev pub goes_by : Llvm → (choose : ℕ → List AttrObj → ℤ → Option ℕ) → Shape → List Datum → (condition : Datum) → Move
goes_by l choose s input (Number n) =
    let edge = edge_chosen l.value OfEach choose s (Number n ∷ []) in
    Goto edge (values_of_edge (edge_counts_of OfEach s) edge input)
goes_by l choose s input _ = Trap

-- before anything is asked of the world, the operands may be such that the operation is undefined behaviour
abbrev pub is_undefined : Llvm → Shape → (memo : Datum) → List Datum → Bool
is_undefined l s Empty input = l.undefined s.head input
is_undefined l s _ input = false

-- the world's answer says which region or which edge is next, so it isn't poison
abbrev pub is_region_poison : (memo : Datum) → List Datum → Bool
is_region_poison (Number n) input = is_poison (first_datum input)
is_region_poison _ input = false

abbrev pub is_edge_poison : (memo : Datum) → List Datum → Bool
is_edge_poison Empty input = false
is_edge_poison _ input = is_poison (first_datum input)

-- ---- operations

abbrev pub llvm_act : Llvm → Class → Shape → (memo : Datum) → List Datum → Move
llvm_act l Constant s memo input = Give (datum_of (first_attribute s.head.attrs) ∷ [])
llvm_act l (Binary operator) s memo input = trap_if (operator_fails operator (width_at s.head.attrs 0) (map (meant l) input)) (computed_move l (computed_by operator) s.head input)
llvm_act l Compare s memo input = computed_move l compared_by s.head input
llvm_act l (Cast cast) s memo input = computed_move l (cast_by cast) s.head input
llvm_act l Select s memo input = Give (select_result input (truth (number_of (meant l (first_datum input)))) ∷ [])
llvm_act l Opaque s memo input = trap_if (l.undefined s.head input) (Give (fit_data s.results (l.value s.head input)))
llvm_act l Effect s memo input = trap_if (is_undefined l s memo input) (effect_act s memo input)
llvm_act l Local s memo input = trap_if (is_undefined l s memo input) (effect_act s memo input)
llvm_act l Call s memo input = trap_if (is_undefined l s memo input) (effect_act s memo input)
llvm_act l Jump s memo input = Goto 0 input
llvm_act l Branch s memo input = goes_by l branch_edge s input (meant l (first_datum input))
llvm_act l Switch s memo input = goes_by l switch_edge s input (meant l (first_datum input))
llvm_act l LeaveClass s memo input = Leave input
llvm_act l Unreachable s memo input = Trap
llvm_act l Regions s memo input = trap_if (is_undefined l s memo input || is_region_poison memo input) (region_act s memo input)
llvm_act l Root s memo input = root_act s memo input
llvm_act l Function s memo input = root_act s memo input
llvm_act l Module s memo input = module_act s memo input
llvm_act l Fork s memo input = trap_if (is_undefined l s memo input || is_edge_poison memo input) (fork_act s memo input)

abbrev pub act_by_class : Llvm → Option Class → Shape → (memo : Datum) → List Datum → Move
act_by_class l None = no_act
act_by_class l (Some class) = llvm_act l class

-- what operations there are, which are branches and which may be roots, is as the dialect says
abbrev pub class_tables : Llvm → Tables Class
class_tables l = mlir (λ class. class) (λ class. class) l.value

abbrev pub llvm : Llvm → Meaning
llvm l = record (meaning_by l.value (role_at (class_tables l)) (allows_at (class_tables l))) { act = λ s memo input. act_by_class l (class_of_number s.head.kind) s memo input }

-- ---- less poison

-- effects are chains: what the operation is, its attributes and its operands
abbrev pub elements_may : Relation → Relation
elements_may R (Join d ds) (Join e es) = R d e && elements_may R ds es
elements_may R d e = same_datum d e

-- what is less poison gives what is less poison, and is undefined behaviour no more often
pub record IsMonotone (l : Llvm) : Type 0 where
  pub flat : IsFlatOnIntegers l.order
  pub value : (h : Head) (n : ℕ) (input input' : List Datum) → AllMayBecome (may_become l) input input' → AllMayBecome (may_become l) (fit_data n (l.value h input)) (fit_data n (l.value h input'))
  pub undefined : (h : Head) (input input' : List Datum) → AllMayBecome (may_become l) input input' → l.undefined h input ≡ false → l.undefined h input' ≡ false
