-- The role of each class.
use Rattle.std.proofs.Common.{◌≡◌, ℕ, zero, suc, ◌&&◌, nat_eq, if◌then◌else◌, Bool, true, false, List, [], ◌∷◌, Option, Some, None, IsTrue, refl, ap, sym, subst, ◌∙◌}
use Rattle.std.specs.Prelude.{ℤ, pos, negsuc, slice_index_or}
use Rattle.std.specs.Option.{option_map}
use Rattle.pliron_core.specs.declared.attrs.Head.{Head}
use Rattle.pliron_core.specs.declared.attrs.AttrObj.{AttrObj}
use Rattle.pliron_laws.specs.Datum.{Datum, Empty, Number, Text, Join, Shape, Move, Give, Visit, Leave}
use Rattle.pliron_laws.specs.Laws.{CountsFit}
use Rattle.pliron_bits.specs.declared.flags.Flags.{Flags}
use Rattle.pliron_bits.specs.declared.operators.BinaryOperator.{BinaryOperator}
use Rattle.pliron_bits.specs.declared.operators.Predicate.{Predicate}
use Rattle.pliron_bits.specs.declared.operators.Cast.{Cast}
use Rattle.pliron_bits.specs.Operators.{binary, comparison, cast_to, predicate_of_number}
use Rattle.pliron_dialect_mlir.specs.declared.kind.Class.{Class}
use Rattle.pliron_dialect_mlir.specs.declared.kind.Class.TheVariants.{Constant as ConstantClass, Select, Opaque as OpaqueClass, Jump, Branch, Switch, Leave as LeaveClass, Unreachable, Effect, Local, Call, Regions, Root, Function, Module, Fork, Compare, Cast as CastClass, Binary}
use Rattle.pliron_dialect.specs.Counts.{counted_by}
use Rattle.pliron_dialect.specs.declared.identity.Identity.{Identity}
use Rattle.pliron_dialect_mlir.specs.IntegerIdentities.{of_cast, of_compare, identity_at}
use Rattle.pliron_dialect.specs.declared.form.Counting.TheVariants.{OfEach}
use Rattle.pliron_dialect.specs.declared.form.Otherwise.TheVariants.{Says}
use Rattle.pliron_dialect.specs.Roles.{Interpretation, Role, Constant, Folds, Picks, Opaque, Jumps, Chooses, Leaves, Stops, Acts, Forks, Tables, KeepsTables, RoleFits, effect_act, region_act, fork_act, fit_data, has_some, head_of_kind, constant_head_of}
use Rattle.pliron_dialect.specs.CountLaws.{effect_fits, region_fits, fork_fits, at_fits, length-fitted}
use Rattle.pliron_dialect_mlir.specs.ClassNumbers.{number_of_class, class_of_number, numbered_class}
use Rattle.pliron_dialect_mlir.specs.Data.{is_width, bits_of_width, number, bits_at, truth, bit}
use Rattle.pliron_dialect_mlir.specs.Heads.{attribute_at, width_at, flags_at}
use Rattle.pliron_dialect_mlir.specs.OtherData.{given_otherwise}

-- ---- integers

-- what is computed of the bits, where they are known
abbrev pub of_two : (ℕ → ℕ → Option ℕ) → Option ℕ → Option ℕ → Option ℕ
of_two f (Some a) (Some b) = f a b
of_two f _ _ = None

abbrev pub of_one : (ℕ → Option ℕ) → Option ℕ → Option ℕ
of_one f (Some a) = f a
of_one f None = None

-- the attributes of what computes are the width, the flags and the form
abbrev pub computed_by : BinaryOperator → Head → List (Option ℤ) → Option ℤ
computed_by operator h (Some a ∷ Some b ∷ []) =
    option_map (number (width_at h.attrs 0)) (of_two (binary operator (flags_at h.attrs 1) (bits_of_width (width_at h.attrs 0))) (bits_at (width_at h.attrs 0) a) (bits_at (width_at h.attrs 0) b))
computed_by operator h _ = None

-- those of a comparison are the width, the predicate and the form
abbrev pub truth_of_two : Option Predicate → (width a b : ℕ) → Option ℕ
truth_of_two None width a b = None
truth_of_two (Some predicate) width a b = Some (bit (comparison predicate width a b))

abbrev pub compared_by : Head → List (Option ℤ) → Option ℤ
compared_by h (Some a ∷ Some b ∷ []) =
    option_map (number 1) (of_two (truth_of_two (predicate_of_number (attribute_at h.attrs 1)) (bits_of_width (width_at h.attrs 0))) (bits_at (width_at h.attrs 0) a) (bits_at (width_at h.attrs 0) b))
compared_by h _ = None

-- those of a cast are the width, the new one, the flags and the form
abbrev pub cast_of : Cast → Flags → (width to a : ℕ) → Option ℕ
cast_of cast flags width to a = if is_width to then cast_to cast flags (bits_of_width width) (bits_of_width to) a else None

abbrev pub cast_by : Cast → Head → List (Option ℤ) → Option ℤ
cast_by cast h (Some a ∷ []) = option_map (number (width_at h.attrs 1)) (of_one (cast_of cast (flags_at h.attrs 2) (width_at h.attrs 0) (width_at h.attrs 1)) (bits_at (width_at h.attrs 0) a))
cast_by cast h _ = None

-- what leaves an operand as it is or gives one number, by what the attributes say
abbrev pub compare_identity : Head → Identity
compare_identity h = of_compare (predicate_of_number (attribute_at h.attrs 1)) (width_at h.attrs 0)

abbrev pub cast_identity : Head → Identity
cast_identity h = of_cast (width_at h.attrs 0) (width_at h.attrs 1)

abbrev pub identity_by : BinaryOperator → Head → Identity
identity_by operator h = identity_at operator (flags_at h.attrs 1) (width_at h.attrs 0)

-- ---- branches

-- a branch takes its first edge where the number is true
abbrev pub edge_by_truth : Bool → ℕ
edge_by_truth true = 0
edge_by_truth false = 1

abbrev pub branch_edge : ℕ → List AttrObj → ℤ → Option ℕ
branch_edge kind rest c = option_map edge_by_truth (truth c)

-- the edge behind the default one whose case is this number; the last attribute is the form, and no case
abbrev pub edge_of_case : ℕ → List AttrObj → ℕ → ℕ
edge_of_case i [] c = 0
edge_of_case i (a ∷ rest) c = if has_some rest && nat_eq (counted_by a) c then i else edge_of_case (suc i) rest c

-- behind the counts of a switch are the width, the cases and the form
abbrev pub switch_edge : ℕ → List AttrObj → ℤ → Option ℕ
switch_edge kind [] c = None
switch_edge kind (width ∷ cases) c = option_map (edge_of_case 1 cases) (bits_at (counted_by width) c)

-- ---- what acts by itself

-- how many parts of each sort it has: any number, no regions, or nothing but one region
abbrev pub allows_of_class : Class → Head → (a b c d : ℕ) → Bool
allows_of_class Effect h a b c d = nat_eq d 0
allows_of_class Local h a b c d = nat_eq d 0
allows_of_class Call h a b c d = nat_eq d 0
allows_of_class Fork h a b c d = nat_eq d 0
allows_of_class Root h a b c d = nat_eq a 0 && (nat_eq b 0 && nat_eq d 1)
allows_of_class Function h a b c d = nat_eq a 0 && (nat_eq b 0 && nat_eq d 1)
allows_of_class Module h a b c d = nat_eq a 0 && (nat_eq b 0 && nat_eq d 1)
allows_of_class _ h a b c d = true

-- a function visits its region once
abbrev pub root_act : Shape → Datum → List Datum → Move
root_act s Empty input = Visit 0 (fit_data (slice_index_or s.entry_arguments 0 0) input) (Number (pos 1))
root_act s (Number n) input = Leave input
root_act s (Text t) input = Leave input
root_act s (Join x y) input = Leave input

root_fits : (s : Shape) (memo : Datum) (input : List Datum) → CountsFit false s (root_act s memo input)
root_fits s Empty input = λ n at. at_fits s.entry_arguments 0 input n at
root_fits s (Number n) input = tt
root_fits s (Text t) input = tt
root_fits s (Join x y) input = tt

-- a module does nothing
abbrev pub module_act : Shape → Datum → List Datum → Move
module_act s memo input = Give (fit_data s.results [])

-- ---- the classes

abbrev pub role_of_class : Class → Role
role_of_class ConstantClass = Constant
role_of_class Select = Picks truth
role_of_class OpaqueClass = Opaque
role_of_class Jump = Jumps
role_of_class Branch = Chooses OfEach branch_edge
role_of_class Switch = Chooses OfEach switch_edge
role_of_class LeaveClass = Leaves
role_of_class Unreachable = Stops
role_of_class Effect = Acts true true effect_act
role_of_class Local = Acts true true effect_act
role_of_class Call = Acts true true effect_act
role_of_class Regions = Acts true true region_act
role_of_class Root = Acts true true root_act
role_of_class Function = Acts true true root_act
role_of_class Module = Acts true true module_act
role_of_class Fork = Forks true fork_act
role_of_class Compare = Folds 2 compared_by compare_identity Says
role_of_class (CastClass cast) = Folds 1 (cast_by cast) cast_identity Says
role_of_class (Binary operator) = Folds 2 (computed_by operator) (identity_by operator) Says

role_fits : (c : Class) (s : Shape) → RoleFits (allows_of_class c) (role_of_class c) s
role_fits ConstantClass s = tt
role_fits Select s = tt
role_fits OpaqueClass s = tt
role_fits Jump s = λ lt h. refl
role_fits Branch s = λ i lt some h. refl
role_fits Switch s = λ i lt some h. refl
role_fits LeaveClass s = tt
role_fits Unreachable s = tt
role_fits Effect s = λ h memo input. effect_fits false s memo input
role_fits Local s = λ h memo input. effect_fits false s memo input
role_fits Call s = λ h memo input. effect_fits false s memo input
role_fits Regions s = λ h memo input. region_fits false s memo input
role_fits Root s = λ h memo input. root_fits s memo input
role_fits Function s = λ h memo input. root_fits s memo input
role_fits Module s = λ h memo input. length-fitted s.results []
role_fits Fork s = λ h memo input. fork_fits false s memo input
role_fits Compare s = tt
role_fits (CastClass cast) s = tt
role_fits (Binary operator) s = tt

-- the tables of kinds that are classes
abbrev pub mlir : {K : Type 0} → (K → Class) → (Class → K) → Interpretation → Tables K
mlir class_of kind value = record {
  role_of = λ k. role_of_class (class_of k);
  number_of = λ k. number_of_class (class_of k);
  kind_of = λ n. option_map kind (class_of_number n);
  constant = kind ConstantClass;
  jump = kind Jump;
  value = given_otherwise value;
  allows = λ k. allows_of_class (class_of k);
  is_ssa = λ k. true;
  accepts = λ attr. true;
  checks_edges = λ k. false;
}

pub keeps_mlir : {K : Type 0} (class_of : K → Class) (kind : Class → K) (value : Interpretation) → ((k : K) → kind (class_of k) ≡ k) → ((c : Class) → class_of (kind c) ≡ c) → KeepsTables (mlir class_of kind value)
keeps_mlir class_of kind value back forth = record {
  numbered = λ k. ap (option_map kind) (numbered_class (class_of k)) ∙ ap Some (back k);
  constant = ap role_of_class (forth ConstantClass);
  jump = ap role_of_class (forth Jump);
  constants_allowed = λ attr p. subst (λ c. IsTrue (allows_of_class c (constant_head_of (number_of_class c) true attr) 0 1 0 0)) (sym (forth ConstantClass)) refl;
  jumps_allowed = λ n. subst (λ c. IsTrue (allows_of_class c (head_of_kind (number_of_class c) true) n 0 1 0)) (sym (forth Jump)) refl;
  roles = λ k s. role_fits (class_of k) s;
}
