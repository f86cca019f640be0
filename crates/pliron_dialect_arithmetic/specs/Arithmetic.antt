-- The tables of the dialect: a line for each kind.
use Rattle.std.proofs.Common.{◌≡◌, ℕ, nat_eq, if◌then◌else◌, ◌&&◌, Bool, true, false, List, drop, Option, Some, None, refl}
use Rattle.std.specs.Prelude.{negsuc}
use Rattle.pliron_dialect_arithmetic.specs.declared.kind.ArithmeticKind.{ArithmeticKind}
use Rattle.pliron_dialect_arithmetic.specs.declared.kind.ArithmeticKind.TheVariants.{Function, Lit, Add, Mul, Neg, Less, Jump, Branch, Return, If, While}
use Rattle.pliron_laws.specs.Datum.{Datum, Shape, Move, Give, Leave}
use Rattle.pliron_laws.specs.Laws.{CountsFit}
use Rattle.pliron_dialect.specs.Roles.{Role, Tables, KeepsTables, RoleFits, is_zero, Constant, Jumps, Leaves, Acts}
use Rattle.pliron_role_runs.specs.Numbers.{is_whole_number, known_at, wrapped_sum, wrapped_product, less, condition_of, edge_by_condition}
use Rattle.pliron_role_runs.specs.Plain.{computes, branches_by_condition, never_asked, any_counts, allows_plain, computes_fits, jump_fits, branch_fits}
use Rattle.pliron_role_runs.specs.Visits.{visit_of, length-fit_with_zeros, visit_fits, once_fits, once, fit_with_zeros}

-- a function has one region, visits it once with its inputs, and leaves with what the visit gives
abbrev pub function_takes : ℕ → ℕ → ℕ → Bool
function_takes operands results regions = nat_eq operands 0 && nat_eq results 0 && nat_eq regions 1

abbrev pub function_act : Shape → Datum → List Datum → Move
function_act s memo input = once memo (visit_of 0 s input) (Leave input)

-- an `if` visits its first region unless its first operand is 0, else its second, with the other operands, and
-- gives what the visit gives
abbrev pub if_takes : ℕ → ℕ → ℕ → Bool
if_takes operands results regions = nat_eq regions 2

abbrev pub if_act : Shape → Datum → List Datum → Move
if_act s memo input = once memo (visit_of (edge_by_condition (condition_of input)) s (drop 1 input)) (Give (fit_with_zeros s.results input))

-- a `while` visits its region with its operands, and again with the values of each visit until the first
-- of them is 0; then it gives the others
abbrev pub while_takes : ℕ → ℕ → ℕ → Bool
while_takes operands results regions = nat_eq regions 1

abbrev pub again_unless : Bool → Shape → List Datum → Move
again_unless true s values = Give (fit_with_zeros s.results values)
again_unless false s values = visit_of 0 s values

abbrev pub while_act : Shape → Datum → List Datum → Move
while_act s memo input = once memo (visit_of 0 s input) (again_unless (is_zero (condition_of input)) s (drop 1 input))

abbrev pub arithmetic_role_of : ArithmeticKind → Role
arithmetic_role_of Function = Acts true true function_act
arithmetic_role_of Lit = Constant
arithmetic_role_of Add = computes 2 (λ os. wrapped_sum (known_at os 0) (known_at os 1))
arithmetic_role_of Mul = computes 2 (λ os. wrapped_product (known_at os 0) (known_at os 1))
arithmetic_role_of Neg = computes 1 (λ os. wrapped_product (known_at os 0) (negsuc 0))
arithmetic_role_of Less = computes 2 (λ os. less (known_at os 0) (known_at os 1))
arithmetic_role_of Jump = Jumps
arithmetic_role_of Branch = branches_by_condition
arithmetic_role_of Return = Leaves
arithmetic_role_of If = Acts true true if_act
arithmetic_role_of While = Acts true true while_act

-- which counts a kind has beyond its role
abbrev pub arithmetic_takes : ArithmeticKind → ℕ → ℕ → ℕ → Bool
arithmetic_takes Function operands results regions = function_takes operands results regions
arithmetic_takes If operands results regions = if_takes operands results regions
arithmetic_takes While operands results regions = while_takes operands results regions
arithmetic_takes _ operands results regions = any_counts operands results regions

abbrev pub arithmetic_number_of : ArithmeticKind → ℕ
arithmetic_number_of Function = 0
arithmetic_number_of Lit = 1
arithmetic_number_of Add = 2
arithmetic_number_of Mul = 3
arithmetic_number_of Neg = 4
arithmetic_number_of Less = 5
arithmetic_number_of Jump = 6
arithmetic_number_of Branch = 7
arithmetic_number_of Return = 8
arithmetic_number_of If = 9
arithmetic_number_of While = 10

abbrev pub arithmetic_kind_of : ℕ → Option ArithmeticKind
arithmetic_kind_of n =
    if nat_eq n 0 then Some Function
    else if nat_eq n 1 then Some Lit
    else if nat_eq n 2 then Some Add
    else if nat_eq n 3 then Some Mul
    else if nat_eq n 4 then Some Neg
    else if nat_eq n 5 then Some Less
    else if nat_eq n 6 then Some Jump
    else if nat_eq n 7 then Some Branch
    else if nat_eq n 8 then Some Return
    else if nat_eq n 9 then Some If
    else if nat_eq n 10 then Some While
    else None

abbrev pub arithmetic : Tables ArithmeticKind
arithmetic = record {
  role_of = arithmetic_role_of;
  number_of = arithmetic_number_of;
  kind_of = arithmetic_kind_of;
  constant = Lit;
  jump = Jump;
  value = never_asked;
  allows = λ k. allows_plain (arithmetic_takes k) (arithmetic_role_of k);
  is_ssa = λ k. true;
  accepts = is_whole_number;
  checks_edges = λ k. false;
}

numbered : (k : ArithmeticKind) → arithmetic_kind_of (arithmetic_number_of k) ≡ Some k
numbered Function = refl
numbered Lit = refl
numbered Add = refl
numbered Mul = refl
numbered Neg = refl
numbered Less = refl
numbered Jump = refl
numbered Branch = refl
numbered Return = refl
numbered If = refl
numbered While = refl

again_fits : (b : Bool) (s : Shape) (values : List Datum) → CountsFit false s (again_unless b s values)
again_fits true s values = length-fit_with_zeros s.results values
again_fits false s values = visit_fits false 0 s values

-- what each role owes: moves pass as many values as there are places for
fit : (k : ArithmeticKind) (s : Shape) → RoleFits (arithmetic.allows k) (arithmetic_role_of k) s
fit Function s = λ h memo input. once_fits false s memo (visit_of 0 s input) (Leave input) (visit_fits false 0 s input) tt
fit If s = λ h memo input. once_fits false s memo (visit_of (edge_by_condition (condition_of input)) s (drop 1 input)) (Give (fit_with_zeros s.results input)) (visit_fits false (edge_by_condition (condition_of input)) s (drop 1 input)) (length-fit_with_zeros s.results input)
fit While s = λ h memo input. once_fits false s memo (visit_of 0 s input) (again_unless (is_zero (condition_of input)) s (drop 1 input)) (visit_fits false 0 s input) (again_fits (is_zero (condition_of input)) s (drop 1 input))
fit Add s = computes_fits 2 (λ os. wrapped_sum (known_at os 0) (known_at os 1))
fit Mul s = computes_fits 2 (λ os. wrapped_product (known_at os 0) (known_at os 1))
fit Neg s = computes_fits 1 (λ os. wrapped_product (known_at os 0) (negsuc 0))
fit Less s = computes_fits 2 (λ os. less (known_at os 0) (known_at os 1))
fit Jump s = jump_fits s
fit Branch s = branch_fits s
fit _ s = tt

pub keeps_arithmetic : KeepsTables arithmetic
keeps_arithmetic = record {
  numbered = numbered;
  constant = refl;
  jump = refl;
  constants_allowed = λ attr h. h;
  jumps_allowed = λ n. refl;
  roles = fit;
}
