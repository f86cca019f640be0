-- The tables of the dialect: a line for each kind.
use Rattle.std.proofs.Common.{◌≡◌, ℕ, nat_eq, if◌then◌else◌, ◌&&◌, Bool, true, false, List, Option, Some, None, refl}
use Rattle.std.specs.Prelude.{ℤ, pos, int_lt}
use Rattle.pliron_opts_tests.specs.declared.looped_kind.LoopedKind.{LoopedKind}
use Rattle.pliron_opts_tests.specs.declared.looped_kind.LoopedKind.TheVariants.{Function, Lit, Add, Jump, Return, Repeat, Ask, Twice}
use Rattle.pliron_laws.specs.Datum.{Datum, Number, Shape, Move, Give, Leave}
use Rattle.pliron_laws.specs.Laws.{CountsFit}
use Rattle.pliron_dialect.specs.Roles.{Role, Tables, KeepsTables, RoleFits, Constant, Jumps, Leaves, Acts, Names}
use Rattle.pliron_role_runs.specs.Numbers.{known_at, whole_number_of, is_whole_number, wrapped_sum}
use Rattle.pliron_role_runs.specs.Plain.{computes, never_asked, any_counts, allows_plain, computes_fits, jump_fits}
use Rattle.pliron_role_runs.specs.Visits.{length-fit_with_zeros, visit_of, visit_fits, visit_keeping, visit_keeping_fits, once_fits, ask_world, asks_fit, operands_from, counted_loop, counted_fits}
use Rattle.pliron_dialect_bench.specs.BenchMoves.{once, fit_with_zeros}

abbrev pub function_takes : ℕ → ℕ → ℕ → Bool
function_takes operands results regions = nat_eq operands 0 && nat_eq results 0 && nat_eq regions 1

abbrev pub function_act : Shape → Datum → List Datum → Move
function_act s memo input = once memo (visit_of 0 s input) (Leave input)

-- a `twice` visits its region with its operands, and again with what that gave; then it gives what the second one
-- gave. Its memo is how often it did
abbrev pub next_of : Bool → Shape → ℤ → List Datum → Move
next_of true s visits input = visit_keeping 0 s input (Number (wrapped_sum visits (pos 1)))
next_of false s visits input = Give (fit_with_zeros s.results input)

abbrev pub twice_act : Shape → Datum → List Datum → Move
twice_act s memo input = next_of (int_lt (whole_number_of memo) (pos 2)) s (whole_number_of memo) input

abbrev pub looped_role_of : LoopedKind → Role
looped_role_of Function = Acts true true function_act
looped_role_of Lit = Constant
looped_role_of Add = computes 2 (λ os. wrapped_sum (known_at os 0) (known_at os 1))
looped_role_of Jump = Jumps
looped_role_of Return = Leaves
looped_role_of Repeat = Names counted_loop (operands_from 1)
looped_role_of Ask = Acts true true (ask_world (pos 6))
looped_role_of Twice = Acts true true twice_act

-- which counts a kind has beyond its role
abbrev pub looped_takes : LoopedKind → ℕ → ℕ → ℕ → Bool
looped_takes Function operands results regions = function_takes operands results regions
looped_takes Repeat operands results regions = nat_eq regions 1
looped_takes Ask operands results regions = nat_eq regions 0
looped_takes Twice operands results regions = nat_eq regions 1
looped_takes _ operands results regions = any_counts operands results regions

abbrev pub looped_number_of : LoopedKind → ℕ
looped_number_of Function = 0
looped_number_of Lit = 1
looped_number_of Add = 2
looped_number_of Jump = 3
looped_number_of Return = 4
looped_number_of Repeat = 5
looped_number_of Ask = 6
looped_number_of Twice = 7

abbrev pub looped_kind_of : ℕ → Option LoopedKind
looped_kind_of n =
    if nat_eq n 0 then Some Function
    else if nat_eq n 1 then Some Lit
    else if nat_eq n 2 then Some Add
    else if nat_eq n 3 then Some Jump
    else if nat_eq n 4 then Some Return
    else if nat_eq n 5 then Some Repeat
    else if nat_eq n 6 then Some Ask
    else if nat_eq n 7 then Some Twice
    else None

abbrev pub looped : Tables LoopedKind
looped = record {
  role_of = looped_role_of;
  number_of = looped_number_of;
  kind_of = looped_kind_of;
  constant = Lit;
  jump = Jump;
  value = never_asked;
  allows = λ k. allows_plain (looped_takes k) (looped_role_of k);
  is_ssa = λ k. true;
  accepts = is_whole_number;
  checks_edges = λ k. false;
}

numbered : (k : LoopedKind) → looped_kind_of (looped_number_of k) ≡ Some k
numbered Function = refl
numbered Lit = refl
numbered Add = refl
numbered Jump = refl
numbered Return = refl
numbered Repeat = refl
numbered Ask = refl
numbered Twice = refl

next_fits : (b : Bool) (s : Shape) (visits : ℤ) (input : List Datum) → CountsFit false s (next_of b s visits input)
next_fits true s visits input = visit_keeping_fits false 0 s input (Number (wrapped_sum visits (pos 1)))
next_fits false s visits input = length-fit_with_zeros s.results input

fit : (k : LoopedKind) (s : Shape) → RoleFits (looped.allows k) (looped_role_of k) s
fit Function s = λ h memo input. once_fits false s memo (visit_of 0 s input) (Leave input) (visit_fits false 0 s input) tt
fit Add s = computes_fits 2 (λ os. wrapped_sum (known_at os 0) (known_at os 1))
fit Jump s = jump_fits s
fit Repeat s = counted_fits s
fit Ask s = λ h. asks_fit (pos 6) s
fit Twice s = λ h memo input. next_fits (int_lt (whole_number_of memo) (pos 2)) s (whole_number_of memo) input
fit _ s = tt

pub keeps_looped : KeepsTables looped
keeps_looped = record {
  numbered = numbered;
  constant = refl;
  jump = refl;
  constants_allowed = λ attr h. h;
  jumps_allowed = λ n. refl;
  roles = fit;
}
