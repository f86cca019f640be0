-- The tables of the dialect: a line for each kind.
use Rattle.std.proofs.Common.{◌≡◌, ℕ, nat_eq, if◌then◌else◌, ◌&&◌, Bool, true, false, List, [], ◌∷◌, Option, Some, None, refl}
use Rattle.std.specs.Prelude.{pos}
use Rattle.pliron_opts_tests.specs.declared.guessed_kind.GuessedKind.{GuessedKind}
use Rattle.pliron_opts_tests.specs.declared.guessed_kind.GuessedKind.TheVariants.{Function, Lit, Jump, Return, Ask, Guess}
use Rattle.pliron_laws.specs.Datum.{Datum, Shape, Move, Leave}
use Rattle.pliron_dialect.specs.Roles.{Role, Tables, KeepsTables, RoleFits, Interpretation, Constant, Opaque, Jumps, Leaves, Acts}
use Rattle.pliron_role_runs.specs.Numbers.{is_whole_number}
use Rattle.pliron_role_runs.specs.Plain.{any_counts, allows_plain, jump_fits}
use Rattle.pliron_role_runs.specs.Visits.{visit_of, visit_fits, once_fits, ask_world, asks_fit}
use Rattle.pliron_dialect_bench.specs.BenchMoves.{once}

abbrev pub function_act : Shape → Datum → List Datum → Move
function_act s memo input = once memo (visit_of 0 s input) (Leave input)

-- a guess is the first of its operands
abbrev pub guessed_value : Interpretation
guessed_value h [] = []
guessed_value h (d ∷ ds) = d ∷ []

abbrev pub guessed_role_of : GuessedKind → Role
guessed_role_of Function = Acts true true function_act
guessed_role_of Lit = Constant
guessed_role_of Jump = Jumps
guessed_role_of Return = Leaves
guessed_role_of Ask = Acts true true (ask_world (pos 4))
guessed_role_of Guess = Opaque

-- which counts a kind has beyond its role
abbrev pub guessed_takes : GuessedKind → ℕ → ℕ → ℕ → Bool
guessed_takes Function operands results regions = nat_eq operands 0 && nat_eq results 0 && nat_eq regions 1
guessed_takes Ask operands results regions = nat_eq regions 0
guessed_takes _ operands results regions = any_counts operands results regions

abbrev pub guessed_number_of : GuessedKind → ℕ
guessed_number_of Function = 0
guessed_number_of Lit = 1
guessed_number_of Jump = 2
guessed_number_of Return = 3
guessed_number_of Ask = 4
guessed_number_of Guess = 5

abbrev pub guessed_kind_of : ℕ → Option GuessedKind
guessed_kind_of n =
    if nat_eq n 0 then Some Function
    else if nat_eq n 1 then Some Lit
    else if nat_eq n 2 then Some Jump
    else if nat_eq n 3 then Some Return
    else if nat_eq n 4 then Some Ask
    else if nat_eq n 5 then Some Guess
    else None

abbrev pub guessed : Tables GuessedKind
guessed = record {
  role_of = guessed_role_of;
  number_of = guessed_number_of;
  kind_of = guessed_kind_of;
  constant = Lit;
  jump = Jump;
  value = guessed_value;
  allows = λ k. allows_plain (guessed_takes k) (guessed_role_of k);
  is_ssa = λ k. true;
  accepts = is_whole_number;
  checks_edges = λ k. false;
}

numbered : (k : GuessedKind) → guessed_kind_of (guessed_number_of k) ≡ Some k
numbered Function = refl
numbered Lit = refl
numbered Jump = refl
numbered Return = refl
numbered Ask = refl
numbered Guess = refl

fit : (k : GuessedKind) (s : Shape) → RoleFits (guessed.allows k) (guessed_role_of k) s
fit Function s = λ h memo input. once_fits false s memo (visit_of 0 s input) (Leave input) (visit_fits false 0 s input) tt
fit Jump s = jump_fits s
fit Ask s = λ h. asks_fit (pos 4) s
fit _ s = tt

pub keeps_guessed : KeepsTables guessed
keeps_guessed = record {
  numbered = numbered;
  constant = refl;
  jump = refl;
  constants_allowed = λ attr h. h;
  jumps_allowed = λ n. refl;
  roles = fit;
}
