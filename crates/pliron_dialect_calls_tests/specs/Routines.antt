-- The tables of a small dialect with calls and functions: a line for each kind.
use Rattle.std.proofs.Common.{◌≡◌, ℕ, nat_eq, if◌then◌else◌, Bool, true, false, List, [], ◌∷◌, Option, Some, None, IsSome, IsTrue, refl, arith}
use Rattle.pliron_dialect_calls_tests.specs.declared.routine_kind.RoutineKind.{RoutineKind}
use Rattle.pliron_dialect_calls_tests.specs.declared.routine_kind.RoutineKind.TheVariants.{Func, Call, Ret, Jmp, Lit, Pack, Print}
use Rattle.pliron_laws.specs.Datum.{Datum, Shape}
use Rattle.pliron_dialect.specs.Roles.{Role, Tables, KeepsTables, RoleFits, Interpretation, Constant, Opaque, Jumps, Leaves, Acts, act_of, chain_of, effect_act}
use Rattle.pliron_dialect.specs.CountLaws.{effect_fits}
use Rattle.pliron_dialect_calls.specs.CallTables.{CallTables, KeepsCalls, AsksOnce, VisitsOnce, StaysInside}
use Rattle.pliron_dialect_calls.specs.ReadyActs.{visit_and_leave, visit_and_leave_fits, effect_asks, effect_stays, region_visited}

-- what packs gives one datum of all that it takes
abbrev pub routine_value : Interpretation
routine_value h ds = chain_of ds ∷ []

abbrev pub routine_role_of : RoutineKind → Role
routine_role_of Func = Acts true true visit_and_leave
routine_role_of Call = Acts true false effect_act
routine_role_of Ret = Leaves
routine_role_of Jmp = Jumps
routine_role_of Lit = Constant
routine_role_of Pack = Opaque
routine_role_of Print = Acts true false effect_act

abbrev pub routine_number_of : RoutineKind → ℕ
routine_number_of Func = 0
routine_number_of Call = 1
routine_number_of Ret = 2
routine_number_of Jmp = 3
routine_number_of Lit = 4
routine_number_of Pack = 5
routine_number_of Print = 6

abbrev pub routine_kind_of : ℕ → Option RoutineKind
routine_kind_of n =
    if nat_eq n 0 then Some Func
    else if nat_eq n 1 then Some Call
    else if nat_eq n 2 then Some Ret
    else if nat_eq n 3 then Some Jmp
    else if nat_eq n 4 then Some Lit
    else if nat_eq n 5 then Some Pack
    else if nat_eq n 6 then Some Print
    else None

abbrev pub routines : Tables RoutineKind
routines = record {
  role_of = routine_role_of;
  number_of = routine_number_of;
  kind_of = routine_kind_of;
  constant = Lit;
  jump = Jmp;
  value = routine_value;
  allows = λ k h a b c d. true;
  is_ssa = λ k. true;
  accepts = λ attr. true;
  checks_edges = λ k. false;
}

-- a call has the name of its callee first, a function its own
abbrev pub callee_place : RoutineKind → Option ℕ
callee_place Call = Some 0
callee_place _ = None

abbrev pub symbol_place : RoutineKind → Option ℕ
symbol_place Func = Some 0
symbol_place _ = None

abbrev pub stays : RoutineKind → Bool
stays Call = true
stays Print = true
stays _ = false

abbrev pub routine_calls : CallTables RoutineKind
routine_calls = record { callee_place = callee_place; symbol_place = symbol_place; stays = stays }

numbered : (k : RoutineKind) → routine_kind_of (routine_number_of k) ≡ Some k
numbered Func = refl
numbered Call = refl
numbered Ret = refl
numbered Jmp = refl
numbered Lit = refl
numbered Pack = refl
numbered Print = refl

fit : (k : RoutineKind) (s : Shape) → RoleFits (routines.allows k) (routine_role_of k) s
fit Func s = λ h memo input. visit_and_leave_fits false s memo input
fit Call s = λ h memo input. effect_fits false s memo input
fit Jmp s = λ lt h. refl
fit Print s = λ h memo input. effect_fits false s memo input
fit _ s = tt

pub keeps_routines : KeepsTables routines
keeps_routines = record {
  numbered = numbered;
  constant = refl;
  jump = refl;
  constants_allowed = λ attr h. refl;
  jumps_allowed = λ n. refl;
  roles = fit;
}

call_asks : (k : RoutineKind) → IsSome (callee_place k) → AsksOnce (act_of routine_value (routine_role_of k))
call_asks Call there = effect_asks
call_asks _ there = absurd (grind (arith, there))

function_visits : (k : RoutineKind) → IsSome (symbol_place k) → VisitsOnce (act_of routine_value (routine_role_of k))
function_visits Func there = region_visited
function_visits _ there = absurd (grind (arith, there))

effects_stay : (k : RoutineKind) → IsTrue (stays k) → StaysInside (act_of routine_value (routine_role_of k))
effects_stay Call p = effect_stays
effects_stay Print p = effect_stays
effects_stay _ p = absurd (grind (arith, p))

pub keeps_routine_calls : KeepsCalls routines routine_calls
keeps_routine_calls = record { calls = call_asks; functions = function_visits; stays = effects_stay }
