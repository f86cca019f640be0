-- Which kinds call their callees alone.
use Rattle.std.proofs.Common.{Bool, true, false, IsTrue, arith}
use Rattle.pliron_dialect_calls_tests.specs.declared.routine_kind.RoutineKind.{RoutineKind}
use Rattle.pliron_dialect_calls_tests.specs.declared.routine_kind.RoutineKind.TheVariants.{Func, Call, Pack, Print}
use Rattle.pliron_dialect_calls_tests.specs.Routines.{routines, routine_role_of, routine_calls}
use Rattle.pliron_rewrite_symbols.specs.CallersByRole.{OwnActShowsItself, CallersLaw, callers_by_role, effect_itself, visit_itself}

-- packs are said to call anything
abbrev pub is_traced_kind : RoutineKind → Bool
is_traced_kind Pack = false
is_traced_kind _ = true

pub kind_itself : (k : RoutineKind) → IsTrue (is_traced_kind k) → OwnActShowsItself (routine_role_of k)
kind_itself Func p = visit_itself
kind_itself Call p = effect_itself
kind_itself Print p = effect_itself
kind_itself Pack p = absurd (grind (arith, p))
kind_itself _ p = tt

pub routine_callers : CallersLaw routines routine_calls
routine_callers = callers_by_role routines routine_calls
