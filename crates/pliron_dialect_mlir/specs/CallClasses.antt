-- Which classes call functions by name, which are functions with a name, and which never leave their function.
use Rattle.std.proofs.Common.{◌≡◌, ℕ, Bool, true, false, List, Option, Some, None, IsSome, IsTrue, refl, ap, sym, ◌∙◌, arith}
use Rattle.std.specs.Prelude.{slice_index_or, [], ◌∷◌, length, pos}
use Rattle.pliron_laws.specs.Datum.{Datum, Empty, Number, Text, Join, Shape, Move, Visit, Leave}
use Rattle.pliron_dialect.specs.Roles.{Interpretation, act_of, fit_data}
use Rattle.pliron_dialect_calls.specs.CallTables.{CallTables, KeepsCalls, AsksOnce, VisitsOnce, StaysInside}
use Rattle.pliron_dialect_calls.specs.ReadyActs.{fitted, effect_asks, effect_stays}
use Rattle.pliron_dialect_mlir.specs.declared.kind.Class.{Class}
use Rattle.pliron_dialect_mlir.specs.declared.kind.Class.TheVariants.{Effect, Call, Function}
use Rattle.pliron_dialect_mlir.specs.Classes.{mlir, role_of_class, root_act}
use Rattle.pliron_dialect_mlir.specs.OtherData.{given_otherwise}

-- a call and a function have the name first
abbrev pub callee_place : Class → Option ℕ
callee_place Call = Some 0
callee_place _ = None

abbrev pub symbol_place : Class → Option ℕ
symbol_place Function = Some 0
symbol_place _ = None

-- what belongs to its function isn't said to stay, so that it isn't copied to another one
abbrev pub stays_inside : Class → Bool
stays_inside Effect = true
stays_inside Call = true
stays_inside _ = false

abbrev pub mlir_calls : {K : Type 0} → (K → Class) → CallTables K
mlir_calls class_of = record {
  callee_place = λ k. callee_place (class_of k);
  symbol_place = λ k. symbol_place (class_of k);
  stays = λ k. stays_inside (class_of k);
}

call_asks : (value : Interpretation) (c : Class) → IsSome (callee_place c) → AsksOnce (act_of value (role_of_class c))
call_asks value Call there = effect_asks
call_asks value _ there = absurd (grind (arith, there))

root_leaves : (s : Shape) (results : List Datum) → root_act s (Number (pos 1)) results ≡ Leave results
root_leaves s results = refl

root_visited : VisitsOnce root_act
root_visited = record {
  memo = Number (pos 1);
  visits = λ s operands takes. ap (λ ns. Visit 0 (fit_data (slice_index_or ns 0 0) operands) (Number (pos 1))) takes ∙ ap (λ ds. Visit 0 ds (Number (pos 1))) (fitted (length operands) operands refl);
  leaves = root_leaves;
}

function_visits : (value : Interpretation) (c : Class) → IsSome (symbol_place c) → VisitsOnce (act_of value (role_of_class c))
function_visits value Function there = root_visited
function_visits value _ there = absurd (grind (arith, there))

effects_stay : (value : Interpretation) (c : Class) → IsTrue (stays_inside c) → StaysInside (act_of value (role_of_class c))
effects_stay value Effect p = effect_stays
effects_stay value Call p = effect_stays
effects_stay value _ p = absurd (grind (arith, p))

pub keeps_mlir_calls : {K : Type 0} (class_of : K → Class) (kind : Class → K) (value : Interpretation) → KeepsCalls (mlir class_of kind value) (mlir_calls class_of)
keeps_mlir_calls class_of kind value = record {
  calls = λ k there. call_asks (given_otherwise value) (class_of k) there;
  functions = λ k there. function_visits (given_otherwise value) (class_of k) there;
  stays = λ k p. effects_stay (given_otherwise value) (class_of k) p;
}
