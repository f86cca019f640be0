-- What authors of calls may take for the tables of their kinds: what calls acts by `effect_act` (pliron_dialect), and a
-- function by `visit_and_leave`.
use Rattle.std.proofs.Common.{◌≡◌, ℕ, zero, suc, Bool, List, [], ◌∷◌, length, slice_index_or, refl, ap, ◌∙◌, arith}
use Rattle.pliron_laws.specs.Datum.{Datum, Empty, Number, Text, Join, Shape, Move, Give, Visit, Leave}
use Rattle.pliron_laws.specs.Laws.{CountsFit}
use Rattle.pliron_dialect.specs.Roles.{chain_of, data_in, effect_act, fit_data, memo_after_effect}
use Rattle.pliron_dialect.specs.CountLaws.{at_fits}
use Rattle.pliron_dialect_calls.specs.CallTables.{AsksOnce, VisitsOnce, StaysInside}

-- the data that a chain was made of are in it
pub in_chain : (ds : List Datum) → data_in (chain_of ds) ≡ ds
in_chain [] = refl
in_chain (d ∷ ds) = ap (λ xs. d ∷ xs) (in_chain ds)

-- so many data are neither cut nor filled
pub fitted : (n : ℕ) (ds : List Datum) → length ds ≡ n → fit_data n ds ≡ ds
fitted zero [] e = refl
fitted zero (d ∷ ds) e = absurd (grind (arith, e))
fitted (suc n) [] e = absurd (grind (arith, e))
fitted (suc n) (d ∷ ds) e = ap (λ xs. d ∷ xs) (fitted n ds (omega (arith, e)))

pub effect_asks : AsksOnce effect_act
effect_asks = record {
  memo = memo_after_effect;
  asks = λ s operands. refl;
  gives = λ s results long. ap (λ xs. Give (fit_data s.results xs)) (in_chain results) ∙ ap Give (fitted s.results results long);
}

pub effect_stays : StaysInside effect_act
effect_stays s Empty input results e = grind (arith, e)
effect_stays s (Number n) input results e = grind (arith, e)
effect_stays s (Text x) input results e = grind (arith, e)
effect_stays s (Join x y) input results e = grind (arith, e)

-- the first region is visited once, with the operands, cut or filled to what its entry takes; then it is left with what that
-- gave
abbrev pub visit_and_leave : Shape → Datum → List Datum → Move
visit_and_leave s Empty input = Visit 0 (fit_data (slice_index_or s.entry_arguments 0 0) input) memo_after_effect
visit_and_leave s memo input = Leave input

pub region_visited : VisitsOnce visit_and_leave
region_visited = record {
  memo = memo_after_effect;
  visits = λ s operands takes. ap (λ ns. Visit 0 (fit_data (slice_index_or ns 0 0) operands) memo_after_effect) takes ∙ ap (λ ds. Visit 0 ds memo_after_effect) (fitted (length operands) operands refl);
  leaves = λ s results. refl;
}

pub visit_and_leave_fits : (b : Bool) (s : Shape) (memo : Datum) (input : List Datum) → CountsFit b s (visit_and_leave s memo input)
visit_and_leave_fits b s Empty input = λ n at. at_fits s.entry_arguments 0 input n at
visit_and_leave_fits b s (Number n) input = tt
visit_and_leave_fits b s (Text x) input = tt
visit_and_leave_fits b s (Join x y) input = tt
