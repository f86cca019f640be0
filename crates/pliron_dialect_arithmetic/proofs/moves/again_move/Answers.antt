use Rattle.std.proofs.Common.{◌≡◌, drop, map, sym, ◌∙◌, subst}
use Rattle.std.specs.Result.{IfOk}
use Rattle.pliron_laws.specs.Datum.{Give}
use Rattle.pliron_role_runs.specs.OwnMoves.{shape_of_counts}
use Rattle.pliron_role_runs.specs.Visits.{visit_of}
use Rattle.pliron_evaluator.specs.Evaluator.{datum_of_value, move_of}
use Rattle.pliron_dialect_arithmetic.specs.Arithmetic.{again_unless}
use Rattle.pliron_role_runs.specs.Visits.{fit_with_zeros}
use Rattle.pliron_dialect_arithmetic.proofs.moves.again_move.Goals as goal

pub returns-then-is_over : goal.returns-then-is_over
returns-then-is_over c =
    let r = c.give.result in
    let s = shape_of_counts c.args.counts.now in
    let input = map datum_of_value c.args.input.now in
    subst (λ b. IfOk r (λ n. move_of n ≡ again_unless b s (drop 1 input))) (sym (sym c.is_over.ensures ∙ c.if-is_over.true))
    (subst (λ vs. IfOk r (λ n. move_of n ≡ Give (fit_with_zeros s.results vs))) c.behind_first-rest.ensures c.give.ensures)

pub returns-else-is_over : goal.returns-else-is_over
returns-else-is_over c =
    let r = c.visit.result in
    let s = shape_of_counts c.args.counts.now in
    let input = map datum_of_value c.args.input.now in
    subst (λ b. IfOk r (λ n. move_of n ≡ again_unless b s (drop 1 input))) (sym (sym c.is_over.ensures ∙ c.if-is_over.false))
    (subst (λ vs. IfOk r (λ n. move_of n ≡ visit_of 0 s vs)) c.behind_first-rest.ensures c.visit.ensures)
