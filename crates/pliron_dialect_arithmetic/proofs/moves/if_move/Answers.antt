use Rattle.std.proofs.Common.{◌≡◌, drop, map, sym, subst}
use Rattle.std.specs.Result.{IfOk}
use Rattle.pliron_role_runs.specs.OwnMoves.{shape_of_counts}
use Rattle.pliron_role_runs.specs.Visits.{visit_of}
use Rattle.pliron_evaluator.specs.Evaluator.{datum_of_value, move_of}
use Rattle.pliron_dialect_arithmetic.specs.Arithmetic.{if_act}
use Rattle.pliron_dialect_arithmetic.proofs.moves.if_move.Goals as goal

pub returns-in-Empty : goal.returns-in-Empty
returns-in-Empty c =
    let r = c.visit.result in
    let s = shape_of_counts c.args.counts.now in
    let input = map datum_of_value c.args.input.now in
    subst (λ d. IfOk r (λ n. move_of n ≡ if_act s (datum_of_value d) input)) (sym c.in-Empty.is)
    (subst (λ i. IfOk r (λ n. move_of n ≡ visit_of i s (drop 1 input))) c.choice_by_input-region.ensures
    (subst (λ vs. IfOk r (λ n. move_of n ≡ visit_of c.choice_by_input-region.result s vs)) c.behind_first-rest.ensures c.visit.ensures))
