use Rattle.std.proofs.Common.{map, ap, ◌∙◌}
use Rattle.pliron_laws.specs.Datum.{Visit}
use Rattle.pliron_evaluator.specs.Evaluator.{datum_of_value}
use Rattle.pliron_dialect_bench.specs.BenchMoves.{fit_with_zeros}
use Rattle.pliron_role_runs.proofs.own_moves.visit_keeping.Goals as goal

pub returns : goal.returns
returns c =
    let i = c.args.region in
    let values = map datum_of_value c.args.values.now in
    let memo = datum_of_value c.args.memo in
    ap (λ z. Visit i z memo) c.in_ok-passed.ensures ∙ ap (λ z. Visit i (fit_with_zeros z values) memo) c.entry_argument.ensures
