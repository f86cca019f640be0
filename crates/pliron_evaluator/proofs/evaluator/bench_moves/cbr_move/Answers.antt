use Rattle.std.proofs.Common.{◌-◌, map, ap, ◌∙◌}
use Rattle.pliron_laws.specs.Datum.{Goto}
use Rattle.pliron_dialect.specs.Counted.{first_edge_count, two_counts, values_of_edge}
use Rattle.pliron_evaluator.specs.Evaluator.{datum_of_value}
use Rattle.pliron_evaluator.proofs.BenchActs.{along_edge}
use Rattle.pliron_evaluator.proofs.evaluator.bench_moves.cbr_move.Goals as goal

pub returns : goal.returns
returns c =
    let ns = two_counts (first_edge_count c.args.attrs.now) (c.args.operands - 1) in
    let edge = c.edge_taken-edge.result in
    let passed = c.in_ok-all_copies.ensures ∙ ap (map datum_of_value) c.values_along-values.ensures ∙ along_edge ns edge c.args.input.now in
    ap (Goto edge) passed ∙ ap (λ z. Goto z (values_of_edge ns z (map datum_of_value c.args.input.now))) c.edge_taken-edge.ensures.edge
