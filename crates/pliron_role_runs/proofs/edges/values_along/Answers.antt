use Rattle.std.proofs.Common.{◌-◌, map, take, drop, ap, sym, ◌∙◌}
use Rattle.pliron_evaluator.specs.Evaluator.{datum_of_value}
use Rattle.pliron_dialect.specs.Counted.{edge_counts_in, start_of, count_of, counts_by, two_counts, values_of_edge, first_edge_count}
use Rattle.pliron_role_runs.proofs.EdgeReads.{along_edge}
use Rattle.pliron_role_runs.proofs.edges.values_along.Goals as goal

pub returns-in-OfFirst : goal.returns-in-OfFirst
returns-in-OfFirst c =
    let counts = c.args.counts.now in
    let attrs = c.args.attrs.now in
    let input = map datum_of_value c.args.input.now in
    let ns = two_counts (first_edge_count attrs) (counts.operands - 1) in
    ap (map datum_of_value) c.values_of_two.ensures ∙ along_edge ns c.args.edge c.behind_first-values.result.now
    ∙ ap (λ z. take (count_of ns c.args.edge) (drop (start_of ns c.args.edge) z)) c.behind_first-values.ensures
    ∙ ap (λ k. values_of_edge (counts_by k counts.successors counts.operands attrs) c.args.edge input) (sym c.in-OfFirst.is)

pub returns-in-OfEach : goal.returns-in-OfEach
returns-in-OfEach c =
    let counts = c.args.counts.now in
    let attrs = c.args.attrs.now in
    let input = map datum_of_value c.args.input.now in
    let ns = edge_counts_in counts.successors attrs in
    ap (map datum_of_value) c.values_of_each.ensures ∙ along_edge ns c.args.edge c.behind_first-values.result.now
    ∙ ap (λ z. take (count_of ns c.args.edge) (drop (start_of ns c.args.edge) z)) c.behind_first-values.ensures
    ∙ ap (λ k. values_of_edge (counts_by k counts.successors counts.operands attrs) c.args.edge input) (sym c.in-OfEach.is)
