use Rattle.pliron_pass_pipeline.proofs.ReportLemmas.{side_cases, nested_same}
use Rattle.pliron_pass_pipeline.proofs.pipeline.rounds_report_accurately.Goals as goal

pub returns : goal.returns
returns g c = record {
  same = side_cases _
      (λ p q op s s' a. c.lists_report_accurately.ensures.same p q op s s' a)
      (λ p q op s s' a runs e. absurd runs)
      (λ p q op s s' a runs e. absurd runs)
      (λ p q op s s' a. nested_same _ _ c.lists_report_accurately.ensures _ p.pass q.pass s s' a);
}
