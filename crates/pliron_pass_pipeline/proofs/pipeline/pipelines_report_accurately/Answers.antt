use Rattle.pliron_pass_pipeline.proofs.ReportLemmas.{side_cases, repeat_same, run_honest}
use Rattle.pliron_pass_pipeline.proofs.pipeline.pipelines_report_accurately.Goals as goal

pub returns : goal.returns
returns g c = record {
  same = side_cases _
      (λ p q op s s' a. c.rounds_report_accurately.ensures.same p q op s s' a)
      (λ p q op s s' a runs e. absurd runs)
      (λ p q op s s' a runs e. absurd runs)
      (λ p q op s s' a runs e. repeat_same _ _ (run_honest _ _ _ _ c.rounds_report_accurately.ensures) p.max op p.pass q.pass s s' q.runs a runs.2 e);
}
