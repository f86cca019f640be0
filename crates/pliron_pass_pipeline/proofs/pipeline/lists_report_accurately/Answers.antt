use Rattle.pliron_pass_pipeline.proofs.ReportLemmas.{run_honest, passes_same}
use Rattle.pliron_pass_pipeline.proofs.pipeline.lists_report_accurately.Goals as goal

pub returns : goal.returns
returns g c = record {
  same = λ p p' op s s' a. passes_same _ _ (run_honest _ _ _ _ g.met.S.Step.accurate) p.passes.items p'.passes.items op s s' a;
}
