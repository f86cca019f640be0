-- What is answered to a list of passes and a text.
use Rattle.std.specs.Prelude.{ℕ, List, ⊤}
use Rattle.pliron_core.specs.Tree.{Tree}
use Rattle.pliron_core.specs.declared.attrs.IRStatus.{IRStatus}
use Rattle.pliron_laws.specs.Datum.{Meaning}
use Rattle.pliron_pass.specs.declared.bench_facts.BenchFactKind.{BenchFactKind}
use Rattle.pliron_pass.specs.declared.bench_facts.BenchFacts.{BenchFacts}
use Rattle.pliron_pass_pipeline.specs.PassSteps.{PassPipelineOf}
use Rattle.pliron_driver.specs.Answered.{Reads, Prints, IsOptimised}
use Rattle.pliron_driver.specs.Asked.{IsPlanned}
use Rattle.pliron_driver_buffers.specs.declared.status.CallFailure.{CallFailure}
use Rattle.pliron_driver_buffers.specs.declared.status.CallFailure.TheVariants.{Arguments, Text, Refused, Memory}

-- the list plans a pipeline of passes, and the answer is what these make of the text, printed
pub record Optimises {D L B : Type 0} (reads : Reads) (prints : Prints) (m : Meaning) (ran : PassPipelineOf D BenchFacts L B BenchFactKind → ℕ → Tree → Tree → IRStatus → Type 0) (list text answer : List ℕ) : Type 0 where
  pub pipeline : PassPipelineOf D BenchFacts L B BenchFactKind
  pub planned : IsPlanned list pipeline
  pub optimised : IsOptimised reads prints m (ran pipeline) text answer

-- the list plans a pipeline of passes, of those that run so
pub record IsListedPipeline {D L B : Type 0} (ran : PassPipelineOf D BenchFacts L B BenchFactKind → ℕ → Tree → Tree → IRStatus → Type 0) (list : List ℕ) : Type 0 where
  pub pipeline : PassPipelineOf D BenchFacts L B BenchFactKind
  pub planned : IsPlanned list pipeline

-- why there is no answer: of the list nothing is said; or it is one, and the text is at fault, or the passes gave up
abbrev pub Explains : (listed : Type 0) → CallFailure → Type 0
Explains listed Arguments = ⊤
Explains listed Text = listed
Explains listed Refused = listed
Explains listed Memory = ⊤
