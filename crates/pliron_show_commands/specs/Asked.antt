-- How commands end that run the passes a word asks for.
use Rattle.std.specs.Prelude.{ℕ, Bool, true, List, Option}
use Rattle.pliron_driver.specs.PipelineTexts.{Plans}
use Rattle.pliron_pass_pipeline.specs.Pipelines.{PipelineOf, IsPipelineOf}
use Rattle.pliron_show_commands.specs.Outcomes.{EndsBadly}
use Rattle.pliron_show_commands.specs.Reports.{FaultsWord}
use Rattle.pliron_show.specs.Faults.{Faults}
use Rattle.pliron_show_commands.specs.declared.outcome.Outcome.{Outcome}

module _ {P D E B K : Type 0} (name : P → List ℕ) (EndsSo : PipelineOf P D E B K → Outcome → Type 0) where
  -- it ends so by a pipeline of passes with these names that are run in this way, or since no passes have them
  pub data EndsByPlannedRuns (runs : Option ℕ) (nested : Bool) (names : List (List ℕ)) (o : Outcome) : Type 0 where
    ByPasses : (pipeline : PipelineOf P D E B K) → IsPipelineOf name runs nested names pipeline → EndsSo pipeline o → EndsByPlannedRuns runs nested names o
    WithoutPasses : EndsBadly FaultsWord o → EndsByPlannedRuns runs nested names o

  -- it ends so by what the word plans, or since it plans nothing, or before the word is read, since the text has a fault
  pub data EndsByListWord (faults : Faults) (word : List ℕ) (o : Outcome) : Type 0 where
    ByPlan : (runs : Option ℕ) (nested : Bool) (names : List (List ℕ)) → Plans true word runs nested names → EndsByPlannedRuns runs nested names o → EndsByListWord faults word o
    WithoutPlan : EndsBadly FaultsWord o → EndsByListWord faults word o
    WithoutText : EndsBadly faults o → EndsByListWord faults word o
