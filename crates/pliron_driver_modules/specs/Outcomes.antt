-- How a run ends.
use Rattle.std.specs.Prelude.{◌≡◌, ◌≤◌, ◌⊎◌, ℕ, Bool, true, false, List, [], ◌++◌, Option, None}
use Rattle.pliron_core.specs.Tree.{Tree}
use Rattle.pliron_core.specs.declared.attrs.IRStatus.{IRStatus}
use Rattle.pliron_laws.specs.Datum.{Meaning}
use Rattle.pliron_driver.specs.Answered.{Reads, Prints, IsOptimised, status_line}
use Rattle.pliron_driver.specs.PipelineTexts.{Plans}
use Rattle.pliron_pass_pipeline.specs.Pipelines.{PipelineOf, IsPipelineOf}
use Rattle.pliron_driver_modules.specs.declared.outcome.ModuleOutcome.{ModuleOutcome}

-- nothing is to be written, and the status is 1, 2 or 3
abbrev pub EndsWithout : ModuleOutcome → Type 0
EndsWithout o = (o.output.items ≡ []) × (1 ≤ o.status) × (o.status ≤ 3)

-- this is written, with 0, or nothing
abbrev pub Writes : (printed : List ℕ) → ModuleOutcome → Type 0
Writes printed o = ((o.output.items ≡ printed) × (o.status ≡ 0)) ⊎ EndsWithout o

module _ (reads : Reads) (prints : Prints) (m : Meaning) (ran : ℕ → Tree → Tree → IRStatus → Type 0) (text : List ℕ) where
  -- what is written is the tree, printed, that the passes made of the one that was read of the text
  pub record IsModuleMade (output : List ℕ) : Type 0 where
    pub status : IRStatus
    pub made : IsOptimised reads prints m ran text (output ++ status_line status)

  -- with 0 that is written, else nothing
  pub data EndsWithModule (o : ModuleOutcome) : Type 0 where
    WithModule : IsModuleMade o.output.items → o.status ≡ 0 → EndsWithModule o
    WithoutModule : EndsWithout o → EndsWithModule o

-- it ends so by passes that have these names and are run so, or nothing is to be written
pub data EndsByPlan {P D E B K : Type 0} (name : P → List ℕ) (EndsSo : PipelineOf P D E B K → ModuleOutcome → Type 0) (runs : Option ℕ) (nested : Bool) (names : List (List ℕ)) (o : ModuleOutcome) : Type 0 where
  ByPasses : (pipeline : PipelineOf P D E B K) → IsPipelineOf name runs nested names pipeline → EndsSo pipeline o → EndsByPlan name EndsSo runs nested names o
  WithoutPasses : EndsWithout o → EndsByPlan name EndsSo runs nested names o

-- the word is empty, and asks for no pass; or it plans passes of these names
pub data AsksFor (word : List ℕ) : Option ℕ → Bool → List (List ℕ) → Type 0 where
  Nothing : word ≡ [] → AsksFor word None false []
  Passes : (runs : Option ℕ) (nested : Bool) (names : List (List ℕ)) → Plans true word runs nested names → AsksFor word runs nested names

-- it ends so by passes that the word asks for, or nothing is to be written
pub data EndsByWord {P D E B K : Type 0} (name : P → List ℕ) (EndsSo : PipelineOf P D E B K → ModuleOutcome → Type 0) (word : List ℕ) (o : ModuleOutcome) : Type 0 where
  ByWord : (runs : Option ℕ) (nested : Bool) (names : List (List ℕ)) → AsksFor word runs nested names → EndsByPlan name EndsSo runs nested names o → EndsByWord name EndsSo word o
  WithoutWord : EndsWithout o → EndsByWord name EndsSo word o
