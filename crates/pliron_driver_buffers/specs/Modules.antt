-- What is answered to a word and a module of MLIR.
use Rattle.std.specs.Prelude.{◌≡◌, ℕ, Bool, List, ◌++◌, Option}
use Rattle.pliron_core.specs.Tree.{Tree}
use Rattle.pliron_core.specs.declared.attrs.IRStatus.{IRStatus}
use Rattle.pliron_core.specs.declared.attrs.IRStatus.TheVariants.{Changed, Unchanged}
use Rattle.pliron_laws.specs.Datum.{Meaning}
use Rattle.pliron_driver.specs.Answered.{Reads, Prints, IsOptimised, status_line}
use Rattle.pliron_pass_pipeline.specs.Pipelines.{PipelineOf, IsPipelineOf}
use Rattle.pliron_driver_modules.specs.Outcomes.{AsksFor}

-- the word asks for what the pipeline runs
pub record IsAsked {P D E B K : Type 0} (name : P → List ℕ) (word : List ℕ) (pipeline : PipelineOf P D E B K) : Type 0 where
  pub runs : Option ℕ
  pub nested : Bool
  pub names : List (List ℕ)
  pub asked : AsksFor word runs nested names
  pub planned : IsPipelineOf name runs nested names pipeline

-- the word asks for a pipeline of passes, of those that run so
pub record IsWord {P D E B K : Type 0} (name : P → List ℕ) (ran : PipelineOf P D E B K → ℕ → Tree → Tree → IRStatus → Type 0) (word : List ℕ) : Type 0 where
  pub pipeline : PipelineOf P D E B K
  pub asked : IsAsked name word pipeline

-- the numbers by which other languages know whether a tree changed
abbrev pub number_of_change : IRStatus → ℕ
number_of_change Changed = 1
number_of_change Unchanged = 0

-- the word asks for a pipeline of passes, the answer is what these make of the module, printed, and the number says
-- whether a pass changed it
pub record OptimisesModule {P D E B K : Type 0} (name : P → List ℕ) (reads : Reads) (prints : Prints) (m : Meaning) (ran : PipelineOf P D E B K → ℕ → Tree → Tree → IRStatus → Type 0) (word text : List ℕ) (changed : ℕ) (answer : List ℕ) : Type 0 where
  pub pipeline : PipelineOf P D E B K
  pub asked : IsAsked name word pipeline
  pub status : IRStatus
  pub reported : changed ≡ number_of_change status
  pub optimised : IsOptimised reads prints m (ran pipeline) text (answer ++ status_line status)
