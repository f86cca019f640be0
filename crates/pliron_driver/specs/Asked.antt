-- What words ask the program for.
use Rattle.std.specs.Prelude.{◌≡◌, ℕ, Bool, List, [], ◌∷◌, Option, codes}
use Rattle.pliron_pass_pipeline.specs.Pipelines.{IsPipelineOf}
use Rattle.pliron_pass_pipeline.specs.PassSteps.{PassPipelineOf, step_name}
use Rattle.pliron_driver.specs.Plans.{IsPlan}
use Rattle.pliron_driver.specs.declared.driver.command.Command.{Command}
use Rattle.pliron_driver.specs.declared.driver.command.Command.TheVariants.{Optimise, Graph}

-- the word plans the passes of the pipeline by their names in order, on each operation directly inside or not, and run as
-- often
pub record IsPlanned {D E L B K : Type 0} (word : List ℕ) (pipeline : PassPipelineOf D E L B K) : Type 0 where
  pub runs : Option ℕ
  pub nested : Bool
  pub names : List (List ℕ)
  pub plan : IsPlan word runs nested names
  pub planned : IsPipelineOf step_name runs nested names pipeline

-- the words ask for the command: they are the one word `graph`, or one that plans the pipeline
abbrev pub AskFor : {D L B : Type 0} → List (List ℕ) → Command D L B → Type 0
AskFor words (Optimise pipeline) = (word : List ℕ) × (words ≡ word ∷ []) × IsPlanned word pipeline
AskFor words Graph = words ≡ codes "graph" ∷ []
