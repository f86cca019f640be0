-- What a text names of a tree.
use Rattle.std.specs.Prelude.{List, [], ◌∷◌}
use Rattle.pliron_core.specs.Tree.{Tree, IsLive, IsBlock, IsRegion}
use Rattle.pliron_text.specs.declared.steps.OutlineStep.{OutlineStep}
use Rattle.pliron_text.specs.declared.steps.OutlineStep.TheVariants.{Operation, Region, Block, End}

-- what the step names is live
abbrev pub IsStepLive : Tree → OutlineStep → Type 0
IsStepLive t (Operation op) = IsLive t op
IsStepLive t (Region region) = IsRegion t region
IsStepLive t (Block block) = IsBlock t block
IsStepLive t (End region) = IsRegion t region

abbrev pub AreStepsLive : Tree → List OutlineStep → Type 0
AreStepsLive t [] = Unit {0}
AreStepsLive t (step ∷ steps) = IsStepLive t step × AreStepsLive t steps
