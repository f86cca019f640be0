-- What pipelines run.
use Rattle.std.specs.Prelude.{◌≡◌, ℕ, Bool, true, false, List, Option, Some, None, map}
use Rattle.either.specs.declared.Either.{Either}
use Rattle.either.specs.declared.Either.TheVariants.{Left, Right}
use Rattle.pliron_pass.specs.declared.passes.Passes.{Passes}
use Rattle.pliron_pass.specs.declared.nested.NestedOpsPass.{NestedOpsPass}
use Rattle.pliron_pass.specs.declared.repeat.Repeat.{Repeat}

-- a round: passes in turn, for the operation itself or for each operation directly inside it
abbrev pub RoundOf : (P D E B K : Type 0) → Type 0
RoundOf P D E B K = Either (Passes P D E B K) (NestedOpsPass (Passes P D E B K) D E B K)

-- a pipeline: a round once, or again and again
abbrev pub PipelineOf : (P D E B K : Type 0) → Type 0
PipelineOf P D E B K = Either (RoundOf P D E B K) (Repeat (RoundOf P D E B K) D E B K)

abbrev pub passes_in : {P D E B K : Type 0} → RoundOf P D E B K → List P
passes_in (Left passes) = passes.passes.items
passes_in (Right each) = each.pass.passes.items

abbrev pub is_nested : {P D E B K : Type 0} → RoundOf P D E B K → Bool
is_nested (Left passes) = false
is_nested (Right each) = true

abbrev pub round_of : {P D E B K : Type 0} → PipelineOf P D E B K → RoundOf P D E B K
round_of (Left once) = once
round_of (Right repeated) = repeated.pass

-- the most runs, where it is run until it changes nothing
abbrev pub runs_of : {P D E B K : Type 0} → PipelineOf P D E B K → Option ℕ
runs_of (Left once) = None
runs_of (Right repeated) = Some repeated.max

abbrev pub passes_of : {P D E B K : Type 0} → PipelineOf P D E B K → List P
passes_of pipeline = passes_in (round_of pipeline)

-- it runs passes of these names in turn, on each operation directly inside or not, and as often as `runs` says
pub record IsPipelineOf {P D E B K : Type 0} (name : P → List ℕ) (runs : Option ℕ) (nested : Bool) (names : List (List ℕ)) (pipeline : PipelineOf P D E B K) : Type 0 where
  pub runs_so : runs_of pipeline ≡ runs
  pub nested_so : is_nested (round_of pipeline) ≡ nested
  pub named_so : map name (passes_of pipeline) ≡ names
