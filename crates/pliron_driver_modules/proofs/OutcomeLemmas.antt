-- How runs of the program end.
use Rattle.std.proofs.Common.{◌≡◌, ◌⊎◌, inl, inr, ℕ, Bool, List, [], ◌++◌, Option, Some, IfSome, Result, Ok, Err, IfOk, sym, subst}
use Rattle.pliron_core.specs.Tree.{Tree}
use Rattle.pliron_core.specs.declared.attrs.IRStatus.{IRStatus}
use Rattle.pliron_laws.specs.Datum.{Meaning}
use Rattle.pliron_driver.specs.Answered.{Reads, Prints, IsOptimised, status_line}
use Rattle.pliron_pass_pipeline.specs.Pipelines.{PipelineOf, IsPipelineOf}
use Rattle.pliron_driver_modules.specs.declared.outcome.ModuleOutcome.{ModuleOutcome}
use Rattle.pliron_driver_modules.specs.Outcomes.{EndsWithout, Writes, EndsWithModule, EndsWithModule.WithModule, EndsWithModule.WithoutModule, EndsByPlan, EndsByPlan.ByPasses, EndsByPlan.WithoutPasses}

module _ (reads : Reads) (prints : Prints) (m : Meaning) (ran : ℕ → Tree → Tree → IRStatus → Type 0) (text : List ℕ) where
  made_of : (printed : List ℕ) (status : IRStatus) (o : ModuleOutcome) → IsOptimised reads prints m ran text (printed ++ status_line status) → Writes printed o → EndsWithModule reads prints m ran text o
  made_of printed status o made (inl writes) = WithModule (record { status = status; made = subst (λ output. IsOptimised reads prints m ran text (output ++ status_line status)) (sym writes.0) made }) writes.1
  made_of printed status o made (inr without) = WithoutModule without

  pub ends_made : {X : Type 0} (printed : List ℕ) (status : IRStatus) (r : Result ModuleOutcome X) → IsOptimised reads prints m ran text (printed ++ status_line status) → IfOk r (Writes printed) → IfOk r (EndsWithModule reads prints m ran text)
  ends_made printed status (Ok o) made writes = made_of printed status o made writes
  ends_made printed status (Err e) made writes = tt

  pub ends_without : {X : Type 0} (r : Result ModuleOutcome X) → IfOk r EndsWithout → IfOk r (EndsWithModule reads prints m ran text)
  ends_without (Ok o) without = WithoutModule without
  ends_without (Err e) without = tt

module _ {P D E B K X : Type 0} (name : P → List ℕ) (EndsSo : PipelineOf P D E B K → ModuleOutcome → Type 0) where
  pub ends_planned : (runs : Option ℕ) (nested : Bool) (names : List (List ℕ)) (pipeline : PipelineOf P D E B K) (found : Option (PipelineOf P D E B K)) (r : Result ModuleOutcome X) → found ≡ Some pipeline → IfSome found (IsPipelineOf name runs nested names) → IfOk r (EndsSo pipeline) → IfOk r (EndsByPlan name EndsSo runs nested names)
  ends_planned runs nested names pipeline found (Ok o) is planned ends = ByPasses pipeline (subst (λ f. IfSome f (IsPipelineOf name runs nested names)) is planned) ends
  ends_planned runs nested names pipeline found (Err e) is planned ends = tt

  pub ends_unplanned : (runs : Option ℕ) (nested : Bool) (names : List (List ℕ)) (r : Result ModuleOutcome X) → IfOk r EndsWithout → IfOk r (EndsByPlan name EndsSo runs nested names)
  ends_unplanned runs nested names (Ok o) without = WithoutPasses without
  ends_unplanned runs nested names (Err e) without = tt
