-- How the program ends on its streams.
use Rattle.std.proofs.Common.{◌≡◌, ℕ, Bool, List, [], ◌++◌, Option, Some, None, IfSome, Result, Ok, Err, IfOk, refl, sym, ap, ◌∙◌}
use Rattle.pliron_driver.specs.Ending.{IsRestOfInput}
use Rattle.pliron_pass_pipeline.specs.Pipelines.{PipelineOf}
use Rattle.pliron_driver_modules.specs.declared.outcome.ModuleOutcome.{ModuleOutcome}
use Rattle.pliron_driver_modules.specs.Outcomes.{EndsWithout, EndsByPlan, AsksFor, EndsByWord, EndsByWord.ByWord, EndsByWord.WithoutWord}
use Rattle.pliron_driver_modules.specs.Streams.{IsOfInput, IsOutcomeWritten, EndsOnStreams, EndsOnStreams.WithOutcome}

-- all that was left is read into an empty buffer, and passed on
pub is_rest : (known : Option (List ℕ)) (old new text : List ℕ) → IfSome known (λ bytes. new ≡ old ++ bytes) → old ≡ [] → text ≡ new → IsRestOfInput known text
is_rest None old new text is none same = tt
is_rest (Some bytes) old new text is none same = sym (same ∙ is ∙ ap (λ first. first ++ bytes) none)

module _ {P D E B K X : Type 0} (name : P → List ℕ) where
  pub ends_by_word : (EndsSo : PipelineOf P D E B K → ModuleOutcome → Type 0) (word : List ℕ) (runs : Option ℕ) (nested : Bool) (names : List (List ℕ)) (r : Result ModuleOutcome X) → AsksFor word runs nested names → IfOk r (EndsByPlan name EndsSo runs nested names) → IfOk r (EndsByWord name EndsSo word)
  ends_by_word EndsSo word runs nested names (Ok o) asked ends = ByWord runs nested names asked ends
  ends_by_word EndsSo word runs nested names (Err e) asked ends = tt

  pub ends_without_word : (EndsSo : PipelineOf P D E B K → ModuleOutcome → Type 0) (word : List ℕ) (r : Result ModuleOutcome X) → IfOk r EndsWithout → IfOk r (EndsByWord name EndsSo word)
  ends_without_word EndsSo word (Ok o) without = WithoutWord without
  ends_without_word EndsSo word (Err e) without = tt

module _ {X : Type 0} (ends : List ℕ → ModuleOutcome → Type 0) (known : Option (List ℕ)) where
  pub of_input : (old new text : List ℕ) (r : Result ModuleOutcome X) → IfSome known (λ bytes. new ≡ old ++ bytes) → old ≡ [] → text ≡ new → IfOk r (ends text) → IfOk r (IsOfInput ends known)
  of_input old new text (Ok o) is none same so = (text, is_rest known old new text is none same, so)
  of_input old new text (Err e) is none same so = tt

-- of what can't be used it doesn't matter what was left
whole_of : Option (List ℕ) → List ℕ
whole_of None = []
whole_of (Some bytes) = bytes

whole_is_rest : (known : Option (List ℕ)) → IsRestOfInput known (whole_of known)
unfolding whole_of
whole_is_rest None = tt
whole_is_rest (Some bytes) = refl

pub of_unread : {P D E B K X : Type 0} (name : P → List ℕ) (EndsSo : List ℕ → PipelineOf P D E B K → ModuleOutcome → Type 0) (word : List ℕ) (known : Option (List ℕ)) (r : Result ModuleOutcome X) → IfOk r EndsWithout → IfOk r (IsOfInput (λ text. EndsByWord name (EndsSo text) word) known)
of_unread name EndsSo word known (Ok o) without = (whole_of known, whole_is_rest known, WithoutWord without)
of_unread name EndsSo word known (Err e) without = tt

-- an outcome of the input that is written
pub with_outcome : (ends : List ℕ → ModuleOutcome → Type 0) (known : Option (List ℕ)) (o : ModuleOutcome) (before after : Option (List ℕ)) (status : ℕ) → IsOfInput ends known o → IsOutcomeWritten o before after status → EndsOnStreams ends known before after status
with_outcome ends known o before after status of written = WithOutcome o of written
