-- What is known of answers to modules.
use Rattle.std.proofs.Common.{◌≡◌, ℕ, Bool, List, ◌++◌, Option, Result, Ok, Err, IfOk, refl, sym, subst}
use Rattle.pliron_core.specs.Tree.{Tree}
use Rattle.pliron_core.specs.declared.attrs.IRStatus.{IRStatus}
use Rattle.pliron_laws.specs.Datum.{Meaning}
use Rattle.pliron_driver.specs.Answered.{Reads, Prints, IsOptimised, status_line}
use Rattle.pliron_pass_pipeline.specs.Pipelines.{PipelineOf, IsPipelineOf}
use Rattle.pliron_driver_modules.specs.Outcomes.{AsksFor}
use Rattle.pliron_driver_buffers.specs.Modules.{IsWord, IsAsked, OptimisesModule, number_of_change}

-- the word that is read is this text
pub asks_same : (word text : List ℕ) (runs : Option ℕ) (nested : Bool) (names : List (List ℕ)) → text ≡ word → AsksFor text runs nested names → AsksFor word runs nested names
asks_same word text runs nested names same asked = subst (λ w. AsksFor w runs nested names) same asked

-- a pipeline of the names that a word asks for is asked for by the word
pub asked_of : {P D E B K : Type 0} (name : P → List ℕ) (word : List ℕ) (runs : Option ℕ) (nested : Bool) (names : List (List ℕ)) (pipeline : PipelineOf P D E B K) → AsksFor word runs nested names → IsPipelineOf name runs nested names pipeline → IsAsked name word pipeline
asked_of name word runs nested names pipeline asked planned = record { runs = runs; nested = nested; names = names; asked = asked; planned = planned }

-- so the word asks for one
pub word_of : {P D E B K : Type 0} (name : P → List ℕ) (ran : PipelineOf P D E B K → ℕ → Tree → Tree → IRStatus → Type 0) (word : List ℕ) (pipeline : PipelineOf P D E B K) → IsAsked name word pipeline → IsWord name ran word
word_of name ran word pipeline asked = record { pipeline = pipeline; asked = asked }

-- what a pipeline that the word asks for makes of a module is what the word asks for
pub optimises_module : {P D E B K T X : Type 0} (name : P → List ℕ) (reads : Reads) (prints : Prints) (m : Meaning) (ran : PipelineOf P D E B K → ℕ → Tree → Tree → IRStatus → Type 0) (bytes : T → List ℕ) (status : T → IRStatus) (word text : List ℕ) (pipeline : PipelineOf P D E B K) → IsAsked name word pipeline → (r : Result T X) → IfOk r (λ made. IsOptimised reads prints m (ran pipeline) text (bytes made ++ status_line (status made))) → IfOk r (λ made. OptimisesModule name reads prints m ran word text (number_of_change (status made)) (bytes made))
optimises_module name reads prints m ran bytes status word text pipeline asked (Ok made) optimised = record { pipeline = pipeline; asked = asked; status = status made; reported = refl; optimised = optimised }
optimises_module name reads prints m ran bytes status word text pipeline asked (Err e) optimised = tt

-- the same with the number that is told, of an answer with these bytes
pub told_so : {P D E B K : Type 0} (name : P → List ℕ) (reads : Reads) (prints : Prints) (m : Meaning) (ran : PipelineOf P D E B K → ℕ → Tree → Tree → IRStatus → Type 0) (word text printed : List ℕ) (changed number : ℕ) → OptimisesModule name reads prints m ran word text number printed → changed ≡ number → (answer : List ℕ) → answer ≡ printed → OptimisesModule name reads prints m ran word text changed answer
told_so name reads prints m ran word text printed changed number made e answer is =
    subst (λ n. OptimisesModule name reads prints m ran word text n answer) (sym e) (subst (λ a. OptimisesModule name reads prints m ran word text number a) (sym is) made)
