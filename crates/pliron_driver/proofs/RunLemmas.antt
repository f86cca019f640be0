-- Runs of a pass alone.
use Rattle.std.proofs.Common.{◌≡◌, refl, subst, ℕ, Bool, true, List, [], Result, Ok, Err, IfOk}
use Rattle.either.specs.declared.Either.{Either}
use Rattle.either.specs.declared.Either.TheVariants.{Left, Right}
use Rattle.either.specs.Either.{either}
use Rattle.pliron_core.specs.Changes.{IsSameTree}
use Rattle.pliron_core.specs.declared.attrs.IRStatus.{IRStatus}
use Rattle.pliron_core.specs.declared.attrs.IRStatus.TheVariants.{Unchanged}
use Rattle.pliron_laws.specs.declared.fault.OptError.{OptError}
use Rattle.pliron_pass.specs.Combined.{Steps}
use Rattle.pliron_pass.specs.Outcome.{OutcomeOf, Verifying, RunsBy, RunsPass}
use Rattle.pliron_pass.specs.Stage.{Stage}
use Rattle.pliron_pass_pipeline.specs.ChangeReports.{IsAccurate}
use Rattle.pliron_pass_pipeline.proofs.ReportLemmas.{step_same}
use Rattle.pliron_driver.specs.Ran.{IsPlain, RunsAlone}

pub runs_alone : {K E P : Type 0} (eq : K → K → Bool) (outcome : OutcomeOf P K E) (p later : P) (root : ℕ) (first last : Stage K E) (r : Result IRStatus OptError) → first.cache ≡ [] → IsPlain first.common → Steps eq outcome p later root first last r → IfOk r (λ status. RunsAlone eq outcome p root first.tree last.tree status)
runs_alone eq outcome p later root first last (Ok c) empty plain steps = record { later = later; first = first; last = last; from = refl; to = refl; empty = empty; plain = plain; steps = steps }
runs_alone eq outcome p later root first last (Err e) empty plain steps = tt

-- one of three managers is a manager
pub manages : {A B C : Type 0} (x : Either (Either A B) C) → either (either (λ a. true) (λ b. true)) (λ c. true) x ≡ true
manages (Left (Left a)) = refl
manages (Left (Right b)) = refl
manages (Right c) = refl

-- a manager is run as it is
pub steps_managed : {K E P : Type 0} (eq : K → K → Bool) (name : P → List ℕ) (outcome : OutcomeOf P K E) (verifies : Verifying) (managed : P → Bool) (p later : P) (root : ℕ) (first last : Stage K E) (r : Result IRStatus OptError) → managed p ≡ true → Steps eq (RunsPass name outcome verifies managed) p later root first last r → Steps eq outcome p later root first last r
steps_managed eq name outcome verifies managed p later root first last (Ok c) e steps = record {
  answer = steps.answer;
  after = steps.after;
  runs = subst (λ b. RunsBy name outcome verifies b p later root first steps.after (Ok steps.answer)) e steps.runs;
  left = steps.left;
  says = steps.says;
}
steps_managed eq name outcome verifies managed p later root first last (Err err) e steps = subst (λ b. RunsBy name outcome verifies b p later root first last (Err err)) e steps

-- a step of a pass that reports accurately
pub steps_truly : {K E P : Type 0} (eq : K → K → Bool) (outcome : OutcomeOf P K E) → IsAccurate outcome → (p later : P) (root : ℕ) (first last : Stage K E) (r : Result IRStatus OptError) → Steps eq outcome p later root first last r → IfOk r (λ status. status ≡ Unchanged → IsSameTree first.tree last.tree)
steps_truly eq outcome reports_change p later root first last (Ok c) steps = λ e. step_same eq outcome reports_change p later root first last c steps e
steps_truly eq outcome reports_change p later root first last (Err e) steps = tt
