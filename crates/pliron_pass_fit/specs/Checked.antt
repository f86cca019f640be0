-- What a checked run does where the tree is well linked.
use Rattle.std.specs.Prelude.{◌≡◌, ◌⊎◌, ℕ, Bool, Result, Ok, Err}
use Rattle.pliron_core.specs.declared.attrs.IRStatus.{IRStatus}
use Rattle.pliron_laws.specs.declared.fault.OptError.TheVariants.{Memory}
use Rattle.pliron_pass.specs.Stage.{Stage}
use Rattle.pliron_pass.specs.Outcome.{OutcomeOf}
use Rattle.pliron_pass.specs.Combined.{Steps}
use Rattle.pliron_pass_fit.specs.declared.run.RunError.{RunError}
use Rattle.pliron_pass_fit.specs.declared.run.RunError.TheVariants.{NotLinked, Fault}
use Rattle.pliron_pass_fit.specs.declared.run.CheckedRun.{CheckedRun}

module _ {K E P : Type 0} (eq : K → K → Bool) (runs : OutcomeOf P K E) where
  -- the pass ran once, as `run_pipeline` runs it, and its answer is passed on
  abbrev pub RunsOnce : P → P → ℕ → Stage K E → Stage K E → Result IRStatus RunError → Type 0
  RunsOnce p p' op s s' (Ok status) = Steps eq runs p p' op s s' (Ok status)
  RunsOnce p p' op s s' (Err NotLinked) = ⊥
  RunsOnce p p' op s s' (Err (Fault e)) = Steps eq runs p p' op s s' (Err e)

  -- the same, or allocation failed while roots were tested, and then nothing was run
  abbrev pub RunsOnceFor : P → P → ℕ → Stage K E → Stage K E → Result CheckedRun RunError → Type 0
  RunsOnceFor p p' op s s' (Ok run) = Steps eq runs p p' op s s' (Ok run.status)
  RunsOnceFor p p' op s s' (Err NotLinked) = ⊥
  RunsOnceFor p p' op s s' (Err (Fault e)) = Steps eq runs p p' op s s' (Err e) ⊎ ((e ≡ Memory) × (p' ≡ p) × (s' ≡ s))
