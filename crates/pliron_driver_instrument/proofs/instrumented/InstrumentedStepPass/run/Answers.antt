use Rattle.std.proofs.Common.{◌≡◌, ap, ◌∙◌}
use Rattle.pliron_driver_instrument.proofs.instrumented.InstrumentedStepPass.run.Goals as goal
use Rattle.pliron_driver_instrument.proofs.instrumented.InstrumentedStepPass.run.Goals.{in-Ok+then-is_err, in-Ok+else-is_err, in-Err}

-- what is noted leaves the pass as its run left it
step_left : (g : _) (c : goal.Joined-before g) → c.match-answer.self.step ≡ c.run-answer.new.self
step_left g c = elim c.match-answer.branch [
  | in-Ok+then-is_err w ↦ ap (λ z. z.step) w.self-is ∙ w.note.ensures
  | in-Ok+else-is_err w ↦ ap (λ z. z.step) w.self-is ∙ w.note.ensures
  | in-Err w ↦ ap (λ z. z.step) w.self-is
]

pub returns-clause-outcome : goal.returns-clause-outcome
returns-clause-outcome g c = rw (step_left g c, ← c.snapshot-before.ensures) c.run-answer.ensures.outcome
