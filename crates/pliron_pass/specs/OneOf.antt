-- What one of two passes does.
use Rattle.std.specs.Prelude.{ℕ, Result}
use Rattle.either.specs.Either.{SameSide}
use Rattle.either.specs.declared.Either.{Either}
use Rattle.pliron_laws.specs.declared.fault.OptError.{OptError}
use Rattle.pliron_pass.specs.Outcome.{OutcomeOf}
use Rattle.pliron_pass.specs.Stage.{Stage}
use Rattle.pliron_pass.specs.declared.result.PassResult.{PassResult}

-- the pass that was there is there, and did what it does
abbrev pub RunsSame : {K E P Q : Type 0} → OutcomeOf P K E → OutcomeOf Q K E → OutcomeOf (Either P Q) K E
RunsSame left right p p' op s s' r = SameSide (λ q q'. left q q' op s s' r) (λ q q'. right q q' op s s' r) p p'
