use Rattle.pliron_dialect_calls_tests.proofs.Computed.{call_inside, call_answered, call_unlinked}
use Rattle.pliron_dialect_calls_tests.proofs.program.calls_are_by_name.Goals as goal

pub returns-clause-effect : goal.returns-clause-effect
returns-clause-effect c = call_inside

pub returns-clause-answer : goal.returns-clause-answer
returns-clause-answer c = call_answered

pub returns-clause-unlinked : goal.returns-clause-unlinked
returns-clause-unlinked c = call_unlinked
