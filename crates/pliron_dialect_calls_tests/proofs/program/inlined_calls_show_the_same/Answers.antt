use Rattle.pliron_dialect_calls_tests.proofs.Computed.{inlined_inside, inlined_answered}
use Rattle.pliron_dialect_calls_tests.proofs.program.inlined_calls_show_the_same.Goals as goal

pub returns-clause-effect : goal.returns-clause-effect
returns-clause-effect c = inlined_inside

pub returns-clause-answer : goal.returns-clause-answer
returns-clause-answer c = inlined_answered
