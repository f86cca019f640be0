use Rattle.pliron_rules_tests.proofs.Computed.{world_answers, world_calls_back, world_is_silent}
use Rattle.pliron_rules_tests.proofs.worked.worlds_call_back.Goals as goal

pub returns-clause-answer : goal.returns-clause-answer
returns-clause-answer c = world_answers

pub returns-clause-callback : goal.returns-clause-callback
returns-clause-callback c = world_calls_back

pub returns-clause-silent : goal.returns-clause-silent
returns-clause-silent c = world_is_silent
