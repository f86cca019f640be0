use Rattle.pliron_rules_tests.proofs.Computed.{unknown_call, unknown_answer, unknown_callback}
use Rattle.pliron_rules_tests.proofs.worked.unknown_names_are_the_worlds.Goals as goal

pub returns-clause-effect : goal.returns-clause-effect
returns-clause-effect c = unknown_call

pub returns-clause-answer : goal.returns-clause-answer
returns-clause-answer c = unknown_answer

pub returns-clause-callback : goal.returns-clause-callback
returns-clause-callback c = unknown_callback
