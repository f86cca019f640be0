use Rattle.pliron_rules_tests.proofs.Computed.{even_number, odd_number}
use Rattle.pliron_rules_tests.proofs.worked.calls_are_inside.Goals as goal

pub returns-clause-even_number : goal.returns-clause-even_number
returns-clause-even_number c = even_number

pub returns-clause-odd_number : goal.returns-clause-odd_number
returns-clause-odd_number c = odd_number
