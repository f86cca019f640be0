use Rattle.pliron_rewrite_loops.proofs.Closed.{header_alone}
use Rattle.pliron_rewrite_loops.proofs.passed_values_are_closed.Goals as goal

pub returns : goal.returns
returns g c = header_alone _
