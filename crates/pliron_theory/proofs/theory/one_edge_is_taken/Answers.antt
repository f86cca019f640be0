use Rattle.pliron_theory.proofs.JumpsNow.{jumps_now}
use Rattle.pliron_theory.proofs.theory.one_edge_is_taken.Goals as goal

pub returns : goal.returns
returns g c = jumps_now _ _ _ _ g.met.D.Dialect.forwards_operands
