use Rattle.pliron_rewrite_loops.proofs.LengthenedBack.{lengthening}
use Rattle.pliron_rewrite_loops.proofs.edges_are_lengthened.Goals as goal

pub returns : goal.returns
returns g c = lengthening _ _ _ _ g.met.D.Dialect.forwards_operands
