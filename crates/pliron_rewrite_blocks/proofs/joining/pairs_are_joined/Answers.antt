use Rattle.pliron_rewrite_blocks.proofs.JoinedPairs.{joining}
use Rattle.pliron_rewrite_blocks.proofs.joining.pairs_are_joined.Goals as goal

pub returns : goal.returns
returns g c = joining _ _ _ _ g.met.D.Dialect.forwards_operands
