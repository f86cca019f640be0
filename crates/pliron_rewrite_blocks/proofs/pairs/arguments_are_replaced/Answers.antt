use Rattle.pliron_rewrite_blocks.proofs.PairEdges.{replacing}
use Rattle.pliron_rewrite_blocks.proofs.pairs.arguments_are_replaced.Goals as goal

pub returns : goal.returns
returns g c = replacing _ _ _ _ g.met.D.Dialect.forwards_operands
