use Rattle.pliron_rewrite_blocks.proofs.ForwardedKeeps.{forwarding}
use Rattle.pliron_rewrite_blocks.proofs.forwarding.forwarded_values_replace_arguments.Goals as goal

pub returns : goal.returns
returns g c = forwarding _ _ _ _ g.met.D.Dialect.forwards_operands
