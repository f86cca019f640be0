use Rattle.pliron_rewrite_arguments.proofs.ArgumentKeeps.{one_value}
use Rattle.pliron_rewrite_arguments.proofs.one_value_replaces_argument.Goals as goal

pub returns : goal.returns
returns g c = one_value _ _ _ _ g.met.D.Dialect.forwards_operands
