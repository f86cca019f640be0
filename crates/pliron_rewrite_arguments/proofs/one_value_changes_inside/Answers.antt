use Rattle.pliron_rewrite_arguments.proofs.ArgumentChanges.{one_value_changes}
use Rattle.pliron_rewrite_arguments.proofs.one_value_changes_inside.Goals as goal

pub returns : goal.returns
returns g c = one_value_changes _ _ _ _ g.met.D.Dialect.forwards_operands
