use Rattle.pliron_rewrite_loops.proofs.Pushed.{pushed_keeps}
use Rattle.pliron_rewrite_loops.proofs.arguments_are_pushed.Goals as goal

pub returns : goal.returns
returns g c = pushed_keeps _ c.one_value_replaces_argument.ensures
