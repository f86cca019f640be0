use Rattle.pliron_rewrite_symbols.specs.CallersByRole.{callers_by_role}
use Rattle.pliron_rewrite_symbols.proofs.callees_are_called.Goals as goal

pub returns : goal.returns
returns g c = callers_by_role g.K.Roles.tables g.K.Calls.calls
