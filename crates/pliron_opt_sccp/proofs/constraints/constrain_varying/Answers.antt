use Rattle.pliron_opt_sccp.proofs.Constrained.{adds_unknown}
use Rattle.pliron_opt_sccp.proofs.constraints.constrain_varying.Goals as goal

pub returns-clause-ok : goal.returns-clause-ok
returns-clause-ok c = λ constants. adds_unknown constants c.args.constraints.now.items c.push.new.self.items c.args.value c.in_ok-push.ensures.items
