use Rattle.std.proofs.Common.{sym}
use Rattle.std.proofs.lemmas.Result.{on_ok_weaker}
use Rattle.pliron_opt_sccp.proofs.Constrained.{region_asked}
use Rattle.pliron_opt_sccp.proofs.constraints.constrain_region.Goals as goal

pub returns-in-Some-clause-ok : goal.returns-in-Some-clause-ok
returns-in-Some-clause-ok c =
    on_ok_weaker c.constrain_entry.result
    (λ p constants. region_asked constants c.args.ctx.now.tree c.args.region c.in-Some.entry c.args.constraints.now.items c.constrain_entry.new.constraints.items (sym c.in-Some.ensures.first) (p constants))
    c.constrain_entry.ensures.ok
