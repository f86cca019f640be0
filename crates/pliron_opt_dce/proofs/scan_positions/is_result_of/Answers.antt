use Rattle.std.proofs.Common.{rules, subst}
use Rattle.pliron_core.specs.Tree.{In, IsMadeBy, results_of}
use Rattle.pliron_core.proofs.HoldingLemmas.{in_slice}
use Rattle.pliron_opt_dce.proofs.scan_positions.is_result_of.Goals as goal

pub returns-in-Result : goal.returns-in-Result
returns-in-Result c = λ e.
    let t = c.args.ctx.now.tree in
    let made = subst (IsMadeBy t c.args.value) c.in-Result.ensures.definition c.requires in
    subst (λ z. In c.args.value (results_of t z)) (search (rules, e)) (in_slice (results_of t c.in-Result.maker) c.in-Result.field-1 c.args.value made)
