use Rattle.std.proofs.Common.{arith}
use Rattle.pliron_core.specs.Tree.{operands_of, successors_of, uses_of}
use Rattle.pliron_core.proofs.FlatLemmas.{In-slice_get}
use Rattle.pliron_pass_fit.proofs.CheckLemmas.{first_use, not_empty}
use Rattle.pliron_pass_fit.proofs.violations.result_violation.Goals as goal

pub returns : goal.returns
returns g c =
    let t = c.args.ctx.now.tree in
    let some = not_empty (successors_of t c.args.op) (λ e. omega (arith, e)) in
    let v = c.get_result.result in
    let one = first_use (uses_of c.args.ctx.now.value_uses v) (λ e. omega (arith, e)) in
    let listed = c.well_formed-2.ensures.uses.value_uses.listed v 0 one.0 one.1 in
    (c.requires.inside, some, (v, one.0.user, c.get_result.ensures.value, In-slice_get (operands_of t one.0.user) one.0.place v listed))
