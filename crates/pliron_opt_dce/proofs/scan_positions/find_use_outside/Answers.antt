use Rattle.std.proofs.Common.{arith}
use Rattle.pliron_opt_dce.proofs.ReadyTests.{some_use, held_by_result, held_from_inside}
use Rattle.pliron_opt_dce.proofs.scan_positions.find_use_outside.Goals as goal

pub returns-then-is_result_of : goal.returns-then-is_result_of
returns-then-is_result_of c =
    let u = some_use c.args.ctx.now.tree c.args.ctx.now.value_uses c.args.value c.well_formed-2.ensures.uses.value_uses (λ e. grind (arith, c.num_use-count.ensures, c.if-count-eq0.false, e)) in
    held_by_result c.args.ctx.now.tree c.args.op c.args.value u.0 (c.is_result_of.ensures c.if-is_result_of.true) u.1

pub returns-then-is_defined_inside : goal.returns-then-is_defined_inside
returns-then-is_defined_inside c = held_from_inside c.args.ctx.now.tree c.args.op c.args.value (c.is_defined_inside.ensures.0 c.if-is_defined_inside.true) c.in_ok-found.ensures
