use Rattle.std.proofs.Common.{◌<◌, length, arith}
use Rattle.pliron_test_cases.proofs.ForwardedLemmas.{place_forwarded}
use Rattle.pliron_test_cases.proofs.losses.lose.Goals as goal

pub remove_successor_operand-value-requires-clause-place : goal.remove_successor_operand-value-requires-clause-place
remove_successor_operand-value-requires-clause-place g c =
    let lt : c.args.j < length c.in_ok-values.values.items = omega arith in
    place_forwarded g.D.HasMeaning.meaning c.args.ctx.now.tree c.args.op c.args.i c.args.j c.in_ok-values.values.items c.in_ok-values.ensures.ok lt
