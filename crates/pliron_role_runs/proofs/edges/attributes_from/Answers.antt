use Rattle.std.proofs.Common.{◌<◌, length, drop, arith}
use Rattle.std.proofs.lemmas.List.{length-drop}
use Rattle.pliron_role_runs.proofs.ListReads.{rest_more}
use Rattle.pliron_role_runs.proofs.edges.attributes_from.Goals as goal

pub loop-i-preserved : goal.loop-i-preserved
loop-i-preserved c =
    let attrs = c.args.attrs.now in
    let left = length-drop c.args.first attrs in
    let lt : c.loop-i.i < length (drop c.args.first attrs) = omega (arith, left) in
    rest_more attrs c.loop-i.rest.items c.push.new.self.items c.args.first c.loop-i.i c.get.result.now c.in-Ok.attr lt c.get.ensures c.in-Ok.ensures c.in_ok-push-in-Ok.ensures.items c.loop-i.invariant
