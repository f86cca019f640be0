use Rattle.std.proofs.Common.{◌≤◌, length, arith}
use Rattle.pliron_core.specs.Tree.{results_of}
use Rattle.pliron_pass_fit.specs.Checks.{IsUsedInside}
use Rattle.pliron_pass_fit.proofs.CheckLemmas.{at_each, one_more_at, result_inside}
use Rattle.pliron_pass_fit.proofs.operations.check_results.Goals as goal

pub check_uses-requires-clause-inside : goal.check_uses-requires-clause-inside
check_uses-requires-clause-inside g c = result_inside c.args.ctx.now.tree c.well_formed-2.ensures.tree c.args.root c.args.op c.loop-i.i c.get_result.result c.requires.inside c.get_result.ensures.value

pub loop-i-preserved : goal.loop-i-preserved
loop-i-preserved g c =
    let t = c.args.ctx.now.tree in
    one_more_at (λ v. IsUsedInside t c.args.root v) (results_of t c.args.op) c.loop-i.i c.get_result.result c.get_result.ensures.value c.in_ok-check_uses.ensures.ok c.loop-i.invariant

pub returns-clause-ok : goal.returns-clause-ok
returns-clause-ok g c =
    let t = c.args.ctx.now.tree in
    let whole : length (results_of t c.args.op) ≤ c.loop-i.i = omega arith in
    at_each (λ v. IsUsedInside t c.args.root v) (results_of t c.args.op) c.loop-i.i whole c.loop-i.invariant
