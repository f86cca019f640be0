use Rattle.std.proofs.Common.{◌≤◌, length, arith}
use Rattle.pliron_core.specs.Tree.{In, arguments_of}
use Rattle.pliron_core.proofs.ContainedLemmas.{passed-more, passed-all}
use Rattle.pliron_opt_rotate.proofs.Loops.{none_passed, passed_kept, more_in, last_there}
use Rattle.pliron_opt_rotate.proofs.covering.arguments_of_block.Goals as goal

pub loop-i-init : goal.loop-i-init
loop-i-init c = none_passed _ _

pub loop-i-preserved : goal.loop-i-preserved
loop-i-preserved c =
    let e = c.in_ok-push.ensures.items in
    passed-more _ _ c.loop-i.i c.get_argument.result
    (passed_kept _ _ _ c.loop-i.i (λ v i. more_in c.loop-i.values.items c.push.new.self.items c.get_argument.result v e i) c.loop-i.invariant)
    c.get_argument.ensures.argument (last_there c.loop-i.values.items c.push.new.self.items c.get_argument.result e)

pub returns-clause-there : goal.returns-clause-there
returns-clause-there c =
    let whole : length (arguments_of c.args.ctx.now.tree c.args.block) ≤ c.loop-i.i = omega arith in
    passed-all (λ v. In v c.loop-i.values.items) (arguments_of c.args.ctx.now.tree c.args.block) c.loop-i.i c.loop-i.invariant whole
