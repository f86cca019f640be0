use Rattle.std.proofs.Common.{◌≤◌, length, arith}
use Rattle.pliron_core.specs.Tree.{arguments_of}
use Rattle.pliron_pass_fit.specs.Checks.{IsUsedInside}
use Rattle.pliron_pass_fit.proofs.CheckLemmas.{at_each, argument_inside}
use Rattle.pliron_pass_fit.proofs.blocks.check_block.Goals as goal

pub check_uses-requires-clause-inside : goal.check_uses-requires-clause-inside
check_uses-requires-clause-inside g c = argument_inside c.args.ctx.now.tree c.well_formed-2.ensures.tree c.args.root c.args.block c.loop-i.i c.get_argument.result c.requires.held c.get_argument.ensures.argument

pub returns-clause-ok : goal.returns-clause-ok
returns-clause-ok g c =
    let t = c.args.ctx.now.tree in
    let whole : length (arguments_of t c.args.block) ≤ c.loop-i.i = omega arith in
    record { users = c.in_ok-check_edges_to.ensures.ok; arguments = at_each (λ v. IsUsedInside t c.args.root v) (arguments_of t c.args.block) c.loop-i.i whole c.loop-i.invariant }
