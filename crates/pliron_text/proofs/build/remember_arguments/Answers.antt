use Rattle.std.proofs.Common.{subst, arith}
use Rattle.pliron_core.specs.Tree.{In, arguments_of}
use Rattle.pliron_core.proofs.HoldingLemmas.{in_slice}
use Rattle.pliron_text.proofs.BuildLemmas.{adds-more, length-last}
use Rattle.pliron_text.proofs.build.remember_arguments.Goals as goal

pub returns-in_err-remember-clause-added : goal.returns-in_err-remember-clause-added
returns-in_err-remember-clause-added c = λ x i. c.loop-i.invariant.0 x (subst (In x) c.in_err-remember.ensures.err i)

pub loop-i-preserved : goal.loop-i-preserved
loop-i-preserved c =
    let made = arguments_of c.args.ctx.now.tree c.args.block in
    let more = length-last c.loop-i.values.items c.remember.new.table.items c.get_argument.result c.in_ok-remember.ensures.ok in
    let count = c.loop-i.invariant.1 in
    (adds-more c.args.values.now.items c.loop-i.values.items c.remember.new.table.items made c.get_argument.result c.in_ok-remember.ensures.ok c.loop-i.invariant.0 (in_slice made c.loop-i.i c.get_argument.result c.get_argument.ensures.argument), omega (arith, more, count))
