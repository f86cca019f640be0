use Rattle.std.proofs.Common.{arith}
use Rattle.pliron_core.specs.Tree.{arguments_of}
use Rattle.pliron_opt_sccp.specs.Starting.{AddsKeys}
use Rattle.pliron_opt_sccp.proofs.Going.{counted_next, counted_end}
use Rattle.pliron_opt_sccp.proofs.Numbered.{keys_none, one_step}
use Rattle.pliron_opt_sccp.proofs.inside.add_arguments.Goals as goal

pub loop-i-init : goal.loop-i-init
loop-i-init c = λ u d. d

pub loop-i-preserved : goal.loop-i-preserved
loop-i-preserved c =
    counted_next AddsKeys (arguments_of c.args.ctx.now.tree c.args.block) c.loop-i.i c.get_argument.result c.args.values.now.keys c.loop-i.values.keys c.add_value.new.values.keys c.get_argument.ensures.argument (one_step c.get_argument.result c.loop-i.values.keys c.add_value.new.values.keys c.in_ok-add_value.ensures.ok) c.loop-i.invariant

pub returns-clause-ok : goal.returns-clause-ok
returns-clause-ok c = counted_end AddsKeys (arguments_of c.args.ctx.now.tree c.args.block) c.loop-i.i c.args.values.now.keys c.loop-i.values.keys (omega arith) (keys_none c.loop-i.values.keys) c.loop-i.invariant
