use Rattle.std.proofs.Common.{arith}
use Rattle.pliron_core.specs.Tree.{results_of}
use Rattle.pliron_opt_sccp.specs.Starting.{AddsKeys}
use Rattle.pliron_opt_sccp.proofs.Going.{counted_next, counted_end}
use Rattle.pliron_opt_sccp.proofs.Numbered.{keys_none, one_step}
use Rattle.pliron_opt_sccp.proofs.inside.add_results.Goals as goal

pub loop-i-init : goal.loop-i-init
loop-i-init c = λ u d. d

pub loop-i-preserved : goal.loop-i-preserved
loop-i-preserved c =
    counted_next AddsKeys (results_of c.args.ctx.now.tree c.args.op) c.loop-i.i c.get_result.result c.args.values.now.keys c.loop-i.values.keys c.add_value.new.values.keys c.get_result.ensures.value (one_step c.get_result.result c.loop-i.values.keys c.add_value.new.values.keys c.in_ok-add_value.ensures.ok) c.loop-i.invariant

pub returns-clause-ok : goal.returns-clause-ok
returns-clause-ok c = counted_end AddsKeys (results_of c.args.ctx.now.tree c.args.op) c.loop-i.i c.args.values.now.keys c.loop-i.values.keys (omega arith) (keys_none c.loop-i.values.keys) c.loop-i.invariant
