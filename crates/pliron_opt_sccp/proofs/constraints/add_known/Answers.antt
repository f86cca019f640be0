use Rattle.pliron_core.specs.Tree.{operands_of}
use Rattle.pliron_opt_sccp.specs.LatticeTables.{lattice_values_of}
use Rattle.pliron_opt_sccp.proofs.ListedFolds.{known_start, known_step}
use Rattle.pliron_opt_sccp.proofs.constraints.add_known.Goals as goal

pub loop-i-init : goal.loop-i-init
loop-i-init c = known_start (lattice_values_of c.args.tables.now) (operands_of c.args.ctx.now.tree c.args.op) c.args.attrs.now.items

pub loop-i-preserved : goal.loop-i-preserved
loop-i-preserved c =
    known_step (lattice_values_of c.args.tables.now) (operands_of c.args.ctx.now.tree c.args.op) c.args.attrs.now.items c.loop-i.i c.get_operand.result c.loop-i.attrs.items c.push.new.self.items c.in_ok-known_constant.field-0 c.get_operand.ensures.operand c.loop-i.invariant c.in_ok-known_constant.ensures.ok c.in_ok-push.ensures.items
