use Rattle.std.proofs.Common.{arith}
use Rattle.pliron_core.specs.Tree.{successors_of, arguments_of}
use Rattle.pliron_opt_sccp.specs.LatticeTables.{known_constants, lattice_value_in}
use Rattle.pliron_opt_sccp.proofs.Constrained.{one_asked, none_asked}
use Rattle.pliron_opt_sccp.proofs.reactions.constrain_argument.Goals as goal

pub returns-in_ok-push-clause-ok : goal.returns-in_ok-push-clause-ok
returns-in_ok-push-clause-ok c = one_asked (known_constants c.args.tables.now) (λ b. arguments_of c.args.ctx.now.tree b) (successors_of c.args.ctx.now.tree c.args.from.now.op) c.args.edge c.args.index c.get_successor-block.result c.get_argument.result c.cell-cell.result (lattice_value_in c.args.tables.now c.args.from.now.value) c.args.constraints.now.items c.push.new.self.items c.get_successor-block.ensures.successor c.get_argument.ensures.argument c.cell-cell.ensures c.in_ok-push.ensures.items

pub returns-else-index-num_argument-clause-ok : goal.returns-else-index-num_argument-clause-ok
returns-else-index-num_argument-clause-ok c = none_asked (known_constants c.args.tables.now) (λ b. arguments_of c.args.ctx.now.tree b) (successors_of c.args.ctx.now.tree c.args.from.now.op) c.args.edge c.args.index c.get_successor-block.result (lattice_value_in c.args.tables.now c.args.from.now.value) c.args.constraints.now.items c.get_successor-block.ensures.successor (omega (arith, c.num_argument.ensures, c.if-index-num_argument.false))
