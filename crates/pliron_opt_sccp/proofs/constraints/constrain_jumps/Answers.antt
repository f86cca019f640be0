use Rattle.std.proofs.Common.{◌≤◌, length, arith}
use Rattle.pliron_core.specs.Tree.{successors_of}
use Rattle.pliron_theory.specs.LatticeValues.{IsEntryExecutable}
use Rattle.pliron_opt_sccp.proofs.Entered.{entered_where, under_start, under_next, under_end}
use Rattle.pliron_opt_sccp.proofs.constraints.constrain_jumps.Goals as goal

pub loop-i-init : goal.loop-i-init
loop-i-init c = λ constants f entered. (
  under_start constants f (successors_of c.args.ctx.now.tree c.args.op) (λ now j b. IsEntryExecutable c.args.ctx.now.tree now b) c.args.constraints.now.items,
  entered_where constants c.args.ctx.now.tree f c.args.constraints.now.items c.args.entered.now entered,
)

pub loop-i-preserved : goal.loop-i-preserved
loop-i-preserved c = λ constants f entered.
    let so_far = c.loop-i.invariant constants f entered in (
      under_next constants f (successors_of c.args.ctx.now.tree c.args.op) (λ now j b. IsEntryExecutable c.args.ctx.now.tree now b) c.loop-i.i c.get_successor.result c.args.constraints.now.items c.loop-i.constraints.items c.constrain_jump.new.constraints.items c.get_successor.ensures.successor so_far.0 (c.in_ok-constrain_jump.ensures.ok constants f so_far.1),
      c.in_ok-constrain_jump.ensures.entered constants f so_far.1,
    )

pub returns-clause-ok : goal.returns-clause-ok
returns-clause-ok c = λ constants f entered.
    let bs = successors_of c.args.ctx.now.tree c.args.op in
    let whole : length bs ≤ c.loop-i.i = omega arith in
    under_end constants f bs (λ now j b. IsEntryExecutable c.args.ctx.now.tree now b) c.loop-i.i c.args.constraints.now.items c.loop-i.constraints.items whole (c.loop-i.invariant constants f entered).0

pub returns-clause-entered : goal.returns-clause-entered
returns-clause-entered c = λ constants f entered. (c.loop-i.invariant constants f entered).1
