use Rattle.std.proofs.Common.{◌≤◌, ◌≡◌, length, arith}
use Rattle.pliron_core.specs.Tree.{arguments_of}
use Rattle.pliron_theory.specs.LatticeValues.{NotAConstant}
use Rattle.pliron_opt_sccp.proofs.Constrained.{adds_next, adds_unknown, entry_asked}
use Rattle.pliron_opt_sccp.proofs.constraints.constrain_entry.Goals as goal

pub loop-i-preserved : goal.loop-i-preserved
loop-i-preserved c = λ constants.
    adds_next constants (arguments_of c.args.ctx.now.tree c.args.block) (λ now j v. now.lattice_value v ≡ NotAConstant) c.loop-i.i c.get_argument.result c.push.new.self.items c.loop-i.constraints.items c.push-in-loop-i.new.self.items c.get_argument.ensures.argument (c.loop-i.invariant constants)
    (adds_unknown constants c.loop-i.constraints.items c.push-in-loop-i.new.self.items c.get_argument.result c.in_ok-push-2.ensures.items)

pub returns-clause-ok : goal.returns-clause-ok
returns-clause-ok c = λ constants.
    let vs = arguments_of c.args.ctx.now.tree c.args.block in
    let whole : length vs ≤ c.loop-i.i = omega arith in
    entry_asked constants vs c.args.block c.loop-i.i c.args.constraints.now.items c.push.new.self.items c.loop-i.constraints.items c.in_ok-push.ensures.items whole (c.loop-i.invariant constants)
