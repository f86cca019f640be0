use Rattle.std.proofs.Common.{◌≤◌, ◌≡◌, length, arith}
use Rattle.pliron_core.specs.Tree.{results_of}
use Rattle.pliron_theory.specs.LatticeValues.{NotAConstant}
use Rattle.pliron_opt_sccp.proofs.Constrained.{adds_next, adds_unknown, unknown_asked}
use Rattle.pliron_opt_sccp.proofs.constraints.constrain_unknown.Goals as goal

pub loop-i-preserved : goal.loop-i-preserved
loop-i-preserved c = λ constants.
    adds_next constants (results_of c.args.ctx.now.tree c.args.op) (λ now j v. now.lattice_value v ≡ NotAConstant) c.loop-i.i c.get_result.result c.args.constraints.now.items c.loop-i.constraints.items c.push.new.self.items c.get_result.ensures.value (c.loop-i.invariant constants)
    (adds_unknown constants c.loop-i.constraints.items c.push.new.self.items c.get_result.result c.in_ok-push.ensures.items)

pub returns-clause-ok : goal.returns-clause-ok
returns-clause-ok c = λ constants.
    let vs = results_of c.args.ctx.now.tree c.args.op in
    let whole : length vs ≤ c.loop-i.i = omega arith in
    unknown_asked constants vs c.loop-i.i c.args.constraints.now.items c.loop-i.constraints.items whole (c.loop-i.invariant constants)
