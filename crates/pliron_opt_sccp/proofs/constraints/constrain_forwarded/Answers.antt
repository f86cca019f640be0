use Rattle.std.proofs.Common.{◌<◌, length, get_or, arith}
use Rattle.std.proofs.lemmas.Option.{slice_get-get_or}
use Rattle.pliron_core.specs.Tree.{arguments_of}
use Rattle.pliron_opt_sccp.specs.LatticeTables.{known_constants, lattice_values_of}
use Rattle.pliron_opt_sccp.specs.Constraints.{GetsForwarded}
use Rattle.pliron_opt_sccp.proofs.Constrained.{adds_next, forward_asked, forwarded_asked}
use Rattle.pliron_opt_sccp.proofs.constraints.constrain_forwarded.Goals as goal

pub loop-j-preserved : goal.loop-j-preserved
loop-j-preserved c =
    let f = lattice_values_of c.args.tables.now in
    let values = c.args.values.now in
    let within : c.loop-j.j < length values = omega arith in
    adds_next (known_constants c.args.tables.now) (arguments_of c.args.ctx.now.tree c.args.block) (λ now j v. GetsForwarded f values now j v) c.loop-j.j c.get_argument.result c.push.new.self.items c.loop-j.constraints.items c.push-in-loop-j.new.self.items c.get_argument.ensures.argument c.loop-j.invariant
    (forward_asked (known_constants c.args.tables.now) f values c.loop-j.j c.get_argument.result (get_or values c.loop-j.j 0) c.forwarded_cell-cell.result c.loop-j.constraints.items c.push-in-loop-j.new.self.items (slice_get-get_or values c.loop-j.j 0 within) c.forwarded_cell-cell.ensures c.in_ok-push-2.ensures.items)

pub returns-clause-ok : goal.returns-clause-ok
returns-clause-ok c =
    forwarded_asked (known_constants c.args.tables.now) c.args.ctx.now.tree (lattice_values_of c.args.tables.now) c.args.values.now c.args.block c.loop-j.j c.args.constraints.now.items c.push.new.self.items c.loop-j.constraints.items c.in_ok-push.ensures.items (λ k p q. omega (arith, p, q)) c.loop-j.invariant
