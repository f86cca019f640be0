use Rattle.std.proofs.Common.{◌≤◌, length, arith}
use Rattle.pliron_core.specs.Tree.{regions_of}
use Rattle.pliron_opt_sccp.specs.Constraints.{EntryIsExecutable}
use Rattle.pliron_opt_sccp.proofs.Constrained.{adds_next, entries_asked}
use Rattle.pliron_opt_sccp.proofs.constraints.constrain_entries.Goals as goal

pub loop-i-preserved : goal.loop-i-preserved
loop-i-preserved c = λ constants.
    adds_next constants (regions_of c.args.ctx.now.tree c.args.op) (λ now j r. EntryIsExecutable c.args.ctx.now.tree now j r) c.loop-i.i c.get_region.result c.args.constraints.now.items c.loop-i.constraints.items c.constrain_region.new.constraints.items c.get_region.ensures.region (c.loop-i.invariant constants) (c.in_ok-constrain_region.ensures.ok constants)

pub returns-clause-ok : goal.returns-clause-ok
returns-clause-ok c = λ constants.
    let rs = regions_of c.args.ctx.now.tree c.args.op in
    let whole : length rs ≤ c.loop-i.i = omega arith in
    entries_asked constants c.args.ctx.now.tree rs c.loop-i.i c.args.constraints.now.items c.loop-i.constraints.items whole (c.loop-i.invariant constants)
