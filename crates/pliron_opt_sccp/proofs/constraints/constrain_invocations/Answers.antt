use Rattle.std.proofs.Common.{◌<◌, ◌≤◌, length, get_or, arith}
use Rattle.std.proofs.lemmas.Option.{slice_get-get_or}
use Rattle.pliron_core.specs.Tree.{regions_of}
use Rattle.pliron_laws.proofs.Records.{op_shows}
use Rattle.pliron_theory.specs.LatticeValues.{Says}
use Rattle.pliron_opt_sccp.specs.LatticeTables.{known_constants, lattice_values_of}
use Rattle.pliron_opt_sccp.specs.Constraints.{InvocationIsExecutable}
use Rattle.pliron_opt_sccp.proofs.Constrained.{adds_next, visits_asked}
use Rattle.pliron_opt_sccp.proofs.constraints.constrain_invocations.Goals as goal

pub loop-region-preserved : goal.loop-region-preserved
loop-region-preserved g c = λ o e.
    let x : Says = record { meaning = g.D.HasMeaning.meaning; can_fold = g.D.ConstFoldInterface.can_fold; can_fold_branch = g.D.BranchOpFoldInterface.can_fold_branch; constants = g.D.ConstFoldInterface.constants; feasible = g.D.BranchOpFoldInterface.feasible; entry_operands = g.D.RegionBranchOpInterface.entry_operands } in
    let t = c.args.ctx.now.tree in
    let s = c.args.tables.now in
    let rs = regions_of t c.args.op in
    let within : c.loop-region.region < length rs = omega arith in
    let at = slice_get-get_or rs c.loop-region.region 0 within in
    adds_next (known_constants s) rs (λ now j r. InvocationIsExecutable x t (lattice_values_of s) o now j r) c.loop-region.region (get_or rs c.loop-region.region 0) c.args.constraints.now.items c.loop-region.constraints.items c.constrain_invocation.new.constraints.items at (c.loop-region.invariant o e) (c.in_ok-constrain_invocation.ensures.ok o e (get_or rs c.loop-region.region 0) at)

pub returns-clause-ok : goal.returns-clause-ok
returns-clause-ok g c = λ o e.
    let x : Says = record { meaning = g.D.HasMeaning.meaning; can_fold = g.D.ConstFoldInterface.can_fold; can_fold_branch = g.D.BranchOpFoldInterface.can_fold_branch; constants = g.D.ConstFoldInterface.constants; feasible = g.D.BranchOpFoldInterface.feasible; entry_operands = g.D.RegionBranchOpInterface.entry_operands } in
    let t = c.args.ctx.now.tree in
    let s = c.args.tables.now in
    let rs = regions_of t c.args.op in
    let whole : length rs ≤ c.loop-region.region = omega arith in
    visits_asked (known_constants s) x t (lattice_values_of s) o rs c.loop-region.region c.args.constraints.now.items c.loop-region.constraints.items (op_shows t c.args.op o e).regions whole (c.loop-region.invariant o e)
