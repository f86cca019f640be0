use Rattle.std.proofs.Common.{◌<◌, ◌≤◌, length, get_or, arith}
use Rattle.std.proofs.lemmas.Option.{slice_get-get_or}
use Rattle.pliron_core.specs.Tree.{successors_of}
use Rattle.pliron_theory.specs.LatticeValues.{Says}
use Rattle.pliron_opt_sccp.specs.LatticeTables.{known_constants, lattice_values_of}
use Rattle.pliron_opt_sccp.specs.Constraints.{FollowsEdge}
use Rattle.pliron_opt_sccp.proofs.Constrained.{adds_next, adds_end}
use Rattle.pliron_opt_sccp.proofs.EdgesAsked.{branches_asked}
use Rattle.pliron_opt_sccp.proofs.constraints.constrain_each_edge.Goals as goal

pub loop-i-preserved : goal.loop-i-preserved
loop-i-preserved g c = λ o e.
    let x : Says = (record { meaning = g.D.HasMeaning.meaning; can_fold = g.D.ConstFoldInterface.can_fold; can_fold_branch = g.D.BranchOpFoldInterface.can_fold_branch; constants = g.D.ConstFoldInterface.constants; feasible = g.D.BranchOpFoldInterface.feasible; entry_operands = g.D.RegionBranchOpInterface.entry_operands }) in
    let t = c.args.ctx.now.tree in
    let bs = successors_of t c.args.branch.now.op in
    let within : c.loop-i.i < length bs = omega arith in
    let at = slice_get-get_or bs c.loop-i.i 0 within in
    adds_next (known_constants c.args.tables.now) bs (λ now j b. FollowsEdge x t (lattice_values_of c.args.tables.now) o now j b) c.loop-i.i (get_or bs c.loop-i.i 0) c.args.constraints.now.items c.loop-i.constraints.items c.constrain_edge.new.constraints.items at (c.loop-i.invariant o e) (c.in_ok-constrain_edge.ensures.ok o e (get_or bs c.loop-i.i 0) at)

pub returns-clause-ok : goal.returns-clause-ok
returns-clause-ok g c = λ o e.
    let x : Says = (record { meaning = g.D.HasMeaning.meaning; can_fold = g.D.ConstFoldInterface.can_fold; can_fold_branch = g.D.BranchOpFoldInterface.can_fold_branch; constants = g.D.ConstFoldInterface.constants; feasible = g.D.BranchOpFoldInterface.feasible; entry_operands = g.D.RegionBranchOpInterface.entry_operands }) in
    let t = c.args.ctx.now.tree in
    let bs = successors_of t c.args.branch.now.op in
    let whole : length bs ≤ c.loop-i.i = omega arith in
    branches_asked x t (lattice_values_of c.args.tables.now) c.args.branch.now.op o e (known_constants c.args.tables.now) c.args.constraints.now.items c.loop-i.constraints.items
    (adds_end (known_constants c.args.tables.now) bs (λ now j b. FollowsEdge x t (lattice_values_of c.args.tables.now) o now j b) c.loop-i.i c.args.constraints.now.items c.loop-i.constraints.items whole (c.loop-i.invariant o e))
