use Rattle.std.proofs.Common.{◌<◌, ◌≤◌, length, get_or, arith}
use Rattle.std.proofs.lemmas.Option.{slice_get-get_or}
use Rattle.pliron_core.specs.Tree.{arguments_of}
use Rattle.pliron_theory.specs.LatticeValues.{Says}
use Rattle.pliron_opt_sccp.specs.LatticeTables.{known_constants, lattice_values_of}
use Rattle.pliron_opt_sccp.specs.Constraints.{GetsNamed}
use Rattle.pliron_opt_sccp.proofs.Constrained.{adds_next, named_entry_asked}
use Rattle.pliron_opt_sccp.proofs.constraints.constrain_named_entry.Goals as goal

pub loop-j-preserved : goal.loop-j-preserved
loop-j-preserved g c = λ o e.
    let x : Says = record { meaning = g.D.HasMeaning.meaning; can_fold = g.D.ConstFoldInterface.can_fold; can_fold_branch = g.D.BranchOpFoldInterface.can_fold_branch; constants = g.D.ConstFoldInterface.constants; feasible = g.D.BranchOpFoldInterface.feasible; entry_operands = g.D.RegionBranchOpInterface.entry_operands } in
    let t = c.args.ctx.now.tree in
    let s = c.args.tables.now in
    let vs = arguments_of t c.args.entry.now.block in
    let within : c.loop-j.j < length vs = omega arith in
    let at = slice_get-get_or vs c.loop-j.j 0 within in
    adds_next (known_constants s) vs (λ now j v. GetsNamed x t (lattice_values_of s) o c.args.entry.now.region now j v) c.loop-j.j (get_or vs c.loop-j.j 0) c.push.new.self.items c.loop-j.constraints.items c.constrain_named.new.constraints.items at (c.loop-j.invariant o e) (c.in_ok-constrain_named.ensures.ok o e (get_or vs c.loop-j.j 0) at)

pub returns-clause-ok : goal.returns-clause-ok
returns-clause-ok g c = λ o e.
    let x : Says = record { meaning = g.D.HasMeaning.meaning; can_fold = g.D.ConstFoldInterface.can_fold; can_fold_branch = g.D.BranchOpFoldInterface.can_fold_branch; constants = g.D.ConstFoldInterface.constants; feasible = g.D.BranchOpFoldInterface.feasible; entry_operands = g.D.RegionBranchOpInterface.entry_operands } in
    let t = c.args.ctx.now.tree in
    let s = c.args.tables.now in
    let whole : length (arguments_of t c.args.entry.now.block) ≤ c.loop-j.j = omega arith in
    named_entry_asked (known_constants s) x t (lattice_values_of s) o c.args.entry.now.region c.args.entry.now.block c.loop-j.j c.args.constraints.now.items c.push.new.self.items c.loop-j.constraints.items c.in_ok-push.ensures.items whole (c.loop-j.invariant o e)
