use Rattle.std.proofs.Common.{◌≡◌, length, Some, slice_get, refl, arith}
use Rattle.std.proofs.lemmas.Option.{slice_get_read}
use Rattle.pliron_core.proofs.HoldingLemmas.{in_slice}
use Rattle.pliron_theory.specs.LatticeValues.{Says}
use Rattle.pliron_opt_sccp.proofs.DeferredVisits.{seeing_start, seeing_next, seeing_end}
use Rattle.pliron_opt_sccp.proofs.Stepping.{targets_same}
use Rattle.pliron_opt_sccp.proofs.search.visit_or_defer_all.Goals as goal

pub loop-i-init : goal.loop-i-init
loop-i-init g c =
    let x : Says = record { meaning = g.D.HasMeaning.meaning; can_fold = g.D.ConstFoldInterface.can_fold; can_fold_branch = g.D.BranchOpFoldInterface.can_fold_branch; constants = g.D.ConstFoldInterface.constants; feasible = g.D.BranchOpFoldInterface.feasible; entry_operands = g.D.RegionBranchOpInterface.entry_operands } in
    (seeing_start x c.args.ctx.now.tree c.args.ops.now c.args.tables.now c.args.deferred.now, omega arith, c.requires.entered)

pub visit_or_defer-requires-clause-live : goal.visit_or_defer-requires-clause-live
visit_or_defer-requires-clause-live g c =
    let ops = c.args.ops.now in
    let at : slice_get ops c.loop-i.i ≡ Some c.index-ops-i.result = slice_get_read ops (length ops) c.loop-i.i c.index-ops-i.result refl c.loop-i-test.true c.index-ops-i.is in
    c.requires.live c.index-ops-i.result (in_slice ops c.loop-i.i c.index-ops-i.result at)

pub visit_or_defer-requires-clause-targets : goal.visit_or_defer-requires-clause-targets
visit_or_defer-requires-clause-targets g c =
    let ops = c.args.ops.now in
    let at : slice_get ops c.loop-i.i ≡ Some c.index-ops-i.result = slice_get_read ops (length ops) c.loop-i.i c.index-ops-i.result refl c.loop-i-test.true c.index-ops-i.is in
    targets_same c.args.ctx.now.tree c.args.tables.now c.loop-i.tables c.loop-i.invariant.0.numbers c.index-ops-i.result (c.requires.targets c.index-ops-i.result (in_slice ops c.loop-i.i c.index-ops-i.result at))

pub visit_or_defer-requires-clause-entered : goal.visit_or_defer-requires-clause-entered
visit_or_defer-requires-clause-entered g c = c.loop-i.invariant.2

pub loop-i-preserved : goal.loop-i-preserved
loop-i-preserved g c =
    let ops = c.args.ops.now in
    let x : Says = record { meaning = g.D.HasMeaning.meaning; can_fold = g.D.ConstFoldInterface.can_fold; can_fold_branch = g.D.BranchOpFoldInterface.can_fold_branch; constants = g.D.ConstFoldInterface.constants; feasible = g.D.BranchOpFoldInterface.feasible; entry_operands = g.D.RegionBranchOpInterface.entry_operands } in
    let at : slice_get ops c.loop-i.i ≡ Some c.index-ops-i.result = slice_get_read ops (length ops) c.loop-i.i c.index-ops-i.result refl c.loop-i-test.true c.index-ops-i.is in
    (seeing_next x c.args.ctx.now.tree ops c.args.tables.now c.args.deferred.now c.loop-i.i c.index-ops-i.result at c.loop-i.tables c.visit_or_defer.new.tables c.loop-i.deferred c.visit_or_defer.new.deferred c.loop-i.invariant.0 c.in_ok-visit_or_defer.ensures.ok, omega (arith, c.loop-i-test.true), c.in_ok-visit_or_defer.ensures.entered)

pub returns-clause-ok : goal.returns-clause-ok
returns-clause-ok g c =
    let x : Says = record { meaning = g.D.HasMeaning.meaning; can_fold = g.D.ConstFoldInterface.can_fold; can_fold_branch = g.D.BranchOpFoldInterface.can_fold_branch; constants = g.D.ConstFoldInterface.constants; feasible = g.D.BranchOpFoldInterface.feasible; entry_operands = g.D.RegionBranchOpInterface.entry_operands } in
    seeing_end x c.args.ctx.now.tree c.args.ops.now c.args.tables.now c.args.deferred.now c.loop-i.i c.loop-i.tables c.loop-i.deferred (omega arith) (omega arith) c.loop-i.invariant.1 c.loop-i.invariant.0

pub returns-clause-entered : goal.returns-clause-entered
returns-clause-entered g c = c.loop-i.invariant.2
