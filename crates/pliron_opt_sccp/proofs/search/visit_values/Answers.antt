use Rattle.std.proofs.Common.{subst}
use Rattle.pliron_core.specs.Lists.{In}
use Rattle.pliron_theory.specs.LatticeValues.{Says}
use Rattle.pliron_opt_sccp.specs.Searching.{VisitsOrDefersAll}
use Rattle.pliron_opt_sccp.specs.LatticeTables.{lattice_values_of}
use Rattle.pliron_opt_sccp.proofs.Entered.{are_entered_lower, entered_same}
use Rattle.pliron_opt_sccp.proofs.ReactionSteps.{can_call, targets_then}
use Rattle.pliron_opt_sccp.proofs.search.visit_values.Goals as goal

pub satisfy_all-requires : goal.satisfy_all-requires
satisfy_all-requires g c =
    let x : Says = record { meaning = g.D.HasMeaning.meaning; can_fold = g.D.ConstFoldInterface.can_fold; can_fold_branch = g.D.BranchOpFoldInterface.can_fold_branch; constants = g.D.ConstFoldInterface.constants; feasible = g.D.BranchOpFoldInterface.feasible; entry_operands = g.D.RegionBranchOpInterface.entry_operands } in
    let taken = c.in_ok-scheduled.ensures.ok in
    can_call x c.args.ctx.now.tree c.args.edges.now c.take_values.new.tables taken.values c.in_ok-scheduled.scheduled.users.keys c.in_ok-scheduled.scheduled.constraints.items taken.calls

pub visit_or_defer_all-requires-clause-live : goal.visit_or_defer_all-requires-clause-live
visit_or_defer_all-requires-clause-live g c = λ k i.
    let v = (c.in_ok-scheduled.ensures.ok.calls.only k (subst (In k) c.as_slice.ensures.keys i)).0 in
    (c.well_formed-2.ensures.tree.joined.all_in_place k v.block v.in_block).0

pub visit_or_defer_all-requires-clause-targets : goal.visit_or_defer_all-requires-clause-targets
visit_or_defer_all-requires-clause-targets g c = λ k i.
    let x : Says = record { meaning = g.D.HasMeaning.meaning; can_fold = g.D.ConstFoldInterface.can_fold; can_fold_branch = g.D.BranchOpFoldInterface.can_fold_branch; constants = g.D.ConstFoldInterface.constants; feasible = g.D.BranchOpFoldInterface.feasible; entry_operands = g.D.RegionBranchOpInterface.entry_operands } in
    let taken = c.in_ok-scheduled.ensures.ok in
    targets_then x c.args.ctx.now.tree c.args.edges.now taken.values c.in_ok-scheduled.scheduled.users.keys c.in_ok-scheduled.scheduled.constraints.items c.args.tables.now c.take_values.new.tables c.satisfy_all.new.tables taken.takes taken.calls c.satisfy_all.ensures.applied c.requires.targets k (subst (In k) c.as_slice.ensures.keys i)

pub visit_or_defer_all-requires-clause-entered : goal.visit_or_defer_all-requires-clause-entered
visit_or_defer_all-requires-clause-entered g c =
    let t = c.args.ctx.now.tree in
    let s = c.args.tables.now in
    let between = c.take_values.new.tables in
    let takes = c.in_ok-scheduled.ensures.ok.takes in
    are_entered_lower t (lattice_values_of between) (lattice_values_of c.satisfy_all.new.tables) c.args.scratch.now.entered c.satisfy_all.ensures.applied.lowered.below (entered_same t s between c.args.scratch.now.entered takes.facts takes.reached c.requires.entered)

pub returns-clause-ok : goal.returns-clause-ok
returns-clause-ok g c =
    let x : Says = record { meaning = g.D.HasMeaning.meaning; can_fold = g.D.ConstFoldInterface.can_fold; can_fold_branch = g.D.BranchOpFoldInterface.can_fold_branch; constants = g.D.ConstFoldInterface.constants; feasible = g.D.BranchOpFoldInterface.feasible; entry_operands = g.D.RegionBranchOpInterface.entry_operands } in
    record {
      users = c.in_ok-scheduled.scheduled.users.keys;
      constraints = c.in_ok-scheduled.scheduled.constraints.items;
      between = c.take_values.new.tables;
      met = c.satisfy_all.new.tables;
      takes = c.in_ok-scheduled.ensures.ok;
      applied = c.satisfy_all.ensures.applied;
      stamped = c.satisfy_all.ensures.stamped;
      sees = subst (λ ks. VisitsOrDefersAll x c.args.ctx.now.tree ks c.satisfy_all.new.tables c.visit_or_defer_all.new.tables c.args.deferred.now c.visit_or_defer_all.new.deferred) c.as_slice.ensures.keys c.in_ok-visit_or_defer_all.ensures.ok;
    }
