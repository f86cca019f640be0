use Rattle.std.proofs.Common.{ap, ◌∙◌, refl}
use Rattle.pliron_core.specs.Tree.{body_of, up_from}
use Rattle.pliron_core.specs.Lists.{next_in}
use Rattle.pliron_theory.specs.LatticeValues.{Says}
use Rattle.pliron_opt_sccp.specs.OperationVisits.{VisitsInTurnAndKeeps}
use Rattle.pliron_opt_sccp.specs.OperationVisits.VisitsInTurnAndKeeps.{Nowhere, Onward}
use Rattle.pliron_opt_sccp.proofs.Stepping.{targets_same}
use Rattle.pliron_opt_sccp.proofs.Going.{walk_start, walk_next, walk_smaller, walk_end}
use Rattle.pliron_opt_sccp.proofs.search.visit_block.Goals as goal

pub loop-at-init : goal.loop-at-init
loop-at-init g c =
    let x : Says = record { meaning = g.D.HasMeaning.meaning; can_fold = g.D.ConstFoldInterface.can_fold; can_fold_branch = g.D.BranchOpFoldInterface.can_fold_branch; constants = g.D.ConstFoldInterface.constants; feasible = g.D.BranchOpFoldInterface.feasible; entry_operands = g.D.RegionBranchOpInterface.entry_operands } in
    (walk_start (λ ks p q. VisitsInTurnAndKeeps x c.args.ctx.now.tree ks p.0 q.0 p.1 q.1) (body_of c.args.ctx.now.tree c.args.block) c.get_head-at.result (c.args.tables.now, c.args.edges.now) c.get_head-at.ensures.first, λ b. refl, c.requires.entered)

pub visit_and_keep-requires-clause-live : goal.visit_and_keep-requires-clause-live
visit_and_keep-requires-clause-live g c =
    let w = c.well_formed-2.ensures.tree in
    (w.joined.all_in_place c.in-Some.op c.args.block (w.bodies.owned c.in-Some.op c.args.block (c.loop-at.invariant.0.within c.in-Some.op c.in-Some.is))).0

pub visit_and_keep-requires-clause-targets : goal.visit_and_keep-requires-clause-targets
visit_and_keep-requires-clause-targets g c = targets_same c.args.ctx.now.tree c.args.tables.now c.loop-at.tables c.loop-at.invariant.1 c.in-Some.op (c.requires.targets c.in-Some.op (c.loop-at.invariant.0.within c.in-Some.op c.in-Some.is))

pub visit_and_keep-requires-clause-entered : goal.visit_and_keep-requires-clause-entered
visit_and_keep-requires-clause-entered g c = c.loop-at.invariant.2

pub loop-at-preserved : goal.loop-at-preserved
loop-at-preserved g c =
    let x : Says = record { meaning = g.D.HasMeaning.meaning; can_fold = g.D.ConstFoldInterface.can_fold; can_fold_branch = g.D.BranchOpFoldInterface.can_fold_branch; constants = g.D.ConstFoldInterface.constants; feasible = g.D.BranchOpFoldInterface.feasible; entry_operands = g.D.RegionBranchOpInterface.entry_operands } in
    let w = c.well_formed-2.ensures.tree in
    let owned = w.bodies.owned c.in-Some.op c.args.block (c.loop-at.invariant.0.within c.in-Some.op c.in-Some.is) in
    let next = c.get_next-at.ensures.next ∙ ap (λ o. up_from o (λ b. next_in c.in-Some.op (body_of c.args.ctx.now.tree b))) owned in
    (walk_next (λ ks p q. VisitsInTurnAndKeeps x c.args.ctx.now.tree ks p.0 q.0 p.1 q.1) (body_of c.args.ctx.now.tree c.args.block) c.loop-at.at c.get_next-at.result c.in-Some.op (c.args.tables.now, c.args.edges.now) (c.loop-at.tables, c.loop-at.edges) (c.visit_and_keep.new.tables, c.visit_and_keep.new.edges) (w.bodies.distinct c.args.block) c.loop-at.invariant.0 c.in-Some.is next (λ rest u d. Onward c.in-Some.op c.visit_and_keep.new.tables c.visit_and_keep.new.edges c.in_ok-visit_and_keep.ensures.visits c.in_ok-visit_and_keep.ensures.keeps d), λ b. c.in_ok-visit_and_keep.ensures.visits.applied.lowered.numbers b ∙ c.loop-at.invariant.1 b, c.in_ok-visit_and_keep.ensures.entered)

pub loop-at-smaller : goal.loop-at-smaller
loop-at-smaller g c =
    let x : Says = record { meaning = g.D.HasMeaning.meaning; can_fold = g.D.ConstFoldInterface.can_fold; can_fold_branch = g.D.BranchOpFoldInterface.can_fold_branch; constants = g.D.ConstFoldInterface.constants; feasible = g.D.BranchOpFoldInterface.feasible; entry_operands = g.D.RegionBranchOpInterface.entry_operands } in
    let w = c.well_formed-2.ensures.tree in
    let owned = w.bodies.owned c.in-Some.op c.args.block (c.loop-at.invariant.0.within c.in-Some.op c.in-Some.is) in
    let next = c.get_next-at.ensures.next ∙ ap (λ o. up_from o (λ b. next_in c.in-Some.op (body_of c.args.ctx.now.tree b))) owned in
    walk_smaller (λ ks p q. VisitsInTurnAndKeeps x c.args.ctx.now.tree ks p.0 q.0 p.1 q.1) (body_of c.args.ctx.now.tree c.args.block) c.loop-at.at c.get_next-at.result c.in-Some.op (c.args.tables.now, c.args.edges.now) (c.loop-at.tables, c.loop-at.edges) (w.bodies.distinct c.args.block) c.loop-at.invariant.0 c.in-Some.is next

pub returns-clause-ok : goal.returns-clause-ok
returns-clause-ok g c =
    let x : Says = record { meaning = g.D.HasMeaning.meaning; can_fold = g.D.ConstFoldInterface.can_fold; can_fold_branch = g.D.BranchOpFoldInterface.can_fold_branch; constants = g.D.ConstFoldInterface.constants; feasible = g.D.BranchOpFoldInterface.feasible; entry_operands = g.D.RegionBranchOpInterface.entry_operands } in
    walk_end (λ ks p q. VisitsInTurnAndKeeps x c.args.ctx.now.tree ks p.0 q.0 p.1 q.1) (body_of c.args.ctx.now.tree c.args.block) c.loop-at.at (c.args.tables.now, c.args.edges.now) (c.loop-at.tables, c.loop-at.edges) c.in_default.is Nowhere c.loop-at.invariant.0

pub returns-clause-entered : goal.returns-clause-entered
returns-clause-entered g c = c.loop-at.invariant.2
