use Rattle.std.proofs.Common.{◌≡◌, ◌+◌, ◌*◌, ◌-◌, ◌^◌, length, Result, Ok, Err, true≢false, sym, ◌∙◌, subst, arith}
use Rattle.std.specs.Prelude.{IfErr, IsErrAnd}
use Rattle.pliron_laws.specs.declared.fault.OptError.TheVariants.{Memory}
use Rattle.pliron_theory.specs.LatticeValues.{Says}
use Rattle.pliron_opt_sccp.specs.Chain.{blocks_inside}
use Rattle.pliron_opt_sccp.specs.Deferring.{deferred_operations}
use Rattle.pliron_opt_sccp.specs.Inside.{values_inside}
use Rattle.pliron_opt_sccp.specs.Searching.{VisitsDeferred, TakesTurn}
use Rattle.pliron_opt_sccp.proofs.DistinctLists.{inside_block}
use Rattle.pliron_opt_sccp.proofs.OnTheWay.{listed_defined, targets_numbered, few_to_take, started_search, next_search, search_bound, aside_search, end_search, fewer_left, fewer_aside, more_by}
use Rattle.pliron_opt_sccp.proofs.search.search.Goals as goal

pub loop-scratch-init : goal.loop-scratch-init
loop-scratch-init g c =
    let x : Says = record { meaning = g.D.HasMeaning.meaning; can_fold = g.D.ConstFoldInterface.can_fold; can_fold_branch = g.D.BranchOpFoldInterface.can_fold_branch; constants = g.D.ConstFoldInterface.constants; feasible = g.D.BranchOpFoldInterface.feasible; entry_operands = g.D.RegionBranchOpInterface.entry_operands } in
    let d = g.met.D.Dialect in
    (started_search x c.args.ctx.now.tree c.args.root c.well_formed-2.ensures.tree c.requires.live c.requires.linked d.answers_true (record { forwarded = d.forwards_operands.places; named = d.names_operands.there }) c.in_ok-tables.tables c.new-deferred.result c.new-edges.result c.new-deferred.ensures c.new-edges.ensures c.in_ok-tables.ensures.ok, λ b i. absurd (true≢false (sym i ∙ c.new-scratch.ensures b)))

pub step-requires-clause-targets : goal.step-requires-clause-targets
step-requires-clause-targets g c =
    let x : Says = record { meaning = g.D.HasMeaning.meaning; can_fold = g.D.ConstFoldInterface.can_fold; can_fold_branch = g.D.BranchOpFoldInterface.can_fold_branch; constants = g.D.ConstFoldInterface.constants; feasible = g.D.BranchOpFoldInterface.feasible; entry_operands = g.D.RegionBranchOpInterface.entry_operands } in
    targets_numbered x c.args.ctx.now.tree c.args.root c.well_formed-2.ensures.tree c.requires.live c.requires.linked.edges c.loop-scratch.tables c.loop-scratch.deferred c.loop-scratch.invariant.0.way

pub step-requires-clause-blocks : goal.step-requires-clause-blocks
step-requires-clause-blocks g c = λ b waits. inside_block c.args.ctx.now.tree c.well_formed-2.ensures.tree c.args.root b (c.loop-scratch.invariant.0.way.waits.blocks b waits).0

pub step-requires-clause-values : goal.step-requires-clause-values
step-requires-clause-values g c = λ v waits. listed_defined c.args.ctx.now.tree c.well_formed-2.ensures.tree c.args.root v (c.loop-scratch.invariant.0.way.waits.values v waits).0

pub step-requires-clause-entered : goal.step-requires-clause-entered
step-requires-clause-entered g c = c.loop-scratch.invariant.1

pub overflow_add-pops : goal.overflow_add-pops
overflow_add-pops g c =
    let x : Says = record { meaning = g.D.HasMeaning.meaning; can_fold = g.D.ConstFoldInterface.can_fold; can_fold_branch = g.D.BranchOpFoldInterface.can_fold_branch; constants = g.D.ConstFoldInterface.constants; feasible = g.D.BranchOpFoldInterface.feasible; entry_operands = g.D.RegionBranchOpInterface.entry_operands } in
    let d = g.met.D.Dialect in
    let few = few_to_take x c.args.ctx.now.tree c.args.root c.well_formed-2.ensures.tree c.requires.live c.well_formed-2.ensures.keys in
    let bound = search_bound x c.args.ctx.now.tree c.args.root c.well_formed-2.ensures.tree c.requires.live c.requires.linked d.answers_true (record { forwarded = d.forwards_operands.places; named = d.names_operands.there }) c.loop-scratch.tables c.step.new.tables c.loop-scratch.deferred c.step.new.deferred c.loop-scratch.edges c.step.new.edges c.loop-scratch.pops c.in_ok-taken.taken c.in_ok-taken.ensures.ok c.loop-scratch.invariant.0 in
    omega (arith, few, bound)

pub loop-scratch-smaller-then-taken-gt0 : goal.loop-scratch-smaller-then-taken-gt0
loop-scratch-smaller-then-taken-gt0 g c =
    let x : Says = record { meaning = g.D.HasMeaning.meaning; can_fold = g.D.ConstFoldInterface.can_fold; can_fold_branch = g.D.BranchOpFoldInterface.can_fold_branch; constants = g.D.ConstFoldInterface.constants; feasible = g.D.BranchOpFoldInterface.feasible; entry_operands = g.D.RegionBranchOpInterface.entry_operands } in
    let d = g.met.D.Dialect in
    fewer_left x c.args.ctx.now.tree c.args.root c.well_formed-2.ensures.tree c.requires.live c.requires.linked d.answers_true (record { forwarded = d.forwards_operands.places; named = d.names_operands.there }) c.loop-scratch.tables c.step.new.tables c.loop-scratch.deferred c.step.new.deferred c.loop-scratch.edges c.step.new.edges c.loop-scratch.pops c.in_ok-taken.taken c.in_ok-taken.ensures.ok c.loop-scratch.invariant.0 (omega (arith, c.if-taken-gt0.true))

pub loop-scratch-preserved-then-taken-gt0 : goal.loop-scratch-preserved-then-taken-gt0
loop-scratch-preserved-then-taken-gt0 g c =
    let x : Says = record { meaning = g.D.HasMeaning.meaning; can_fold = g.D.ConstFoldInterface.can_fold; can_fold_branch = g.D.BranchOpFoldInterface.can_fold_branch; constants = g.D.ConstFoldInterface.constants; feasible = g.D.BranchOpFoldInterface.feasible; entry_operands = g.D.RegionBranchOpInterface.entry_operands } in
    let d = g.met.D.Dialect in
    (next_search x c.args.ctx.now.tree c.args.root c.well_formed-2.ensures.tree c.requires.live c.requires.linked d.answers_true (record { forwarded = d.forwards_operands.places; named = d.names_operands.there }) c.loop-scratch.tables c.step.new.tables c.loop-scratch.deferred c.step.new.deferred c.loop-scratch.edges c.step.new.edges c.loop-scratch.pops c.in_ok-taken.taken c.in_ok-taken.ensures.ok c.loop-scratch.invariant.0, c.in_ok-taken.ensures.entered)

pub visit_deferred-requires-clause-placed : goal.visit_deferred-requires-clause-placed
visit_deferred-requires-clause-placed g c =
    let x : Says = record { meaning = g.D.HasMeaning.meaning; can_fold = g.D.ConstFoldInterface.can_fold; can_fold_branch = g.D.BranchOpFoldInterface.can_fold_branch; constants = g.D.ConstFoldInterface.constants; feasible = g.D.BranchOpFoldInterface.feasible; entry_operands = g.D.RegionBranchOpInterface.entry_operands } in
    let d = g.met.D.Dialect in
    let s = next_search x c.args.ctx.now.tree c.args.root c.well_formed-2.ensures.tree c.requires.live c.requires.linked d.answers_true (record { forwarded = d.forwards_operands.places; named = d.names_operands.there }) c.loop-scratch.tables c.step.new.tables c.loop-scratch.deferred c.step.new.deferred c.loop-scratch.edges c.step.new.edges c.loop-scratch.pops c.in_ok-taken.taken c.in_ok-taken.ensures.ok c.loop-scratch.invariant.0 in
    λ k i. (s.way.deferral k i).was_visited

pub visit_deferred-requires-clause-targets : goal.visit_deferred-requires-clause-targets
visit_deferred-requires-clause-targets g c =
    let x : Says = record { meaning = g.D.HasMeaning.meaning; can_fold = g.D.ConstFoldInterface.can_fold; can_fold_branch = g.D.BranchOpFoldInterface.can_fold_branch; constants = g.D.ConstFoldInterface.constants; feasible = g.D.BranchOpFoldInterface.feasible; entry_operands = g.D.RegionBranchOpInterface.entry_operands } in
    let d = g.met.D.Dialect in
    let s = next_search x c.args.ctx.now.tree c.args.root c.well_formed-2.ensures.tree c.requires.live c.requires.linked d.answers_true (record { forwarded = d.forwards_operands.places; named = d.names_operands.there }) c.loop-scratch.tables c.step.new.tables c.loop-scratch.deferred c.step.new.deferred c.loop-scratch.edges c.step.new.edges c.loop-scratch.pops c.in_ok-taken.taken c.in_ok-taken.ensures.ok c.loop-scratch.invariant.0 in
    targets_numbered x c.args.ctx.now.tree c.args.root c.well_formed-2.ensures.tree c.requires.live c.requires.linked.edges c.step.new.tables c.step.new.deferred s.way

pub returns-then-not-branch-clause-ok : goal.returns-then-not-branch-clause-ok
returns-then-not-branch-clause-ok g c =
    let x : Says = record { meaning = g.D.HasMeaning.meaning; can_fold = g.D.ConstFoldInterface.can_fold; can_fold_branch = g.D.BranchOpFoldInterface.can_fold_branch; constants = g.D.ConstFoldInterface.constants; feasible = g.D.BranchOpFoldInterface.feasible; entry_operands = g.D.RegionBranchOpInterface.entry_operands } in
    let d = g.met.D.Dialect in
    let none : c.in_ok-taken.taken ≡ 0 = omega (arith, c.if-taken-gt0.false) in
    let turn = subst (TakesTurn x c.args.ctx.now.tree c.loop-scratch.tables c.step.new.tables c.loop-scratch.deferred c.step.new.deferred c.loop-scratch.edges c.step.new.edges) none c.in_ok-taken.ensures.ok in
    let visits = subst (VisitsDeferred x c.args.ctx.now.tree c.step.new.tables c.visit_deferred.new.tables c.step.new.deferred c.visit_deferred.new.deferred c.step.new.edges c.visit_deferred.new.edges) c.if-not-branch.true c.in_ok-visit_deferred.ensures.ok in
    end_search x c.args.ctx.now.tree c.args.root c.well_formed-2.ensures.tree c.requires.live c.requires.linked d.answers_true (record { forwarded = d.forwards_operands.places; named = d.names_operands.there }) c.loop-scratch.tables c.step.new.tables c.loop-scratch.deferred c.step.new.deferred c.loop-scratch.edges c.step.new.edges c.loop-scratch.pops turn c.loop-scratch.invariant.0 c.visit_deferred.new.tables c.visit_deferred.new.deferred c.visit_deferred.new.edges visits

pub loop-scratch-smaller : goal.loop-scratch-smaller
loop-scratch-smaller g c =
    let x : Says = record { meaning = g.D.HasMeaning.meaning; can_fold = g.D.ConstFoldInterface.can_fold; can_fold_branch = g.D.BranchOpFoldInterface.can_fold_branch; constants = g.D.ConstFoldInterface.constants; feasible = g.D.BranchOpFoldInterface.feasible; entry_operands = g.D.RegionBranchOpInterface.entry_operands } in
    let d = g.met.D.Dialect in
    let none : c.in_ok-taken.taken ≡ 0 = omega (arith, c.if-taken-gt0.false) in
    let turn = subst (TakesTurn x c.args.ctx.now.tree c.loop-scratch.tables c.step.new.tables c.loop-scratch.deferred c.step.new.deferred c.loop-scratch.edges c.step.new.edges) none c.in_ok-taken.ensures.ok in
    let visits = subst (VisitsDeferred x c.args.ctx.now.tree c.step.new.tables c.visit_deferred.new.tables c.step.new.deferred c.visit_deferred.new.deferred c.step.new.edges c.visit_deferred.new.edges) c.if-not-branch.false c.in_ok-visit_deferred.ensures.ok in
    more_by ((length (blocks_inside c.args.ctx.now.tree c.args.root) + 2 * length (values_inside c.args.ctx.now.tree c.args.root) - c.loop-scratch.pops) * 2 ^ 64) (length (deferred_operations c.visit_deferred.new.deferred)) (length (deferred_operations c.loop-scratch.deferred))
    (fewer_aside x c.args.ctx.now.tree c.args.root c.well_formed-2.ensures.tree c.requires.live c.requires.linked d.answers_true (record { forwarded = d.forwards_operands.places; named = d.names_operands.there }) c.loop-scratch.tables c.step.new.tables c.loop-scratch.deferred c.step.new.deferred c.loop-scratch.edges c.step.new.edges c.loop-scratch.pops turn c.loop-scratch.invariant.0 c.visit_deferred.new.tables c.visit_deferred.new.deferred c.visit_deferred.new.edges visits)

pub loop-scratch-preserved : goal.loop-scratch-preserved
loop-scratch-preserved g c =
    let x : Says = record { meaning = g.D.HasMeaning.meaning; can_fold = g.D.ConstFoldInterface.can_fold; can_fold_branch = g.D.BranchOpFoldInterface.can_fold_branch; constants = g.D.ConstFoldInterface.constants; feasible = g.D.BranchOpFoldInterface.feasible; entry_operands = g.D.RegionBranchOpInterface.entry_operands } in
    let d = g.met.D.Dialect in
    let none : c.in_ok-taken.taken ≡ 0 = omega (arith, c.if-taken-gt0.false) in
    let turn = subst (TakesTurn x c.args.ctx.now.tree c.loop-scratch.tables c.step.new.tables c.loop-scratch.deferred c.step.new.deferred c.loop-scratch.edges c.step.new.edges) none c.in_ok-taken.ensures.ok in
    let visits = subst (VisitsDeferred x c.args.ctx.now.tree c.step.new.tables c.visit_deferred.new.tables c.step.new.deferred c.visit_deferred.new.deferred c.step.new.edges c.visit_deferred.new.edges) c.if-not-branch.false c.in_ok-visit_deferred.ensures.ok in
    (aside_search x c.args.ctx.now.tree c.args.root c.well_formed-2.ensures.tree c.requires.live c.requires.linked d.answers_true (record { forwarded = d.forwards_operands.places; named = d.names_operands.there }) c.loop-scratch.tables c.step.new.tables c.loop-scratch.deferred c.step.new.deferred c.loop-scratch.edges c.step.new.edges c.loop-scratch.pops turn c.loop-scratch.invariant.0 c.visit_deferred.new.tables c.visit_deferred.new.deferred c.visit_deferred.new.edges visits, c.in_ok-visit_deferred.ensures.entered)

err_same : {X Y : Type 0} (r : Result X Y) (e m : Y) → IsErrAnd r (λ x. x ≡ e) → e ≡ m → IfErr r (λ x. x ≡ m)
err_same (Ok x) e m given same = tt
err_same (Err x) e m given same = given ∙ same

pub returns-in_err-taken-clause-memory : goal.returns-in_err-taken-clause-memory
returns-in_err-taken-clause-memory g c = err_same c.from_residual-in_err-taken.result c.in_err-taken.field-0.0 Memory c.from_residual-in_err-taken.ensures.1 c.in_err-taken.ensures.memory

pub returns-in_err-visit_deferred-clause-memory : goal.returns-in_err-visit_deferred-clause-memory
returns-in_err-visit_deferred-clause-memory g c = err_same c.from_residual-in_err-visit_deferred.result c.in_err-visit_deferred.field-0.0 Memory c.from_residual-in_err-visit_deferred.ensures.1 c.in_err-visit_deferred.ensures.memory
