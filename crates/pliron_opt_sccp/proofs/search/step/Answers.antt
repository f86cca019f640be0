use Rattle.std.proofs.Common.{Result, Ok, Err, refl, sym, ◌∙◌}
use Rattle.std.specs.Result.{IfOk}
use Rattle.pliron_theory.specs.LatticeValues.{Says}
use Rattle.pliron_opt_sccp.specs.Searching.TakesTurn.{Block, Values}
use Rattle.pliron_opt_sccp.proofs.Entered.{entered_same}
use Rattle.pliron_opt_sccp.proofs.Marked.{waits_reached}
use Rattle.pliron_opt_sccp.proofs.Stepping.{targets_same, targets_kept}
use Rattle.pliron_opt_sccp.proofs.ReactionLemmas.{takes_from}
use Rattle.pliron_opt_sccp.proofs.Written.{none_of}
use Rattle.pliron_opt_sccp.proofs.search.step.Goals as goal

if_ok_then : {X Y : Type 0} {P Q : X → Type 0} (r : Result X Y) → ((x : X) → P x → Q x) → IfOk r P → IfOk r Q
if_ok_then (Ok x) f p = f x p
if_ok_then (Err e) f p = p

pub visit_block-requires-clause-targets : goal.visit_block-requires-clause-targets
visit_block-requires-clause-targets g c = λ k i.
    let s = c.args.tables.now in
    let taken = c.in-Some.ensures.taken in
    let placed = c.well_formed-2.ensures.tree.bodies.owned k c.in-Some.block i in
    targets_same c.args.ctx.now.tree s c.pop_block.new.self taken.numbers k (c.requires.targets k c.in-Some.block placed (waits_reached _ taken.waited))

pub visit_values-requires-clause-targets : goal.visit_values-requires-clause-targets
visit_values-requires-clause-targets g c =
    let n = none_of c.pop_block.result c.in-None.is c.pop_block.ensures.none in
    targets_kept c.args.ctx.now.tree c.args.tables.now c.pop_block.new.self n.0.numbers n.0.reached c.requires.targets

pub visit_values-requires-clause-values : goal.visit_values-requires-clause-values
visit_values-requires-clause-values g c =
    let n = none_of c.pop_block.result c.in-None.is c.pop_block.ensures.none in
    λ v e. c.requires.values v (sym (n.0.values v) ∙ e)

pub visit_block-requires-clause-entered : goal.visit_block-requires-clause-entered
visit_block-requires-clause-entered g c =
    let taken = c.in-Some.ensures.taken in
    entered_same c.args.ctx.now.tree c.args.tables.now c.pop_block.new.self c.args.scratch.now.entered taken.facts taken.reached c.requires.entered

pub visit_values-requires-clause-entered : goal.visit_values-requires-clause-entered
visit_values-requires-clause-entered g c =
    let n = none_of c.pop_block.result c.in-None.is c.pop_block.ensures.none in
    entered_same c.args.ctx.now.tree c.args.tables.now c.pop_block.new.self c.args.scratch.now.entered n.0.facts n.0.reached c.requires.entered

pub returns-in_ok-visit_block-in-Some-clause-ok : goal.returns-in_ok-visit_block-in-Some-clause-ok
returns-in_ok-visit_block-in-Some-clause-ok g c = Block c.in-Some.block c.pop_block.new.self c.in-Some.ensures.taken c.in_ok-visit_block-in-Some.ensures.ok refl refl

pub returns-in-None-clause-ok : goal.returns-in-None-clause-ok
returns-in-None-clause-ok g c =
    let x : Says = record { meaning = g.D.HasMeaning.meaning; can_fold = g.D.ConstFoldInterface.can_fold; can_fold_branch = g.D.BranchOpFoldInterface.can_fold_branch; constants = g.D.ConstFoldInterface.constants; feasible = g.D.BranchOpFoldInterface.feasible; entry_operands = g.D.RegionBranchOpInterface.entry_operands } in
    let n = none_of c.pop_block.result c.in-None.is c.pop_block.ensures.none in
    if_ok_then c.visit_values.result
    (λ taken v. Values n.1 (record {
      users = v.users;
      constraints = v.constraints;
      between = v.between;
      met = v.met;
      takes = takes_from x c.args.ctx.now.tree c.args.edges.now c.args.tables.now c.pop_block.new.self v.between v.users v.constraints taken n.0 v.takes;
      applied = v.applied;
      stamped = v.stamped;
      sees = v.sees;
    }) refl)
    c.visit_values.ensures.ok
