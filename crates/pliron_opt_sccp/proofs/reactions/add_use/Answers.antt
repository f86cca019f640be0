use Rattle.std.proofs.Common.{nat_eq, true≢false, subst, sym, ◌∙◌}
use Rattle.pliron_theory.specs.LatticeValues.{Says}
use Rattle.pliron_opt_sccp.specs.OperationVisits.{IsReactionTo}
use Rattle.pliron_opt_sccp.proofs.ReactionLemmas.{use_passed, use_reads_nothing, use_ahead, use_ahead_of, use_asked, on_ok_then}
use Rattle.pliron_opt_sccp.proofs.UserLists.{key_added, and_true}
use Rattle.pliron_opt_sccp.proofs.reactions.add_use.Goals as goal

pub returns-in_ok-mark_urgent-in-Revisit-clause-ok : goal.returns-in_ok-mark_urgent-in-Revisit-clause-ok
returns-in_ok-mark_urgent-in-Revisit-clause-ok g c =
    let x : Says = record { meaning = g.D.HasMeaning.meaning; can_fold = g.D.ConstFoldInterface.can_fold; can_fold_branch = g.D.BranchOpFoldInterface.can_fold_branch; constants = g.D.ConstFoldInterface.constants; feasible = g.D.BranchOpFoldInterface.feasible; entry_operands = g.D.RegionBranchOpInterface.entry_operands } in
    on_ok_then c.propagate_eagerly.result
    (λ ahead. use_ahead x c.args.ctx.now.tree c.args.edges.now c.args.tables.now c.args.from.now.value c.args.from.now.op c.args.from.now.place c.args.scheduled.now.users.keys c.args.scheduled.now.constraints.items c.insert.new.self.keys c.propagate_eagerly.new.constraints.items (c.is_visited.ensures.0 c.if-not-is_visited.false) (key_added (λ x y. and_true (nat_eq x y)) c.args.scheduled.now.users.keys c.insert.new.self.keys c.args.from.now.op c.in_ok-insert-in-Revisit.ensures.keys) ahead)
    c.propagate_eagerly.ensures.ok

pub returns-in-Ask-clause-ok : goal.returns-in-Ask-clause-ok
returns-in-Ask-clause-ok g c =
    let x : Says = record { meaning = g.D.HasMeaning.meaning; can_fold = g.D.ConstFoldInterface.can_fold; can_fold_branch = g.D.BranchOpFoldInterface.can_fold_branch; constants = g.D.ConstFoldInterface.constants; feasible = g.D.BranchOpFoldInterface.feasible; entry_operands = g.D.RegionBranchOpInterface.entry_operands } in
    let call = subst (IsReactionTo x c.args.ctx.now.tree c.args.from.now.op c.args.from.now.place) c.in-Ask.is c.reaction_to.ensures in
    on_ok_then c.constrain_argument.result
    (λ adds. use_asked x c.args.ctx.now.tree c.args.edges.now c.args.tables.now c.args.from.now.value c.args.from.now.op c.args.from.now.place c.args.scheduled.now.users.keys c.args.scheduled.now.constraints.items c.constrain_argument.new.constraints.items c.in-Ask.edge c.in-Ask.index c.requires.live (c.is_visited.ensures.0 c.if-not-is_visited.false) call.0 call.1 adds)
    c.constrain_argument.ensures.ok

pub returns-in-Pass-clause-ok : goal.returns-in-Pass-clause-ok
returns-in-Pass-clause-ok g c =
    let x : Says = record { meaning = g.D.HasMeaning.meaning; can_fold = g.D.ConstFoldInterface.can_fold; can_fold_branch = g.D.BranchOpFoldInterface.can_fold_branch; constants = g.D.ConstFoldInterface.constants; feasible = g.D.BranchOpFoldInterface.feasible; entry_operands = g.D.RegionBranchOpInterface.entry_operands } in
    use_reads_nothing x c.args.ctx.now.tree c.args.edges.now c.args.tables.now c.args.from.now.value c.args.from.now.op c.args.from.now.place c.args.scheduled.now.users.keys c.args.scheduled.now.constraints.items (subst (IsReactionTo x c.args.ctx.now.tree c.args.from.now.op c.args.from.now.place) c.in-Pass.is c.reaction_to.ensures)

pub returns-then-was_visited_since_lowered-clause-ok : goal.returns-then-was_visited_since_lowered-clause-ok
returns-then-was_visited_since_lowered-clause-ok g c =
    let x : Says = record { meaning = g.D.HasMeaning.meaning; can_fold = g.D.ConstFoldInterface.can_fold; can_fold_branch = g.D.BranchOpFoldInterface.can_fold_branch; constants = g.D.ConstFoldInterface.constants; feasible = g.D.BranchOpFoldInterface.feasible; entry_operands = g.D.RegionBranchOpInterface.entry_operands } in
    use_ahead_of x c.args.ctx.now.tree c.args.edges.now c.args.tables.now c.args.from.now.value c.args.from.now.op c.args.from.now.place c.args.scheduled.now.users.keys c.args.scheduled.now.constraints.items (c.was_visited_since_lowered.ensures c.if-was_visited_since_lowered.true c.args.from.now.value c.requires.stamp)

pub returns-then-not-is_visited-clause-ok : goal.returns-then-not-is_visited-clause-ok
returns-then-not-is_visited-clause-ok g c =
    let x : Says = record { meaning = g.D.HasMeaning.meaning; can_fold = g.D.ConstFoldInterface.can_fold; can_fold_branch = g.D.BranchOpFoldInterface.can_fold_branch; constants = g.D.ConstFoldInterface.constants; feasible = g.D.BranchOpFoldInterface.feasible; entry_operands = g.D.RegionBranchOpInterface.entry_operands } in
    use_passed x c.args.ctx.now.tree c.args.edges.now c.args.tables.now c.args.from.now.value c.args.from.now.op c.args.from.now.place c.args.scheduled.now.users.keys c.args.scheduled.now.constraints.items (λ l. true≢false (sym (c.is_visited.ensures.1 l) ∙ c.if-not-is_visited.true))

pub constrain_argument-requires-clause-edge : goal.constrain_argument-requires-clause-edge
constrain_argument-requires-clause-edge g c =
    let x : Says = record { meaning = g.D.HasMeaning.meaning; can_fold = g.D.ConstFoldInterface.can_fold; can_fold_branch = g.D.BranchOpFoldInterface.can_fold_branch; constants = g.D.ConstFoldInterface.constants; feasible = g.D.BranchOpFoldInterface.feasible; entry_operands = g.D.RegionBranchOpInterface.entry_operands } in
    let call = subst (IsReactionTo x c.args.ctx.now.tree c.args.from.now.op c.args.from.now.place) c.in-Ask.is c.reaction_to.ensures in
    call.1.edge
