use Rattle.std.proofs.Common.{◌≡◌, [], ◌∙◌, ap, sym, subst}
use Rattle.pliron_opt_dce.specs.Worklist.{pending_candidates, HasReady, AreClosedUnderNesting}
use Rattle.pliron_opt_dce.proofs.WorkLemmas.{next_of_all, none_of_all, none_waits}
use Rattle.pliron_opt_dce.proofs.worklist.next_ready.Goals as goal

pub returns-in-Some-clause-all : goal.returns-in-Some-clause-all
returns-in-Some-clause-all g c = λ x r. c.in-Some.ensures.kept x r (c.requires.all x r)

pub returns-in-Some-clause-closed : goal.returns-in-Some-clause-closed
returns-in-Some-clause-closed g c = subst (λ z. AreClosedUnderNesting c.args.ctx.now.tree z.ops.items) (sym c.next_of.ensures.around) c.requires.closed

pub returns-in-Some-next_of-clause-all : goal.returns-in-Some-next_of-clause-all
returns-in-Some-next_of-clause-all g c = λ x r. c.in-Some-next_of.ensures.kept x r (c.in_ok-begin_round.ensures.kept x r (c.in_default.ensures.none x r (c.requires.all x r)))

pub returns-in-Some-next_of-clause-closed : goal.returns-in-Some-next_of-clause-closed
returns-in-Some-next_of-clause-closed g c = subst (λ z. AreClosedUnderNesting c.args.ctx.now.tree z) (sym (ap (λ z. z.ops.items) c.next_of-2.ensures.around ∙ c.in_ok-begin_round.ensures.around ∙ ap (λ z. z.ops.items) c.next_of.ensures.around)) c.requires.closed

pub returns-clause-all : goal.returns-clause-all
returns-clause-all g c =
    let all : HasReady g.D.HasMeaning.meaning g.D.SideEffects.side_effects g.D.BlockArgRemoval.removable c.args.ctx.now.tree c.args.root (pending_candidates c.begin_around.new.worklist) = λ x r.
    c.in_ok-begin_around.ensures.kept c.args.root x r (c.in_default-next_of.ensures.none x r (c.in_ok-begin_round.ensures.kept x r (c.in_default.ensures.none x r (c.requires.all x r)))) in
    next_of_all g.D.HasMeaning.meaning g.D.SideEffects.side_effects g.D.BlockArgRemoval.removable c.args.ctx.now.tree c.args.root (pending_candidates c.begin_around.new.worklist) (pending_candidates c.next_of-3.new.worklist) all c.next_of-3.result c.next_of-3.ensures.kept

pub returns-clause-none : goal.returns-clause-none
returns-clause-none g c =
    let all : HasReady g.D.HasMeaning.meaning g.D.SideEffects.side_effects g.D.BlockArgRemoval.removable c.args.ctx.now.tree c.args.root (pending_candidates c.begin_around.new.worklist) = λ x r.
    c.in_ok-begin_around.ensures.kept c.args.root x r (c.in_default-next_of.ensures.none x r (c.in_ok-begin_round.ensures.kept x r (c.in_default.ensures.none x r (c.requires.all x r)))) in
    let around : c.next_of-3.new.worklist.around.ops.items ≡ [] = ap (λ z. z.ops.items) c.next_of-3.ensures.around ∙ c.in_ok-begin_around.ensures.around in
    let later : c.next_of-3.new.worklist.later.items ≡ [] = ap (λ z. z.items) (c.next_of-3.ensures.later ∙ c.in_ok-begin_around.ensures.later ∙ c.next_of-2.ensures.later) ∙ c.in_ok-begin_round.ensures.later in
    none_of_all g.D.HasMeaning.meaning g.D.SideEffects.side_effects g.D.BlockArgRemoval.removable c.args.ctx.now.tree c.args.root (pending_candidates c.begin_around.new.worklist) (pending_candidates c.next_of-3.new.worklist) all c.next_of-3.result c.next_of-3.ensures.none
    (none_waits c.next_of-3.result c.next_of-3.new.worklist around later c.next_of-3.ensures.empty)

pub returns-clause-closed : goal.returns-clause-closed
returns-clause-closed g c = subst (λ z. AreClosedUnderNesting c.args.ctx.now.tree z) (sym (ap (λ z. z.ops.items) c.next_of-3.ensures.around ∙ c.in_ok-begin_around.ensures.around)) (λ k a i l j. absurd i)
