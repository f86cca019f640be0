use Rattle.std.proofs.Common.{◌≡◌, ◌++◌, ◌∷◌, [], ◌+◌, ◌∙◌, take, length, ◌≤◌, arith, ap, sym, subst}
use Rattle.std.proofs.lemmas.List.{take_more, take_all}
use Rattle.pliron_laws.proofs.AnswerLemmas.{refuted}
use Rattle.pliron_opt_dce.specs.Worklist.{KeepsReady}
use Rattle.pliron_opt_dce.proofs.WorkLemmas.{keeps_ready_past, keeps_ready_more}
use Rattle.pliron_opt_dce.proofs.worklist.push_ready.Goals as goal
use Rattle.pliron_opt_dce.proofs.worklist.push_ready.Goals.{then-is_ready+in_ok-push, else-is_ready}

pub loop-candidate-init : goal.loop-candidate-init
loop-candidate-init g c = λ x r i. i

pub loop-candidate-preserved : goal.loop-candidate-preserved
loop-candidate-preserved g c =
    let t = c.args.ctx.now.tree in
    let before = c.args.round.now.items in
    let seen = take c.loop-candidate.candidate-index c.args.candidates.now in
    let x = c.candidate-item.result in
    let one : take (c.loop-candidate.candidate-index + 1) c.args.candidates.now ≡ seen ++ x ∷ [] = take_more c.args.candidates.now c.loop-candidate.candidate-index x c.loop-candidate-test.true ∙ ap (λ z. seen ++ z ∷ []) (sym c.candidate-item.is) in
    subst (λ z. KeepsReady g.D.HasMeaning.meaning g.D.SideEffects.side_effects g.D.BlockArgRemoval.removable t c.args.root (z ++ before) c.if-is_ready.round.items) (sym one) (elim c.if-is_ready.branch [
      | then-is_ready+in_ok-push w ↦ subst (λ z. KeepsReady g.D.HasMeaning.meaning g.D.SideEffects.side_effects g.D.BlockArgRemoval.removable t c.args.root ((seen ++ x ∷ []) ++ before) z) (sym (ap (λ z. z.items) w.round-is ∙ w.in_ok-push.ensures.items)) (keeps_ready_more g.D.HasMeaning.meaning g.D.SideEffects.side_effects g.D.BlockArgRemoval.removable t c.args.root seen before c.loop-candidate.round.items x c.loop-candidate.invariant)
      | else-is_ready w ↦ subst (λ z. KeepsReady g.D.HasMeaning.meaning g.D.SideEffects.side_effects g.D.BlockArgRemoval.removable t c.args.root ((seen ++ x ∷ []) ++ before) z) (sym (ap (λ z. z.items) w.round-is)) (keeps_ready_past g.D.HasMeaning.meaning g.D.SideEffects.side_effects g.D.BlockArgRemoval.removable t c.args.root seen before c.loop-candidate.round.items x (λ r. refuted c.is_ready.result w.if-is_ready.false (c.is_ready.ensures.1 r)) c.loop-candidate.invariant)
    ])

pub returns : goal.returns
returns g c =
    let all : length c.args.candidates.now ≤ c.loop-candidate.candidate-index = omega (arith, c.loop-candidate-test.false) in
    subst (λ z. KeepsReady g.D.HasMeaning.meaning g.D.SideEffects.side_effects g.D.BlockArgRemoval.removable c.args.ctx.now.tree c.args.root (z ++ c.args.round.now.items) c.loop-candidate.round.items) (take_all c.loop-candidate.candidate-index c.args.candidates.now all) c.loop-candidate.invariant
