use Rattle.std.proofs.Common.{rules, ◌≡◌, ◌++◌, ◌∷◌, []}
use Rattle.pliron_laws.proofs.AnswerLemmas.{refuted}
use Rattle.pliron_opt_dce.proofs.WorkLemmas.{keeps_ready_still}
use Rattle.pliron_opt_dce.proofs.worklist.next_in_round.Goals as goal

pub loop-next-preserved : goal.loop-next-preserved
loop-next-preserved g c =
    let e : c.loop-next.round.items ≡ c.pop.new.self.items ++ c.in-Some.next ∷ [] = search (rules, c.in-Some.ensures) in
    keeps_ready_still g.D.HasMeaning.meaning g.D.SideEffects.side_effects g.D.BlockArgRemoval.removable c.args.ctx.now.tree c.args.root c.args.round.now.items c.loop-next.round.items c.pop.new.self.items c.in-Some.next e (λ r. refuted c.is_ready.result c.if-is_ready.false (c.is_ready.ensures.1 r)) c.loop-next.invariant
