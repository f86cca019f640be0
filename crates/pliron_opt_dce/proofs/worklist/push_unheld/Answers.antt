use Rattle.std.proofs.Common.{rules, ◌≡◌, ◌++◌, ◌∷◌, [], ◌+◌, ◌≤◌, ◌∙◌, take, map, length, arith, ap, sym, subst}
use Rattle.std.proofs.lemmas.List.{take_more, take_all, map-append}
use Rattle.pliron_opt_dce.specs.declared.worklist.DeadCandidate.TheVariants.{Operation}
use Rattle.pliron_opt_dce.specs.Worklist.{KeepsReady}
use Rattle.pliron_opt_dce.proofs.ReadyTests.{ready_unheld}
use Rattle.pliron_opt_dce.proofs.WorkLemmas.{keeps_ready_past, keeps_ready_more}
use Rattle.pliron_opt_dce.proofs.Reaches.{held_told}
use Rattle.pliron_opt_dce.proofs.worklist.push_unheld.Goals as goal
use Rattle.pliron_opt_dce.proofs.worklist.push_unheld.Goals.{then-is_none+in_ok-push, else-is_none}

pub loop-op-init : goal.loop-op-init
loop-op-init g c = record { reach = tt; kept = λ root x r i. i }

pub loop-op-preserved : goal.loop-op-preserved
loop-op-preserved g c =
    let m = g.D.HasMeaning.meaning in
    let effects = g.D.SideEffects.side_effects in
    let removable = g.D.BlockArgRemoval.removable in
    let t = c.args.ctx.now.tree in
    let before = c.args.round.now.items in
    let seen = map (λ k. Operation k) (take c.loop-op.op-index c.args.ops.now) in
    let x = c.op-item.result in
    let one : map (λ k. Operation k) (take (c.loop-op.op-index + 1) c.args.ops.now) ≡ seen ++ Operation x ∷ [] = ap (map (λ k. Operation k)) (take_more c.args.ops.now c.loop-op.op-index x c.loop-op-test.true ∙ ap (λ z. take c.loop-op.op-index c.args.ops.now ++ z ∷ []) (sym c.op-item.is)) ∙ map-append (λ k. Operation k) (take c.loop-op.op-index c.args.ops.now) (x ∷ []) in
    record {
      reach = search rules;
      kept = λ root. subst (λ z. KeepsReady m effects removable t root (z ++ before) c.if-is_none.round.items) (sym one) (elim c.if-is_none.branch [
        | then-is_none+in_ok-push w ↦ subst (λ z. KeepsReady m effects removable t root ((seen ++ Operation x ∷ []) ++ before) z) (sym (ap (λ z. z.items) w.round-is ∙ w.in_ok-push.ensures.items)) (keeps_ready_more m effects removable t root seen before c.loop-op.round.items (Operation x) (c.loop-op.invariant.kept root))
        | else-is_none w ↦ subst (λ z. KeepsReady m effects removable t root ((seen ++ Operation x ∷ []) ++ before) z) (sym (ap (λ z. z.items) w.round-is)) (keeps_ready_past m effects removable t root seen before c.loop-op.round.items (Operation x) (λ r. ready_unheld m effects t root x r (held_told t x c.reach_from-held.result c.reach_from-held.ensures (λ e. grind (arith, w.if-is_none.false, c.is_none.ensures, e)))) (c.loop-op.invariant.kept root))
      ]);
    }

pub returns : goal.returns
returns g c root =
    let all : length c.args.ops.now ≤ c.loop-op.op-index = omega (arith, c.loop-op-test.false) in
    subst (λ z. KeepsReady g.D.HasMeaning.meaning g.D.SideEffects.side_effects g.D.BlockArgRemoval.removable c.args.ctx.now.tree root (map (λ k. Operation k) z ++ c.args.round.now.items) c.loop-op.round.items) (take_all c.loop-op.op-index c.args.ops.now all) (c.loop-op.invariant.kept root)
