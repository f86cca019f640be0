use Rattle.std.proofs.Common.{◌<◌, length, sym, subst, inr, ◌∙◌}
use Rattle.pliron_core.specs.Walks.{preorder}
use Rattle.pliron_core.specs.WalkSteps.{rest_from}
use Rattle.pliron_core.proofs.WalkLemmas.{within_live, In-preorder}
use Rattle.pliron_core.proofs.WalkStepLemmas.{next_inside}
use Rattle.pliron_laws.specs.Linked.{IsAdmitted}
use Rattle.pliron_laws.proofs.AnswerLemmas.{yes, no, refuted}
use Rattle.pliron_laws.proofs.PassedLemmas.{ArePassed, passed_all}
use Rattle.pliron_laws.proofs.EdgeLastLemmas.{walk_smaller, walk_passed}
use Rattle.pliron_laws.specs.Linked.{AllAdmitted}
use Rattle.pliron_laws.proofs.linked.all_admitted.Goals as goal

pub is_admitted-requires : goal.is_admitted-requires
is_admitted-requires g c = within_live c.args.ctx.now.tree c.well_formed-2.ensures.tree c.args.root c.in-Some.op c.requires (c.loop-at.invariant.within c.in-Some.op c.in-Some.is)

pub returns-then-not-is_admitted : goal.returns-then-not-is_admitted
returns-then-not-is_admitted g c =
    let t = c.args.ctx.now.tree in
    let within = c.loop-at.invariant.within c.in-Some.op c.in-Some.is in
    no (AllAdmitted g.D.HasMeaning.meaning t c.args.root) (λ all. refuted c.is_admitted.result c.if-not-is_admitted.true (c.is_admitted.ensures.1 (all c.in-Some.op within)))

pub loop-at-smaller : goal.loop-at-smaller
loop-at-smaller g c =
    let t = c.args.ctx.now.tree in
    let within = c.loop-at.invariant.within c.in-Some.op c.in-Some.is in
    subst (λ o. length (rest_from c.next_in_preorder-at.result (preorder t c.args.root)) < length (rest_from o (preorder t c.args.root))) (sym c.in-Some.is)
    (walk_smaller t c.well_formed-2.ensures.tree c.args.root c.in-Some.op c.next_in_preorder-at.result within c.next_in_preorder-at.ensures.next)

pub loop-at-preserved : goal.loop-at-preserved
loop-at-preserved g c =
    let t = c.args.ctx.now.tree in
    let w = c.well_formed-2.ensures.tree in
    let within = c.loop-at.invariant.within c.in-Some.op c.in-Some.is in
    let fit = c.is_admitted.ensures.0 c.if-not-is_admitted.false in
    let before = subst (ArePassed (λ k. IsAdmitted g.D.HasMeaning.meaning t k) (preorder t c.args.root)) c.in-Some.is c.loop-at.invariant.passed in
    record {
      within = λ k e. inr (next_inside t w c.args.root c.in-Some.op k (sym c.next_in_preorder-at.ensures.next ∙ e));
      passed = walk_passed t w (λ k. IsAdmitted g.D.HasMeaning.meaning t k) c.args.root c.in-Some.op c.next_in_preorder-at.result within c.next_in_preorder-at.ensures.next fit before;
    }

pub returns : goal.returns
returns g c =
    let t = c.args.ctx.now.tree in
    let w = c.well_formed-2.ensures.tree in
    let all = subst (ArePassed (λ k. IsAdmitted g.D.HasMeaning.meaning t k) (preorder t c.args.root)) c.in_default.is c.loop-at.invariant.passed in
    yes (AllAdmitted g.D.HasMeaning.meaning t c.args.root) (λ k within. passed_all (λ k. IsAdmitted g.D.HasMeaning.meaning t k) (preorder t c.args.root) all k ((In-preorder t w c.args.root k).1 within))
