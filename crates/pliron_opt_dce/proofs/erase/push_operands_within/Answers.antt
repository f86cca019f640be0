use Rattle.std.proofs.Common.{◌<◌, length, Some, sym, subst, inr, ◌∙◌}
use Rattle.pliron_core.specs.Walks.{preorder}
use Rattle.pliron_core.specs.WalkSteps.{rest_from}
use Rattle.pliron_core.proofs.WalkLemmas.{within_live, In-preorder}
use Rattle.pliron_core.proofs.WalkStepLemmas.{next_inside}
use Rattle.pliron_laws.proofs.PassedLemmas.{ArePassed, passed_all}
use Rattle.pliron_laws.proofs.EdgeLastLemmas.{walk_smaller, walk_passed}
use Rattle.pliron_opt_dce.proofs.TakeLemmas.{HasOperands, passed_more}
use Rattle.pliron_opt_dce.proofs.erase.push_operands_within.Goals as goal

pub push_operands-requires : goal.push_operands-requires
push_operands-requires c = within_live c.args.ctx.now.tree c.well_formed-2.ensures.tree c.args.op c.in-Some.inner c.requires (c.loop-at.invariant.within c.in-Some.inner c.in-Some.is)

pub loop-at-smaller : goal.loop-at-smaller
loop-at-smaller c =
    let t = c.args.ctx.now.tree in
    let within = c.loop-at.invariant.within c.in-Some.inner c.in-Some.is in
    subst (λ o. length (rest_from c.next_in_preorder-at.result (preorder t c.args.op)) < length (rest_from o (preorder t c.args.op))) (sym c.in-Some.is)
    (walk_smaller t c.well_formed-2.ensures.tree c.args.op c.in-Some.inner c.next_in_preorder-at.result within c.next_in_preorder-at.ensures.next)

pub loop-at-preserved : goal.loop-at-preserved
loop-at-preserved c =
    let t = c.args.ctx.now.tree in
    let w = c.well_formed-2.ensures.tree in
    let within = c.loop-at.invariant.within c.in-Some.inner c.in-Some.is in
    let adds = c.in_ok-push_operands.ensures.adds in
    let before = subst (ArePassed (λ k. HasOperands t c.loop-at.values.items k) (preorder t c.args.op)) c.in-Some.is c.loop-at.invariant.passed in
    let more = passed_more t (preorder t c.args.op) (Some c.in-Some.inner) c.loop-at.values.items c.push_operands.new.values.items adds.kept before in
    record {
      within = λ k e. inr (next_inside t w c.args.op c.in-Some.inner k (sym c.next_in_preorder-at.ensures.next ∙ e));
      passed = walk_passed t w (λ k. HasOperands t c.push_operands.new.values.items k) c.args.op c.in-Some.inner c.next_in_preorder-at.result within c.next_in_preorder-at.ensures.next adds.added more;
    }

pub returns : goal.returns
returns c =
    let t = c.args.ctx.now.tree in
    let w = c.well_formed-2.ensures.tree in
    let all = subst (ArePassed (λ k. HasOperands t c.loop-at.values.items k) (preorder t c.args.op)) c.in_default.is c.loop-at.invariant.passed in
    λ user v within i. passed_all (λ k. HasOperands t c.loop-at.values.items k) (preorder t c.args.op) all user ((In-preorder t w c.args.op user).1 within) v i
