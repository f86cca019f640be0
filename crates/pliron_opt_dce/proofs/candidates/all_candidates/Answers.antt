use Rattle.std.proofs.Common.{◌<◌, length, Some, sym, subst, inr, ◌∙◌}
use Rattle.pliron_core.specs.Walks.{preorder}
use Rattle.pliron_core.specs.WalkSteps.{rest_from}
use Rattle.pliron_core.proofs.WalkLemmas.{within_live, In-preorder}
use Rattle.pliron_core.proofs.WalkStepLemmas.{next_inside}
use Rattle.pliron_laws.proofs.PassedLemmas.{ArePassed, passed_all}
use Rattle.pliron_laws.proofs.EdgeLastLemmas.{walk_smaller, walk_passed}
use Rattle.pliron_opt_dce.specs.Worklist.{items_of, IsCovered}
use Rattle.pliron_opt_dce.proofs.CandidateLemmas.{passed_weaker, covered_more, covers_all}
use Rattle.pliron_opt_dce.proofs.candidates.all_candidates.Goals as goal

pub push_operation-requires : goal.push_operation-requires
push_operation-requires c = within_live c.args.ctx.now.tree c.well_formed-2.ensures.tree c.args.root c.in-Some.op c.requires (c.loop-at.invariant.within c.in-Some.op c.in-Some.is)

pub loop-at-smaller : goal.loop-at-smaller
loop-at-smaller c =
    let t = c.args.ctx.now.tree in
    let within = c.loop-at.invariant.within c.in-Some.op c.in-Some.is in
    subst (λ o. length (rest_from c.next_in_preorder-at.result (preorder t c.args.root)) < length (rest_from o (preorder t c.args.root))) (sym c.in-Some.is)
    (walk_smaller t c.well_formed-2.ensures.tree c.args.root c.in-Some.op c.next_in_preorder-at.result within c.next_in_preorder-at.ensures.next)

pub loop-at-preserved : goal.loop-at-preserved
loop-at-preserved c =
    let t = c.args.ctx.now.tree in
    let w = c.well_formed-2.ensures.tree in
    let within = c.loop-at.invariant.within c.in-Some.op c.in-Some.is in
    let adds = c.in_ok-push_operation.ensures in
    let before = subst (ArePassed (λ k. IsCovered t c.args.root (items_of c.loop-at.worklist.items) k) (preorder t c.args.root)) c.in-Some.is c.loop-at.invariant.passed in
    let more = passed_weaker (λ k. IsCovered t c.args.root (items_of c.loop-at.worklist.items) k) (λ k. IsCovered t c.args.root (items_of c.push_operation.new.worklist.items) k) (preorder t c.args.root) (Some c.in-Some.op) (λ k h. covered_more t c.args.root k _ _ adds.kept h) before in
    record {
      within = λ k e. inr (next_inside t w c.args.root c.in-Some.op k (sym c.next_in_preorder-at.ensures.next ∙ e));
      passed = walk_passed t w (λ k. IsCovered t c.args.root (items_of c.push_operation.new.worklist.items) k) c.args.root c.in-Some.op c.next_in_preorder-at.result within c.next_in_preorder-at.ensures.next adds.covered more;
    }

pub returns : goal.returns
returns c =
    let t = c.args.ctx.now.tree in
    let w = c.well_formed-2.ensures.tree in
    let all = subst (ArePassed (λ k. IsCovered t c.args.root (items_of c.loop-at.worklist.items) k) (preorder t c.args.root)) c.in_default.is c.loop-at.invariant.passed in
    covers_all t w c.args.root (items_of c.loop-at.worklist.items) (λ k within. passed_all (λ k. IsCovered t c.args.root (items_of c.loop-at.worklist.items) k) (preorder t c.args.root) all k ((In-preorder t w c.args.root k).1 within))
