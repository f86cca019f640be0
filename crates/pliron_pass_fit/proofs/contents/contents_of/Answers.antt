use Rattle.std.proofs.Common.{◌≡◌, ◌<◌, ◌++◌, length, sym, subst, inl, inr, ◌∙◌, append-nil, Some, ap}
use Rattle.pliron_core.proofs.HoldingLemmas.{some_is}
use Rattle.pliron_core.specs.Walks.{preorder}
use Rattle.pliron_core.specs.WalkSteps.{rest_from}
use Rattle.pliron_core.proofs.WalkStepLemmas.{next_inside, walk_start}
use Rattle.pliron_laws.proofs.EdgeLastLemmas.{walk_smaller}
use Rattle.pliron_pass_fit.proofs.ContentsLemmas.{listed_more}
use Rattle.pliron_pass_fit.proofs.contents.contents_of.Goals as goal

pub loop-at-init : goal.loop-at-init
loop-at-init c =
    let t = c.args.ctx.now.tree in
    record {
      within = λ k e. inl (sym (some_is e));
      listed = ap (λ z. z ++ rest_from (Some c.args.root) (preorder t c.args.root)) c.new-contents.ensures.empty ∙ walk_start t c.well_formed-2.ensures.tree c.args.root;
    }

pub loop-at-smaller : goal.loop-at-smaller
loop-at-smaller c =
    let t = c.args.ctx.now.tree in
    let within = c.loop-at.invariant.within c.in-Some.op c.in-Some.is in
    subst (λ o. length (rest_from c.next_in_preorder-at.result (preorder t c.args.root)) < length (rest_from o (preorder t c.args.root))) (sym c.in-Some.is)
    (walk_smaller t c.well_formed-2.ensures.tree c.args.root c.in-Some.op c.next_in_preorder-at.result within c.next_in_preorder-at.ensures.next)

pub loop-at-preserved : goal.loop-at-preserved
loop-at-preserved c =
    let t = c.args.ctx.now.tree in
    let w = c.well_formed-2.ensures.tree in
    let within = c.loop-at.invariant.within c.in-Some.op c.in-Some.is in
    let whole = subst (λ o. c.loop-at.contents.keys ++ rest_from o (preorder t c.args.root) ≡ preorder t c.args.root) c.in-Some.is c.loop-at.invariant.listed in
    record {
      within = λ k e. inr (next_inside t w c.args.root c.in-Some.op k (sym c.next_in_preorder-at.ensures.next ∙ e));
      listed = listed_more t w c.args.root c.loop-at.contents.keys c.insert.new.self.keys c.in-Some.op c.next_in_preorder-at.result within c.next_in_preorder-at.ensures.next whole c.in_ok-insert.ensures.keys;
    }

pub returns-clause-keys : goal.returns-clause-keys
returns-clause-keys c =
    let t = c.args.ctx.now.tree in
    let keys = c.loop-at.contents.keys in
    sym (append-nil keys) ∙ subst (λ o. keys ++ rest_from o (preorder t c.args.root) ≡ preorder t c.args.root) c.in_default.is c.loop-at.invariant.listed
