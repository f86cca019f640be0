use Rattle.std.proofs.Common.{◌≡◌, ◌<◌, ◌++◌, length, Some, inl, inr, refl, sym, subst, ◌∙◌}
use Rattle.pliron_core.proofs.HoldingLemmas.{some_is}
use Rattle.pliron_core.specs.Walks.{preorder}
use Rattle.pliron_core.specs.WalkSteps.{rest_from}
use Rattle.pliron_core.proofs.WalkStepLemmas.{next_inside}
use Rattle.pliron_laws.proofs.EdgeLastLemmas.{walk_smaller}
use Rattle.pliron_laws.proofs.CopiedLists.{copied_first, copied_all, contents_next}
use Rattle.pliron_opt_symbols.proofs.within.push_within.Goals as goal

pub loop-at-init : goal.loop-at-init
loop-at-init c = record {
  within = λ k e. inl (sym (some_is e));
  split = copied_first (preorder c.args.ctx.now.tree c.args.root) c.args.ops.now.items (Some c.args.root) refl;
}

pub loop-at-smaller : goal.loop-at-smaller
loop-at-smaller c =
    let t = c.args.ctx.now.tree in
    let within = c.loop-at.invariant.within c.in-Some.op c.in-Some.is in
    subst (λ o. length (rest_from c.next_in_preorder-at.result (preorder t c.args.root)) < length (rest_from o (preorder t c.args.root))) (sym c.in-Some.is)
    (walk_smaller t c.well_formed-2.ensures.tree c.args.root c.in-Some.op c.next_in_preorder-at.result within c.next_in_preorder-at.ensures.next)

pub loop-at-preserved : goal.loop-at-preserved
loop-at-preserved c =
    let t = c.args.ctx.now.tree in
    let w = c.well_formed-2.ensures.tree in
    let within = c.loop-at.invariant.within c.in-Some.op c.in-Some.is in
    record {
      within = λ k e. inr (next_inside t w c.args.root c.in-Some.op k (sym c.next_in_preorder-at.ensures.next ∙ e));
      split = contents_next t w c.args.root c.args.ops.now.items c.loop-at.ops.items c.push.new.self.items c.in-Some.op c.next_in_preorder-at.result within c.next_in_preorder-at.ensures.next
          (subst (λ o. c.loop-at.ops.items ++ rest_from o (preorder t c.args.root) ≡ c.args.ops.now.items ++ preorder t c.args.root) c.in-Some.is c.loop-at.invariant.split) c.in_ok-push.ensures.items;
    }

pub returns-clause-items : goal.returns-clause-items
returns-clause-items c = copied_all (preorder c.args.ctx.now.tree c.args.root) c.args.ops.now.items c.loop-at.ops.items c.loop-at.at c.in_default.is c.loop-at.invariant.split
