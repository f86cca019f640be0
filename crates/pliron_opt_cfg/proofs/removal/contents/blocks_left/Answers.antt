use Rattle.std.proofs.Common.{◌≡◌, ◌≤◌, ◌++◌, ◌+◌, ◌∷◌, ◌&&◌, [], true, false, nat_eq, length, take, sym, ap, ◌∙◌, subst, arith}
use Rattle.std.specs.List.{list_any}
use Rattle.std.proofs.lemmas.List.{take_more, take_all}
use Rattle.pliron_core.specs.Tree.{IsDistinct, layout_of}
use Rattle.pliron_opt_cfg.proofs.Tested.{tested_in, not_tested}
use Rattle.pliron_opt_cfg.proofs.CheckLemmas.{AreLeft, one_reached, one_left, fresh_at}
use Rattle.pliron_opt_cfg.proofs.removal.contents.blocks_left.Goals as goal
use Rattle.pliron_opt_cfg.proofs.removal.contents.blocks_left.Goals.{then-not-contains+in_ok-push, else-not-contains}

pub loop-block-preserved : goal.loop-block-preserved
loop-block-preserved c =
    let all = c.deref-block-items.result.now in
    let i = c.loop-block.block-index in
    let x = c.block-item.result in
    let keys = c.args.reached.now.keys in
    let t = c.args.ctx.now.tree in
    let same : all ≡ layout_of t c.args.region = c.deref-block-items.ensures.value ∙ c.in_ok-push_layout.ensures ∙ ap (λ z. z ++ layout_of t c.args.region) c.new-all.ensures.items in
    let d : IsDistinct all = subst IsDistinct (sym same) (c.well_formed-2.ensures.tree.layouts.distinct c.args.region) in
    let more : take (i + 1) all ≡ take i all ++ x ∷ [] = take_more all i x c.loop-block-test.true ∙ ap (λ z. take i all ++ z ∷ []) (sym c.block-item.is) in
    let fresh = fresh_at all i x d c.loop-block-test.true c.block-item.is in
    elim c.if-not-contains.branch [
      | then-not-contains+in_ok-push v ↦
          let out : list_any (λ y. nat_eq x y && true) keys ≡ false = sym v.if-not-contains.ensures in
          rw (more, v.left-is, v.in_ok-push.ensures.items) (one_left (take i all) keys c.loop-block.left.items x fresh c.loop-block.invariant (not_tested keys x out))
      | else-not-contains v ↦
          let yes : list_any (λ y. nat_eq x y && true) keys ≡ true = sym v.if-not-contains.ensures in
          rw (more, v.left-is) (one_reached (take i all) keys c.loop-block.left.items x fresh c.loop-block.invariant (tested_in keys x yes))
    ]

pub returns-clause-members : goal.returns-clause-members
returns-clause-members c =
    let t = c.args.ctx.now.tree in
    let all = c.deref-block-items.result.now in
    let same : all ≡ layout_of t c.args.region = c.deref-block-items.ensures.value ∙ c.in_ok-push_layout.ensures ∙ ap (λ z. z ++ layout_of t c.args.region) c.new-all.ensures.items in
    let whole : length all ≤ c.loop-block.block-index = omega (arith, c.loop-block-test.false) in
    (subst (λ z. AreLeft z c.args.reached.now.keys c.loop-block.left.items) (take_all c.loop-block.block-index all whole ∙ same) c.loop-block.invariant).members
