use Rattle.std.proofs.Common.{◌≡◌, ◌≤◌, ◌<◌, ◌∙◌, ◌∷◌, [], ℕ, Bool, true, false, true≢false, Some, None, take, length, sym, ap, subst, inl, inr, ⊎_elim, refl, arith, IsTrue}
use Rattle.std.proofs.lemmas.List.{take_all}
use Rattle.pliron_core.specs.Reads.{has_ssa}
use Rattle.pliron_core.specs.Tree.{In, first_of, layout_of, body_of, block_parent_of, regions_of}
use Rattle.pliron_core.proofs.ListLemmas.{In-cases}
use Rattle.pliron_graph_order.specs.Numbering.{tables_of, IsDone}
use Rattle.pliron_graph_order.specs.Seen.{IsVisitedBlockFromIf, IsOnPathIn}
use Rattle.pliron_graph_order.proofs.NumberLemmas.{waiting_on, regions_kept, grows_both, take_item, item_here, not_true}
use Rattle.pliron_graph_order.proofs.SeenLemmas.{looked_in}
use Rattle.pliron_graph_order.proofs.StepLemmas.{head_waits, head_done, no_head}
use Rattle.pliron_graph_order.proofs.walk.add_head.Goals as goal

pub add_regions-requires-clause-live : goal.add_regions-requires-clause-live
add_regions-requires-clause-live c =
    let t = c.args.ctx.now.tree in
    let same : c.deref-op-items.result.now ≡ body_of t c.in-Some.head = c.deref-op-items.ensures.value ∙ c.in_ok-ops.ensures in
    let here : In c.op-item.result (body_of t c.in-Some.head) = subst (In c.op-item.result) same (item_here c.deref-op-items.result.now c.loop-op.op-index c.op-item.result c.loop-op-test.true c.op-item.is) in
    (c.well_formed-2.ensures.tree.joined.all_in_place c.op-item.result c.in-Some.head (c.well_formed-2.ensures.tree.bodies.owned c.op-item.result c.in-Some.head here)).0

pub add_regions-requires-clause-waits : goal.add_regions-requires-clause-waits
add_regions-requires-clause-waits c =
    let t = c.args.ctx.now.tree in
    let w = c.well_formed-2.ensures.tree in
    let same : c.deref-op-items.result.now ≡ body_of t c.in-Some.head = c.deref-op-items.ensures.value ∙ c.in_ok-ops.ensures in
    let here : In c.op-item.result (body_of t c.in-Some.head) = subst (In c.op-item.result) same (item_here c.deref-op-items.result.now c.loop-op.op-index c.op-item.result c.loop-op-test.true c.op-item.is) in
    let at : first_of (layout_of t c.args.region) None ≡ Some c.in-Some.head = sym c.get_head.ensures.first ∙ c.in-Some.is in
    let other : has_ssa t c.args.region ≡ false = not_true (has_ssa t c.args.region) c.requires.other in
    let was_visited : IsVisitedBlockFromIf (has_ssa t c.args.region) t c.args.region c.in-Some.head = subst (λ z. IsVisitedBlockFromIf z t c.args.region c.in-Some.head) (sym other) at in
    let waits = waiting_on t (tables_of c.args.numbering.now) (tables_of c.loop-op.numbering) c.loop-op.invariant.grows c.requires.numbered.counted c.requires.numbered.parents c.args.region c.args.above c.requires.waiting in
    head_waits t w (tables_of c.loop-op.numbering) c.args.region c.in-Some.head c.args.above waits c.requires.other (looked_in t w c.args.region c.in-Some.head was_visited) was_visited c.op-item.result here

pub loop-op-preserved : goal.loop-op-preserved
loop-op-preserved c =
    let old = tables_of c.loop-op.numbering in
    let new = tables_of c.add_regions.new.numbering in
    let grows = c.in_ok-add_regions.ensures.grows in
    record {
      numbered = c.in_ok-add_regions.ensures.numbered;
      grows = grows_both (tables_of c.args.numbering.now) old new c.loop-op.invariant.grows grows;
      all = λ k q i j. ⊎_elim
          (λ y. regions_kept old new grows q (c.loop-op.invariant.all k q y j))
          (λ y. ⊎_elim (λ e. c.in_ok-add_regions.ensures.all q (subst (λ z. In q (regions_of c.args.ctx.now.tree z)) e j)) (λ z. absurd z) y)
          (In-cases k (take c.loop-op.op-index c.deref-op-items.result.now) (c.op-item.result ∷ []) (subst (In k) (take_item c.deref-op-items.result.now c.loop-op.op-index c.op-item.result c.loop-op-test.true c.op-item.is) i));
    }

pub returns-clause-done : goal.returns-clause-done
returns-clause-done c =
    let t = c.args.ctx.now.tree in
    let same : c.deref-op-items.result.now ≡ body_of t c.in-Some.head = c.deref-op-items.ensures.value ∙ c.in_ok-ops.ensures in
    let at : first_of (layout_of t c.args.region) None ≡ Some c.in-Some.head = sym c.get_head.ensures.first ∙ c.in-Some.is in
    let all : length c.deref-op-items.result.now ≤ c.loop-op.op-index = omega (arith, c.loop-op-test.false) in
    head_done t c.well_formed-2.ensures.tree (tables_of c.loop-op.numbering) c.args.region c.in-Some.head c.requires.other at
    (λ k q i j. c.loop-op.invariant.all k q (subst (In k) (sym (take_all c.loop-op.op-index c.deref-op-items.result.now all ∙ same)) i) j)

pub returns-in_default-clause-done : goal.returns-in_default-clause-done
returns-in_default-clause-done c =
    let t = c.args.ctx.now.tree in
    no_head t (tables_of c.args.numbering.now) c.args.region c.requires.other (sym c.get_head.ensures.first ∙ c.in_default.is)
