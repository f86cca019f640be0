use Rattle.std.proofs.Common.{◌≤◌, ◌∙◌, length, arith, sym, subst, slice_get, refl, inr}
use Rattle.std.proofs.lemmas.Option.{slice_get_read, same_Some}
use Rattle.pliron_core.specs.Tree.{In}
use Rattle.pliron_core.proofs.FlatLemmas.{In-slice_get}
use Rattle.pliron_core.proofs.WalkLemmas.{In-contents, within_live}
use Rattle.pliron_pass_fit.specs.Nesting.{IsWay}
use Rattle.pliron_pass_fit.proofs.StepLemmas.{before_item, item_after, held_item}
use Rattle.pliron_pass_fit.proofs.violations.with_undominated.Goals as goal

pub lead_to-requires-clause-live : goal.lead_to-requires-clause-live
lead_to-requires-clause-live g c =
    let t = c.args.ctx.now.tree in
    let w = c.well_formed-2.ensures.tree in
    let root = c.args.root in
    let xs = c.args.inside.now in
    let i = c.loop-op.op-index in
    let op = c.op-item.result in
    let at = slice_get_read xs (length xs) i op refl c.loop-op-test.true c.op-item.is in
    let inside = (In-contents t w root op).0 (subst (In op) c.requires.inside (In-slice_get xs i op at)) in
    within_live t w root op c.requires.live (inr inside)

pub lead_to-requires-clause-held : goal.lead_to-requires-clause-held
lead_to-requires-clause-held g c =
    let t = c.args.ctx.now.tree in
    let w = c.well_formed-2.ensures.tree in
    let root = c.args.root in
    let xs = c.args.inside.now in
    let i = c.loop-op.op-index in
    let op = c.op-item.result in
    let at = slice_get_read xs (length xs) i op refl c.loop-op-test.true c.op-item.is in
    let before = before_item root i xs c.loop-op-test.true in
    held_item t w root xs c.requires.inside i before.0 op c.loop-op.way.keys before.1 at (c.loop-op.invariant.led before.0 before.1)

pub add_undominated-requires-clause-live : goal.add_undominated-requires-clause-live
add_undominated-requires-clause-live g c =
    let t = c.args.ctx.now.tree in
    let w = c.well_formed-2.ensures.tree in
    let root = c.args.root in
    let xs = c.args.inside.now in
    let i = c.loop-op.op-index in
    let op = c.op-item.result in
    let at = slice_get_read xs (length xs) i op refl c.loop-op-test.true c.op-item.is in
    let inside = (In-contents t w root op).0 (subst (In op) c.requires.inside (In-slice_get xs i op at)) in
    within_live t w root op c.requires.live (inr inside)

pub add_undominated-requires-clause-inside : goal.add_undominated-requires-clause-inside
add_undominated-requires-clause-inside g c =
    let t = c.args.ctx.now.tree in
    let w = c.well_formed-2.ensures.tree in
    let xs = c.args.inside.now in
    let i = c.loop-op.op-index in
    let op = c.op-item.result in
    let at = slice_get_read xs (length xs) i op refl c.loop-op-test.true c.op-item.is in
    (In-contents t w c.args.root op).0 (subst (In op) c.requires.inside (In-slice_get xs i op at))

pub add_undominated-requires-clause-way : goal.add_undominated-requires-clause-way
add_undominated-requires-clause-way g c =
    let root = c.args.root in
    let before = before_item root c.loop-op.op-index c.args.inside.now c.loop-op-test.true in
    c.in_ok-lead_to.ensures.led root before.0 (c.loop-op.invariant.led before.0 before.1)

pub loop-op-preserved : goal.loop-op-preserved
loop-op-preserved g c =
    let root = c.args.root in
    let xs = c.args.inside.now in
    let i = c.loop-op.op-index in
    let op = c.op-item.result in
    let at = slice_get_read xs (length xs) i op refl c.loop-op-test.true c.op-item.is in
    let before = before_item root i xs c.loop-op-test.true in
    let way = c.in_ok-lead_to.ensures.led root before.0 (c.loop-op.invariant.led before.0 before.1) in
    record {
      led = λ x e. subst (λ z. IsWay c.args.ctx.now.tree root z c.lead_to.new.way.keys) (same_Some op x (sym at ∙ sym (item_after root i xs) ∙ e)) way;
      gives = c.in_ok-add_undominated.ensures.gives;
      found = c.in_ok-add_undominated.ensures.found;
    }
