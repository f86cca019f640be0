use Rattle.std.proofs.Common.{◌≡◌, ◌<◌, ℕ, List, ◌++◌, length, refl, ap, sym, ◌∙◌, subst, arith}
use Rattle.pliron_core.specs.Tree.{successors_of, layout_of}
use Rattle.pliron_core.proofs.HoldingLemmas.{some_is}
use Rattle.pliron_rewrite_calls.specs.Copying.{operations_of}
use Rattle.pliron_rewrite_calls.proofs.CallReady.{copies_may, bare_blocks, after_is_block, some_blocks, replaceable, it_is_inlined}
use Rattle.pliron_rewrite_calls.proofs.inlining.inline_call.Goals as goal

pub get_successor-after-requires-clause-index : goal.get_successor-after-requires-clause-index
get_successor-after-requires-clause-index g c =
    let may = c.requires.1.1 in
    let same : c.in-Some-get_next.jump ≡ may.prepared.jump = some_is (c.in-Some-get_next.ensures.next ∙ may.prepared.behind) in
    subst (λ k. 0 < length (successors_of c.args.ctx.now.tree k)) (sym same) (subst (λ (xs : List ℕ). 0 < length xs) (sym may.prepared.jumps.leads) (omega arith))

pub get_region-requires-clause-index : goal.get_region-requires-clause-index
get_region-requires-clause-index g c = subst (λ (xs : List ℕ). 0 < length xs) (sym c.requires.1.1.inlinable.runs.holds) (omega arith)

pub copy_and_lead_back-requires : goal.copy_and_lead_back-requires
copy_and_lead_back-requires g c =
    let t = c.args.ctx.now.tree in
    let listed = c.as_slice-2.ensures.value ∙ c.in_ok-push_layout.ensures ∙ ap (λ (xs : List ℕ). xs ++ layout_of t c.get_region.result) c.new-blocks.ensures.items in
    let operations = c.as_slice-3.ensures.value ∙ c.in_ok-push_all_operations.ensures.pushed ∙ ap (λ (xs : List ℕ). xs ++ operations_of t c.as_slice.result.now) c.new-operations.ensures.items ∙ ap (operations_of t) (c.as_slice.ensures.value ∙ sym c.as_slice-2.ensures.value) in
    let may = copies_may g.D.HasMeaning.meaning g.D.InliningDialect.convention g.D.InliningDialect.returns c.args.ctx.now.tree c.args.call c.args.callee g.symbol c.requires.1.1 c.well_formed-2.ensures.tree c.in-Some.block c.in-Some-get_next.jump c.get_successor-after.result c.in-Some-get_parent_region.region c.get_region.result c.as_slice-2.result.now c.in-Some.ensures.block c.in-Some-get_next.ensures.next c.in-Some-get_parent_region.ensures.region c.get_successor-after.ensures.successor c.get_region.ensures.region listed in
    let bare = bare_blocks g.D.HasMeaning.meaning g.D.InliningDialect.convention g.D.InliningDialect.returns c.args.ctx.now.tree c.args.call c.args.callee g.symbol c.requires.1.1 c.well_formed-2.ensures.tree c.in-Some.block c.in-Some-get_next.jump c.get_successor-after.result c.in-Some-get_parent_region.region c.get_region.result c.as_slice-2.result.now c.in-Some.ensures.block c.in-Some-get_next.ensures.next c.in-Some-get_parent_region.ensures.region c.get_successor-after.ensures.successor c.get_region.ensures.region listed in
    let after = after_is_block g.D.HasMeaning.meaning g.D.InliningDialect.convention g.D.InliningDialect.returns c.args.ctx.now.tree c.args.call c.args.callee g.symbol c.requires.1.1 c.well_formed-2.ensures.tree c.in-Some.block c.in-Some-get_next.jump c.get_successor-after.result c.in-Some-get_parent_region.region c.get_region.result c.as_slice-2.result.now c.in-Some.ensures.block c.in-Some-get_next.ensures.next c.in-Some-get_parent_region.ensures.region c.get_successor-after.ensures.successor c.get_region.ensures.region listed in
    let some = some_blocks g.D.HasMeaning.meaning g.D.InliningDialect.convention g.D.InliningDialect.returns c.args.ctx.now.tree c.args.call c.args.callee g.symbol c.requires.1.1 c.well_formed-2.ensures.tree c.in-Some.block c.in-Some-get_next.jump c.get_successor-after.result c.in-Some-get_parent_region.region c.get_region.result c.as_slice-2.result.now c.in-Some.ensures.block c.in-Some-get_next.ensures.next c.in-Some-get_parent_region.ensures.region c.get_successor-after.ensures.successor c.get_region.ensures.region listed in
    let live = c.requires.1.1.calls.live in
    λ κs l. (l.0, (l.1, (may, (refl, (refl, (operations, (refl, (after, (bare, (live, some))))))))))

pub replace_call-requires : goal.replace_call-requires
replace_call-requires g c =
    let t = c.args.ctx.now.tree in
    let listed = c.as_slice-2.ensures.value ∙ c.in_ok-push_layout.ensures ∙ ap (λ (xs : List ℕ). xs ++ layout_of t c.get_region.result) c.new-blocks.ensures.items in
    let led = c.in_ok-new.ensures.led in
    let r = replaceable g.D.HasMeaning.meaning g.D.InliningDialect.convention g.D.InliningDialect.returns c.args.ctx.now.tree c.args.call c.args.callee g.symbol c.requires.1.1 c.well_formed-2.ensures.tree c.in-Some.block c.in-Some-get_next.jump c.get_successor-after.result c.in-Some-get_parent_region.region c.get_region.result c.as_slice-2.result.now c.in-Some.ensures.block c.in-Some-get_next.ensures.next c.in-Some-get_parent_region.ensures.region c.get_successor-after.ensures.successor c.get_region.ensures.region listed led.0 c.in_ok-new.new.jump c.copy_and_lead_back.new.ctx.tree c.well_formed-3.ensures.tree led.2 in
    record { holds = r.holds; behind = r.behind; last = r.last; plain = r.plain; bare = r.bare; used_there = r.used_there; new = r.stands; free = r.free; childless = r.childless }

pub returns-clause-inlined : goal.returns-clause-inlined
returns-clause-inlined g c =
    let t = c.args.ctx.now.tree in
    let listed = c.as_slice-2.ensures.value ∙ c.in_ok-push_layout.ensures ∙ ap (λ (xs : List ℕ). xs ++ layout_of t c.get_region.result) c.new-blocks.ensures.items in
    let led = c.in_ok-new.ensures.led in
    it_is_inlined g.D.HasMeaning.meaning g.D.InliningDialect.convention g.D.InliningDialect.returns c.args.ctx.now.tree c.args.call c.args.callee g.symbol c.requires.1.1 c.well_formed-2.ensures.tree c.in-Some.block c.in-Some-get_next.jump c.get_successor-after.result c.in-Some-get_parent_region.region c.get_region.result c.as_slice-2.result.now c.in-Some.ensures.block c.in-Some-get_next.ensures.next c.in-Some-get_parent_region.ensures.region c.get_successor-after.ensures.successor c.get_region.ensures.region listed led.0 c.in_ok-new.new.jump c.copy_and_lead_back.new.ctx.tree c.well_formed-3.ensures.tree led.2 c.replace_call.new.ctx.tree c.well_formed-4.ensures.tree led.1 c.replace_call.ensures.replaced
