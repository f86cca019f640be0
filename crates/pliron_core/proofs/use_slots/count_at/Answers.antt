use Rattle.std.proofs.Common.{◌≡◌, ◌<◌, ◌+◌, [], length, get_or, ap, sym, ◌∙◌, arith}
use Rattle.std.specs.List.{sum}
use Rattle.std.proofs.lemmas.List.{get_or_default}
use Rattle.pliron_core.specs.UseSlots.{targets_held, marks, HasGap}
use Rattle.pliron_core.proofs.GapLemmas.{held-length}
use Rattle.pliron_core.proofs.CountLemmas.{held-marks}
use Rattle.pliron_core.proofs.HoleLemmas.{hole-read}
use Rattle.pliron_core.proofs.use_slots.count_at.Goals as goal

pub overflow_sub-result : goal.overflow_sub-result
overflow_sub-result c =
    let r = c.requires in
    let has : HasGap (get_or c.args.places.now.items c.args.user []) c.in-OneGap.gap = hole-read _ _ _ _ _ c.index.ensures c.in-OneGap.is r.user r.holes in
    let long : length (targets_held (get_or c.args.places.now.items c.args.user [])) + c.in-OneGap.gap.len ≡ length (get_or c.args.places.now.items c.args.user []) = held-length _ _ has in
    let within : c.args.user < length c.args.places.now.items = omega (arith, r.user, r.holes.count) in
    let row : c.index-in-OneGap.result.now ≡ get_or c.args.places.now.items c.args.user [] = c.index-in-OneGap.ensures ∙ get_or_default _ _ _ _ within in
    omega (arith, long, c.len.ensures, ap length row)

pub returns-in-OneGap : goal.returns-in-OneGap
returns-in-OneGap c =
    let r = c.requires in
    let has : HasGap (get_or c.args.places.now.items c.args.user []) c.in-OneGap.gap = hole-read _ _ _ _ _ c.index.ensures c.in-OneGap.is r.user r.holes in
    let long : length (targets_held (get_or c.args.places.now.items c.args.user [])) + c.in-OneGap.gap.len ≡ length (get_or c.args.places.now.items c.args.user []) = held-length _ _ has in
    let within : c.args.user < length c.args.places.now.items = omega (arith, r.user, r.holes.count) in
    let row : c.index-in-OneGap.result.now ≡ get_or c.args.places.now.items c.args.user [] = c.index-in-OneGap.ensures ∙ get_or_default _ _ _ _ within in
    omega (arith, long, c.len.ensures, ap length row)

pub returns-in-Counted : goal.returns-in-Counted
returns-in-Counted c =
    let r = c.requires in
    let marked : marks (get_or c.args.places.now.items c.args.user []) ≡ c.in-Counted.counts.value = hole-read _ _ _ _ _ c.index.ensures c.in-Counted.is r.user r.holes in
    c.total.ensures ∙ ap sum (c.deref.ensures ∙ sym marked) ∙ sym (held-marks (get_or c.args.places.now.items c.args.user []))
