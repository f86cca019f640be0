use Rattle.std.proofs.Common.{◌≡◌, ◌+◌, [], length, get_or, set, ap, sym, ◌∙◌, arith}
use Rattle.std.specs.List.{slice_get, remove}
use Rattle.pliron_core.specs.UseSlots.{targets_held, targets_in}
use Rattle.pliron_core.specs.Holes.{gap_of}
use Rattle.pliron_core.proofs.GapLemmas.{held-length}
use Rattle.pliron_core.proofs.HoleLemmas.{has-gap}
use Rattle.pliron_core.proofs.LeaveLemmas.{behind-gap, behind-rank, widened}
use Rattle.pliron_core.proofs.use_slots.widen_gap.Goals as goal

pub overflow_add-start : goal.overflow_add-start
overflow_add-start c =
    let r = c.requires in
    let g = c.gap_at-start.ensures in
    let has = has-gap c.args.places.now.items c.args.holes.now.items c.args.user r.linked.holes r.gapped in
    let long : length (targets_held (get_or c.args.places.now.items c.args.user [])) + (gap_of c.args.holes.now.items c.args.user).len ≡ length (get_or c.args.places.now.items c.args.user []) = held-length _ _ has in
    omega (arith, has.fits, g.few, ap (λ z. z.start) g.gap, ap (λ z. z.len) g.gap)

pub vacate-target-requires-clause-taken : goal.vacate-target-requires-clause-taken
vacate-target-requires-clause-taken c =
    let r = c.requires in
    behind-gap c.args.places.now.items c.args.holes.now.items c.args.user c.gap_at-start.result c.gap_at-start.ensures.gap r.linked.holes r.gapped r.start

pub overflow_add-len : goal.overflow_add-len
overflow_add-len c =
    let r = c.requires in
    let g = c.gap_at-start.ensures in
    let has = has-gap c.args.places.now.items c.args.holes.now.items c.args.user r.linked.holes r.gapped in
    let long : length (targets_held (get_or c.args.places.now.items c.args.user [])) + (gap_of c.args.holes.now.items c.args.user).len ≡ length (get_or c.args.places.now.items c.args.user []) = held-length _ _ has in
    omega (arith, has.fits, g.few, r.start, long, ap (λ z. z.len) g.gap)

pub returns-clause-linked : goal.returns-clause-linked
returns-clause-linked c =
    let r = c.requires in
    record { linked = c.vacate-target.ensures.linked; holes = widened c.args.places.now.items _ c.args.holes.now.items c.args.user c.gap_at-start.result c.gap_at-start.ensures.gap r.linked.holes r.user r.gapped r.start c.vacate-target.ensures.marks }

pub returns-clause-target : goal.returns-clause-target
returns-clause-target c =
    let r = c.requires in
    let rank = behind-rank c.args.places.now.items c.args.holes.now.items c.args.user c.gap_at-start.result c.gap_at-start.ensures.gap r.linked.holes r.gapped r.start in
    ap (slice_get (targets_held (get_or c.args.places.now.items c.args.user []))) (sym rank) ∙ c.vacate-target.ensures.target

pub returns-clause-targets : goal.returns-clause-targets
returns-clause-targets c =
    let r = c.requires in
    let rank = behind-rank c.args.places.now.items c.args.holes.now.items c.args.user c.gap_at-start.result c.gap_at-start.ensures.gap r.linked.holes r.gapped r.start in
    c.vacate-target.ensures.targets ∙ ap (λ n. set (targets_in c.args.places.now.items) c.args.user (remove (get_or (targets_in c.args.places.now.items) c.args.user []) n)) rank
