use Rattle.std.proofs.Common.{◌≤◌, ◌<◌, ◌+◌, length, sym, arith}
use Rattle.std.proofs.lemmas.Option.{slice_get_within}
use Rattle.pliron_core.proofs.GapLemmas.{rank-before, behind-index, behind-taken}
use Rattle.pliron_core.proofs.use_slots.rank_beside.Goals as goal

pub overflow_sub-result : goal.overflow_sub-result
overflow_sub-result c =
    let r = c.requires in
    let b : c.args.gap.start + c.args.gap.len ≤ c.args.place = behind-taken _ _ r.gap _ _ r.taken.1 r.taken.2 c.if-place-gap.false in
    omega (arith, b)

pub returns-then-place-gap : goal.returns-then-place-gap
returns-then-place-gap c = sym (rank-before _ _ c.requires.gap _ (omega (arith, c.if-place-gap.true)))

pub returns-else-place-gap : goal.returns-else-place-gap
returns-else-place-gap c =
    let r = c.requires in
    let b : c.args.gap.start + c.args.gap.len ≤ c.args.place = behind-taken _ _ r.gap _ _ r.taken.1 r.taken.2 c.if-place-gap.false in
    let w : c.args.place < length c.args.row.now = slice_get_within _ _ r.taken.0 r.taken.1 in
    sym (behind-index c.args.row.now c.args.gap r.gap c.args.place b (omega (arith, w)))
