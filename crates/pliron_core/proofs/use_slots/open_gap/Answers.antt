use Rattle.std.proofs.Common.{◌≡◌, ◌+◌, [], length, get_or, ap, arith}
use Rattle.pliron_core.specs.UseSlots.{targets_held}
use Rattle.pliron_core.specs.Holes.{gap_of}
use Rattle.pliron_core.proofs.GapLemmas.{held-length}
use Rattle.pliron_core.proofs.HoleLemmas.{has-gap}
use Rattle.pliron_core.proofs.RelocateLemmas.{empty-gap, held-kept}
use Rattle.pliron_core.proofs.use_slots.open_gap.Goals as goal

pub returns-then-gap_at-eq0-clause-linked : goal.returns-then-gap_at-eq0-clause-linked
returns-then-gap_at-eq0-clause-linked c =
    let none : (gap_of c.args.holes.now.items c.args.user).len ≡ 0 = omega (arith, ap (λ z. z.len) c.gap_at.ensures.gap, c.if-gap_at-eq0.true) in
    empty-gap _ _ _ _ _ c.requires.linked c.requires.user c.requires.gapped none c.requires.index

pub overflow_cast-i : goal.overflow_cast-i
overflow_cast-i c =
    let has = has-gap c.args.places.now.items c.args.holes.now.items c.args.user c.requires.linked.holes c.requires.gapped in
    let long : length (targets_held (get_or c.args.places.now.items c.args.user [])) + (gap_of c.args.holes.now.items c.args.user).len ≡ length (get_or c.args.places.now.items c.args.user []) = held-length _ _ has in
    omega (arith, long, c.requires.index, c.gap_at.ensures.few)

pub raise_gap-requires-clause-start : goal.raise_gap-requires-clause-start
raise_gap-requires-clause-start c =
    let h : length (targets_held (get_or c.loop-places-2.places.items c.args.user [])) ≡ length (targets_held (get_or c.args.places.now.items c.args.user [])) = ap length (held-kept c.args.places.now.items c.loop-places-2.places.items c.args.user c.loop-places-2.invariant.targets) in
    omega (arith, h, c.requires.index, c.loop-places-2-test.true, ap (λ z. z.start) c.gap_at-in-loop-places-2.ensures.gap)
