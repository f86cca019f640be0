use Rattle.std.proofs.Common.{ap, arith}
use Rattle.pliron_core.proofs.HoleLemmas.{has-gap, gapped-some}
use Rattle.pliron_core.proofs.RelocateLemmas.{raise-from, raise-to, raised}
use Rattle.pliron_core.proofs.use_slots.raise_gap.Goals as goal

pub overflow_add-start : goal.overflow_add-start
overflow_add-start c =
    let has = has-gap c.args.places.now.items c.args.holes.now.items c.args.user c.requires.linked.holes (gapped-some c.args.holes.now.items c.args.user c.requires.len) in
    let g = c.gap_at-start.ensures in
    omega (arith, has.fits, g.few, ap (λ z. z.start) g.gap, ap (λ z. z.len) g.gap)

pub overflow_add-start-2 : goal.overflow_add-start-2
overflow_add-start-2 c =
    let has = has-gap c.args.places.now.items c.args.holes.now.items c.args.user c.requires.linked.holes (gapped-some c.args.holes.now.items c.args.user c.requires.len) in
    let g = c.gap_at-start.ensures in
    omega (arith, has.fits, g.few, c.requires.len, ap (λ z. z.start) g.gap, ap (λ z. z.len) g.gap)

pub relocate-requires-clause-from : goal.relocate-requires-clause-from
relocate-requires-clause-from c = let r = c.requires in rw c.gap_at-start.ensures.gap (raise-from _ _ _ _ r.linked r.user r.len r.start)

pub relocate-requires-clause-to : goal.relocate-requires-clause-to
relocate-requires-clause-to c = let r = c.requires in rw c.gap_at-start.ensures.gap (raise-to _ _ _ _ r.linked r.user r.len r.start)

pub returns-clause-linked : goal.returns-clause-linked
returns-clause-linked c = let r = c.requires in (raised _ _ _ _ _ _ _ c.gap_at-start.ensures.gap r.linked r.user r.len r.start c.relocate.ensures.moved c.relocate.ensures.linked).0

pub returns-clause-targets : goal.returns-clause-targets
returns-clause-targets c = let r = c.requires in (raised _ _ _ _ _ _ _ c.gap_at-start.ensures.gap r.linked r.user r.len r.start c.relocate.ensures.moved c.relocate.ensures.linked).1
