use Rattle.std.proofs.Common.{◌≡◌, ap, arith}
use Rattle.pliron_core.specs.Holes.{gap_of}
use Rattle.pliron_core.proofs.InsertLemmas.{made-gap}
use Rattle.pliron_core.proofs.use_slots.make_gap.Goals as goal

pub returns-clause-linked : goal.returns-clause-linked
returns-clause-linked c =
    let r = c.requires in
    let none : (gap_of c.args.holes.now.items c.args.user).len ≡ 0 = omega (arith, ap (λ z. z.len) c.gap_at.ensures.gap, c.if-gap_at-gt0.false) in
    (made-gap c.args.places.now.items c.args.holes.now.items c.args.uses.now.items c.args.user r.linked r.user r.gapped none _ _ _ _ c.index.ensures c.count-start.ensures c.index_mut.ensures.value c.in_ok-push.ensures.ok).0

pub returns-clause-targets : goal.returns-clause-targets
returns-clause-targets c =
    let r = c.requires in
    let none : (gap_of c.args.holes.now.items c.args.user).len ≡ 0 = omega (arith, ap (λ z. z.len) c.gap_at.ensures.gap, c.if-gap_at-gt0.false) in
    (made-gap c.args.places.now.items c.args.holes.now.items c.args.uses.now.items c.args.user r.linked r.user r.gapped none _ _ _ _ c.index.ensures c.count-start.ensures c.index_mut.ensures.value c.in_ok-push.ensures.ok).1

pub returns-clause-uses : goal.returns-clause-uses
returns-clause-uses c =
    let r = c.requires in
    let none : (gap_of c.args.holes.now.items c.args.user).len ≡ 0 = omega (arith, ap (λ z. z.len) c.gap_at.ensures.gap, c.if-gap_at-gt0.false) in
    (made-gap c.args.places.now.items c.args.holes.now.items c.args.uses.now.items c.args.user r.linked r.user r.gapped none _ _ _ _ c.index.ensures c.count-start.ensures c.index_mut.ensures.value c.in_ok-push.ensures.ok).2
