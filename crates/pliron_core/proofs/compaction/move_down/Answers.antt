use Rattle.std.proofs.Common.{◌≡◌, [], length, get_or, ap, ◌∙◌, arith}
use Rattle.std.proofs.lemmas.List.{get_or_default}
use Rattle.pliron_core.proofs.CompactLemmas.{moved-stays, moved-down, moved-free, moved-held, same-targets, same-uses}
use Rattle.pliron_core.proofs.compaction.move_down.Goals.{then-taken-from, else-taken-from}
use Rattle.pliron_core.proofs.compaction.move_down.Goals as goal

pub loop-from-preserved : goal.loop-from-preserved
loop-from-preserved c =
    let i = c.loop-from.invariant in
    elim c.if-taken-from.branch [
      | then-taken-from w ↦
          let r = w.relocate.ensures in
          rw (w.places-is, w.uses-is) (record {
            moved = moved-down _ _ _ _ _ _ _ _ i.moved c.entry.ensures c.if-entry.false w.if-taken-from.true _ _ r.linked r.moved r.count;
            rooms = (r.rooms.0 ∙ i.rooms.0, r.rooms.1 ∙ i.rooms.1, r.rooms.2 ∙ i.rooms.2, r.rooms.3 ∙ i.rooms.3);
          })
      | else-taken-from w ↦ rw (w.places-is, w.uses-is) (record { moved = moved-stays _ _ _ _ _ _ _ _ i.moved c.entry.ensures c.if-entry.false w.if-taken-from.false; rooms = i.rooms })
    ]

pub returns-clause-targets : goal.returns-clause-targets
returns-clause-targets c = same-targets c.args.places.now.items c.loop-from.places.items c.loop-from.invariant.moved.same

pub returns-clause-uses : goal.returns-clause-uses
returns-clause-uses c = let m = c.loop-from.invariant.moved in same-uses c.args.places.now.items c.loop-from.places.items c.args.uses.now.items c.loop-from.uses.items c.requires.linked m.linked m.count m.same

pub returns-clause-free : goal.returns-clause-free
returns-clause-free c =
    let row : c.index.result.now ≡ get_or c.args.places.now.items c.args.user [] = c.index.ensures ∙ get_or_default c.args.places.now.items c.args.user c.index.result.now [] c.requires.user in
    let end : c.loop-from.from ≡ length (get_or c.args.places.now.items c.args.user []) = omega (arith, ap length row) in
    let all = rw end at c.loop-from.invariant.moved in
    moved-free c.args.places.now.items c.loop-from.places.items c.args.uses.now.items c.loop-from.uses.items c.args.user c.loop-from.taken all

pub returns-clause-taken : goal.returns-clause-taken
returns-clause-taken c =
    let row : c.index.result.now ≡ get_or c.args.places.now.items c.args.user [] = c.index.ensures ∙ get_or_default c.args.places.now.items c.args.user c.index.result.now [] c.requires.user in
    let end : c.loop-from.from ≡ length (get_or c.args.places.now.items c.args.user []) = omega (arith, ap length row) in
    let all = rw end at c.loop-from.invariant.moved in
    moved-held c.args.places.now.items c.loop-from.places.items c.args.uses.now.items c.loop-from.uses.items c.args.user c.loop-from.taken all
