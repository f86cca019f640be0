use Rattle.std.proofs.Common.{◌≡◌, ◌≤◌, [], length, get_or, refl, ap, ◌∙◌, arith}
use Rattle.std.proofs.lemmas.List.{get_or_default}
use Rattle.pliron_core.proofs.ClearanceLemmas.{cleared-none, cleared-stays, cleared-more, cleared-all, cleared-free}
use Rattle.pliron_core.proofs.clearance.vacate_all.Goals as goal

pub loop-place-init : goal.loop-place-init
loop-place-init c = record { cleared = cleared-none c.args.places.now.items c.args.uses.now.items c.args.user c.requires.linked; rooms = (refl, refl, refl, refl) }

pub vacate-requires-clause-taken : goal.vacate-requires-clause-taken
vacate-requires-clause-taken c = (c.entry.result, c.entry.ensures, c.if-entry.false)

pub loop-place-preserved-then-entry : goal.loop-place-preserved-then-entry
loop-place-preserved-then-entry c =
    let i = c.loop-place.invariant in
    record { cleared = cleared-stays _ _ _ _ _ _ _ i.cleared c.entry.ensures c.if-entry.true; rooms = i.rooms }

pub loop-place-preserved : goal.loop-place-preserved
loop-place-preserved c =
    let i = c.loop-place.invariant in
    let v = c.vacate.ensures in
    record {
      cleared = cleared-more _ _ _ _ _ _ _ i.cleared c.entry.ensures c.requires.user _ _ v.linked _ v.targets v.marks v.count;
      rooms = (v.rooms.0 ∙ i.rooms.0, v.rooms.1 ∙ i.rooms.1, v.rooms.2 ∙ i.rooms.2, v.rooms.3 ∙ i.rooms.3);
    }

pub returns-clause-targets : goal.returns-clause-targets
returns-clause-targets c =
    let row : c.index.result.now ≡ get_or c.args.places.now.items c.args.user [] = c.index.ensures ∙ get_or_default c.args.places.now.items c.args.user c.index.result.now [] c.requires.user in
    let end : length (get_or c.args.places.now.items c.args.user []) ≤ c.loop-place.place = omega (arith, ap length row) in
    cleared-all _ _ _ _ _ _ c.loop-place.invariant.cleared end

pub returns-clause-free : goal.returns-clause-free
returns-clause-free c =
    let row : c.index.result.now ≡ get_or c.args.places.now.items c.args.user [] = c.index.ensures ∙ get_or_default c.args.places.now.items c.args.user c.index.result.now [] c.requires.user in
    let end : length (get_or c.args.places.now.items c.args.user []) ≤ c.loop-place.place = omega (arith, ap length row) in
    cleared-free _ _ _ _ _ _ c.loop-place.invariant.cleared end
