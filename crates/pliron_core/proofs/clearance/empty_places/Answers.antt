use Rattle.std.proofs.Common.{◌≡◌, ◌<◌, [], length, get_or, sym, ap, ◌∙◌, rules, arith}
use Rattle.std.proofs.lemmas.List.{get_or_default, length-map, length-set}
use Rattle.pliron_core.specs.UseSlots.{targets_held, targets_in}
use Rattle.pliron_core.proofs.ClearanceLemmas.{cleared-hole}
use Rattle.pliron_core.proofs.LeaveLemmas.{closed-linked, closed-targets}
use Rattle.pliron_core.proofs.clearance.empty_places.Goals as goal

pub vacate_all-requires-clause-user : goal.vacate_all-requires-clause-user
vacate_all-requires-clause-user c = let r = c.requires in omega (arith, r.user, r.linked.holes.count)

pub index-requires : goal.index-requires
index-requires c =
    let r = c.requires in
    let m = c.vacate_all.ensures in
    let many : length c.vacate_all.new.places.items ≡ length c.args.places.now.items = sym (length-map c.vacate_all.new.places.items targets_held) ∙ ap length m.targets ∙ length-set (targets_in c.args.places.now.items) c.args.user [] ∙ length-map c.args.places.now.items targets_held in
    let there : c.args.user < length c.vacate_all.new.places.items = omega (arith, r.user, r.linked.holes.count, many) in
    search (rules, there)

pub close_gap-requires-clause-holes : goal.close_gap-requires-clause-holes
close_gap-requires-clause-holes c =
    let r = c.requires in
    let m = c.vacate_all.ensures in
    let many : length c.vacate_all.new.places.items ≡ length c.args.places.now.items = sym (length-map c.vacate_all.new.places.items targets_held) ∙ ap length m.targets ∙ length-set (targets_in c.args.places.now.items) c.args.user [] ∙ length-map c.args.places.now.items targets_held in
    let there : c.args.user < length c.vacate_all.new.places.items = omega (arith, r.user, r.linked.holes.count, many) in
    let row : c.index.result.now ≡ get_or c.vacate_all.new.places.items c.args.user [] = c.index.ensures ∙ get_or_default _ _ _ _ there in
    let hole = cleared-hole c.args.places.now.items c.vacate_all.new.places.items c.args.holes.now.items c.args.user c.count-len.result r.user m.targets m.marks (c.count-len.ensures ∙ ap length row) m.free r.linked.holes in
    hole.have

pub close_gap-requires-clause-user : goal.close_gap-requires-clause-user
close_gap-requires-clause-user c =
    let r = c.requires in
    let m = c.vacate_all.ensures in
    let many : length c.vacate_all.new.places.items ≡ length c.args.places.now.items = sym (length-map c.vacate_all.new.places.items targets_held) ∙ ap length m.targets ∙ length-set (targets_in c.args.places.now.items) c.args.user [] ∙ length-map c.args.places.now.items targets_held in
    let there : c.args.user < length c.vacate_all.new.places.items = omega (arith, r.user, r.linked.holes.count, many) in
    let row : c.index.result.now ≡ get_or c.vacate_all.new.places.items c.args.user [] = c.index.ensures ∙ get_or_default _ _ _ _ there in
    let hole = cleared-hole c.args.places.now.items c.vacate_all.new.places.items c.args.holes.now.items c.args.user c.count-len.result r.user m.targets m.marks (c.count-len.ensures ∙ ap length row) m.free r.linked.holes in
    hole.within

pub close_gap-requires-clause-gapped : goal.close_gap-requires-clause-gapped
close_gap-requires-clause-gapped c =
    let r = c.requires in
    let m = c.vacate_all.ensures in
    let many : length c.vacate_all.new.places.items ≡ length c.args.places.now.items = sym (length-map c.vacate_all.new.places.items targets_held) ∙ ap length m.targets ∙ length-set (targets_in c.args.places.now.items) c.args.user [] ∙ length-map c.args.places.now.items targets_held in
    let there : c.args.user < length c.vacate_all.new.places.items = omega (arith, r.user, r.linked.holes.count, many) in
    let row : c.index.result.now ≡ get_or c.vacate_all.new.places.items c.args.user [] = c.index.ensures ∙ get_or_default _ _ _ _ there in
    let hole = cleared-hole c.args.places.now.items c.vacate_all.new.places.items c.args.holes.now.items c.args.user c.count-len.result r.user m.targets m.marks (c.count-len.ensures ∙ ap length row) m.free r.linked.holes in
    hole.gapped

pub close_gap-requires-clause-end : goal.close_gap-requires-clause-end
close_gap-requires-clause-end c =
    let r = c.requires in
    let m = c.vacate_all.ensures in
    let many : length c.vacate_all.new.places.items ≡ length c.args.places.now.items = sym (length-map c.vacate_all.new.places.items targets_held) ∙ ap length m.targets ∙ length-set (targets_in c.args.places.now.items) c.args.user [] ∙ length-map c.args.places.now.items targets_held in
    let there : c.args.user < length c.vacate_all.new.places.items = omega (arith, r.user, r.linked.holes.count, many) in
    let row : c.index.result.now ≡ get_or c.vacate_all.new.places.items c.args.user [] = c.index.ensures ∙ get_or_default _ _ _ _ there in
    let hole = cleared-hole c.args.places.now.items c.vacate_all.new.places.items c.args.holes.now.items c.args.user c.count-len.result r.user m.targets m.marks (c.count-len.ensures ∙ ap length row) m.free r.linked.holes in
    hole.end

pub returns-clause-linked : goal.returns-clause-linked
returns-clause-linked c =
    let r = c.requires in
    let m = c.vacate_all.ensures in
    let many : length c.vacate_all.new.places.items ≡ length c.args.places.now.items = sym (length-map c.vacate_all.new.places.items targets_held) ∙ ap length m.targets ∙ length-set (targets_in c.args.places.now.items) c.args.user [] ∙ length-map c.args.places.now.items targets_held in
    let there : c.args.user < length c.vacate_all.new.places.items = omega (arith, r.user, r.linked.holes.count, many) in
    let row : c.index.result.now ≡ get_or c.vacate_all.new.places.items c.args.user [] = c.index.ensures ∙ get_or_default _ _ _ _ there in
    let hole = cleared-hole c.args.places.now.items c.vacate_all.new.places.items c.args.holes.now.items c.args.user c.count-len.result r.user m.targets m.marks (c.count-len.ensures ∙ ap length row) m.free r.linked.holes in
    record { linked = rw c.close_gap.ensures.places (closed-linked _ _ _ hole.have hole.within hole.gapped hole.end _ m.linked); holes = c.close_gap.ensures.holes }

pub returns-clause-targets : goal.returns-clause-targets
returns-clause-targets c =
    let r = c.requires in
    let m = c.vacate_all.ensures in
    let many : length c.vacate_all.new.places.items ≡ length c.args.places.now.items = sym (length-map c.vacate_all.new.places.items targets_held) ∙ ap length m.targets ∙ length-set (targets_in c.args.places.now.items) c.args.user [] ∙ length-map c.args.places.now.items targets_held in
    let there : c.args.user < length c.vacate_all.new.places.items = omega (arith, r.user, r.linked.holes.count, many) in
    let row : c.index.result.now ≡ get_or c.vacate_all.new.places.items c.args.user [] = c.index.ensures ∙ get_or_default _ _ _ _ there in
    let hole = cleared-hole c.args.places.now.items c.vacate_all.new.places.items c.args.holes.now.items c.args.user c.count-len.result r.user m.targets m.marks (c.count-len.ensures ∙ ap length row) m.free r.linked.holes in
    ap targets_in c.close_gap.ensures.places ∙ closed-targets _ _ _ hole.have hole.within hole.gapped hole.end ∙ m.targets
