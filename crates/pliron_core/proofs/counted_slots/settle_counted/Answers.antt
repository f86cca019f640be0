use Rattle.std.proofs.Common.{◌≡◌, ◌<◌, ◌-◌, [], length, get_or, ap, ◌∙◌, rules, arith}
use Rattle.std.proofs.lemmas.List.{get_or_default}
use Rattle.pliron_core.specs.UseSlots.{targets_in, uses_in}
use Rattle.pliron_core.proofs.LeaveLemmas.{closed-linked, closed-targets, closed-uses}
use Rattle.pliron_core.proofs.SettleLemmas.{same-many, settled-hole}
use Rattle.pliron_core.proofs.counted_slots.settle_counted.Goals as goal

pub index-requires : goal.index-requires
index-requires c =
    let r = c.requires in
    let h : c.args.user < length c.move_down-start.new.places.items = omega (arith, r.user, r.linked.holes.count, same-many c.args.places.now.items c.move_down-start.new.places.items c.move_down-start.ensures.targets) in
    search (rules, h)

pub overflow_sub-len : goal.overflow_sub-len
overflow_sub-len c =
    let r = c.requires in
    let m = c.move_down-start.ensures in
    let inside : c.args.user < length c.args.places.now.items = omega (arith, r.user, r.linked.holes.count) in
    let many : length c.move_down-start.new.places.items ≡ length c.args.places.now.items = same-many c.args.places.now.items c.move_down-start.new.places.items m.targets in
    let there : c.args.user < length c.move_down-start.new.places.items = omega (arith, inside, many) in
    let row : c.index.result.now ≡ get_or c.move_down-start.new.places.items c.args.user [] = c.index.ensures ∙ get_or_default _ _ _ _ there in
    omega (arith, m.within, m.len, ap length row, c.count.ensures)

pub overflow_cast-start : goal.overflow_cast-start
overflow_cast-start c =
    let r = c.requires in
    let m = c.move_down-start.ensures in
    let inside : c.args.user < length c.args.places.now.items = omega (arith, r.user, r.linked.holes.count) in
    let many : length c.move_down-start.new.places.items ≡ length c.args.places.now.items = same-many c.args.places.now.items c.move_down-start.new.places.items m.targets in
    let there : c.args.user < length c.move_down-start.new.places.items = omega (arith, inside, many) in
    let row : c.index.result.now ≡ get_or c.move_down-start.new.places.items c.args.user [] = c.index.ensures ∙ get_or_default _ _ _ _ there in
    omega (arith, m.within, m.len, ap length row, c.count.ensures, c.count.type_inv)

pub close_gap-requires-clause-holes : goal.close_gap-requires-clause-holes
close_gap-requires-clause-holes c =
    let r = c.requires in
    let m = c.move_down-start.ensures in
    let inside : c.args.user < length c.args.places.now.items = omega (arith, r.user, r.linked.holes.count) in
    let many : length c.move_down-start.new.places.items ≡ length c.args.places.now.items = same-many c.args.places.now.items c.move_down-start.new.places.items m.targets in
    let there : c.args.user < length c.move_down-start.new.places.items = omega (arith, inside, many) in
    let row : c.index.result.now ≡ get_or c.move_down-start.new.places.items c.args.user [] = c.index.ensures ∙ get_or_default _ _ _ _ there in
    let hole = settled-hole c.args.places.now.items c.move_down-start.new.places.items c.args.holes.now.items c.args.user c.move_down-start.result (c.count.result - c.move_down-start.result) r.user m.targets m.taken m.within m.len (ap (λ n. n - c.move_down-start.result) (c.count.ensures ∙ ap length row)) m.first m.free m.others r.linked.holes in
    hole.have

pub close_gap-requires-clause-user : goal.close_gap-requires-clause-user
close_gap-requires-clause-user c =
    let r = c.requires in
    let m = c.move_down-start.ensures in
    let inside : c.args.user < length c.args.places.now.items = omega (arith, r.user, r.linked.holes.count) in
    let many : length c.move_down-start.new.places.items ≡ length c.args.places.now.items = same-many c.args.places.now.items c.move_down-start.new.places.items m.targets in
    let there : c.args.user < length c.move_down-start.new.places.items = omega (arith, inside, many) in
    let row : c.index.result.now ≡ get_or c.move_down-start.new.places.items c.args.user [] = c.index.ensures ∙ get_or_default _ _ _ _ there in
    let hole = settled-hole c.args.places.now.items c.move_down-start.new.places.items c.args.holes.now.items c.args.user c.move_down-start.result (c.count.result - c.move_down-start.result) r.user m.targets m.taken m.within m.len (ap (λ n. n - c.move_down-start.result) (c.count.ensures ∙ ap length row)) m.first m.free m.others r.linked.holes in
    hole.within

pub close_gap-requires-clause-gapped : goal.close_gap-requires-clause-gapped
close_gap-requires-clause-gapped c =
    let r = c.requires in
    let m = c.move_down-start.ensures in
    let inside : c.args.user < length c.args.places.now.items = omega (arith, r.user, r.linked.holes.count) in
    let many : length c.move_down-start.new.places.items ≡ length c.args.places.now.items = same-many c.args.places.now.items c.move_down-start.new.places.items m.targets in
    let there : c.args.user < length c.move_down-start.new.places.items = omega (arith, inside, many) in
    let row : c.index.result.now ≡ get_or c.move_down-start.new.places.items c.args.user [] = c.index.ensures ∙ get_or_default _ _ _ _ there in
    let hole = settled-hole c.args.places.now.items c.move_down-start.new.places.items c.args.holes.now.items c.args.user c.move_down-start.result (c.count.result - c.move_down-start.result) r.user m.targets m.taken m.within m.len (ap (λ n. n - c.move_down-start.result) (c.count.ensures ∙ ap length row)) m.first m.free m.others r.linked.holes in
    hole.gapped

pub close_gap-requires-clause-end : goal.close_gap-requires-clause-end
close_gap-requires-clause-end c =
    let r = c.requires in
    let m = c.move_down-start.ensures in
    let inside : c.args.user < length c.args.places.now.items = omega (arith, r.user, r.linked.holes.count) in
    let many : length c.move_down-start.new.places.items ≡ length c.args.places.now.items = same-many c.args.places.now.items c.move_down-start.new.places.items m.targets in
    let there : c.args.user < length c.move_down-start.new.places.items = omega (arith, inside, many) in
    let row : c.index.result.now ≡ get_or c.move_down-start.new.places.items c.args.user [] = c.index.ensures ∙ get_or_default _ _ _ _ there in
    let hole = settled-hole c.args.places.now.items c.move_down-start.new.places.items c.args.holes.now.items c.args.user c.move_down-start.result (c.count.result - c.move_down-start.result) r.user m.targets m.taken m.within m.len (ap (λ n. n - c.move_down-start.result) (c.count.ensures ∙ ap length row)) m.first m.free m.others r.linked.holes in
    hole.end

pub returns-clause-linked : goal.returns-clause-linked
returns-clause-linked c =
    let r = c.requires in
    let m = c.move_down-start.ensures in
    let inside : c.args.user < length c.args.places.now.items = omega (arith, r.user, r.linked.holes.count) in
    let many : length c.move_down-start.new.places.items ≡ length c.args.places.now.items = same-many c.args.places.now.items c.move_down-start.new.places.items m.targets in
    let there : c.args.user < length c.move_down-start.new.places.items = omega (arith, inside, many) in
    let row : c.index.result.now ≡ get_or c.move_down-start.new.places.items c.args.user [] = c.index.ensures ∙ get_or_default _ _ _ _ there in
    let hole = settled-hole c.args.places.now.items c.move_down-start.new.places.items c.args.holes.now.items c.args.user c.move_down-start.result (c.count.result - c.move_down-start.result) r.user m.targets m.taken m.within m.len (ap (λ n. n - c.move_down-start.result) (c.count.ensures ∙ ap length row)) m.first m.free m.others r.linked.holes in
    record { linked = rw c.close_gap.ensures.places (closed-linked _ _ _ hole.have hole.within hole.gapped hole.end _ m.linked); holes = c.close_gap.ensures.holes }

pub returns-clause-targets : goal.returns-clause-targets
returns-clause-targets c =
    let r = c.requires in
    let m = c.move_down-start.ensures in
    let inside : c.args.user < length c.args.places.now.items = omega (arith, r.user, r.linked.holes.count) in
    let many : length c.move_down-start.new.places.items ≡ length c.args.places.now.items = same-many c.args.places.now.items c.move_down-start.new.places.items m.targets in
    let there : c.args.user < length c.move_down-start.new.places.items = omega (arith, inside, many) in
    let row : c.index.result.now ≡ get_or c.move_down-start.new.places.items c.args.user [] = c.index.ensures ∙ get_or_default _ _ _ _ there in
    let hole = settled-hole c.args.places.now.items c.move_down-start.new.places.items c.args.holes.now.items c.args.user c.move_down-start.result (c.count.result - c.move_down-start.result) r.user m.targets m.taken m.within m.len (ap (λ n. n - c.move_down-start.result) (c.count.ensures ∙ ap length row)) m.first m.free m.others r.linked.holes in
    ap targets_in c.close_gap.ensures.places ∙ closed-targets _ _ _ hole.have hole.within hole.gapped hole.end ∙ m.targets

pub returns-clause-uses : goal.returns-clause-uses
returns-clause-uses c =
    let r = c.requires in
    let m = c.move_down-start.ensures in
    let inside : c.args.user < length c.args.places.now.items = omega (arith, r.user, r.linked.holes.count) in
    let many : length c.move_down-start.new.places.items ≡ length c.args.places.now.items = same-many c.args.places.now.items c.move_down-start.new.places.items m.targets in
    let there : c.args.user < length c.move_down-start.new.places.items = omega (arith, inside, many) in
    let row : c.index.result.now ≡ get_or c.move_down-start.new.places.items c.args.user [] = c.index.ensures ∙ get_or_default _ _ _ _ there in
    let hole = settled-hole c.args.places.now.items c.move_down-start.new.places.items c.args.holes.now.items c.args.user c.move_down-start.result (c.count.result - c.move_down-start.result) r.user m.targets m.taken m.within m.len (ap (λ n. n - c.move_down-start.result) (c.count.ensures ∙ ap length row)) m.first m.free m.others r.linked.holes in
    ap (λ z. uses_in z c.move_down-start.new.uses.items) c.close_gap.ensures.places ∙ closed-uses _ _ _ hole.have hole.within hole.gapped hole.end _ m.linked ∙ m.uses
