use Rattle.std.proofs.Common.{◌≡◌, ◌<◌, [], length, get_or, set, map, ap, sym, ◌∙◌, arith}
use Rattle.std.specs.List.{slice_get, remove}
use Rattle.std.proofs.lemmas.List.{length-map}
use Rattle.pliron_core.specs.UseSlots.{targets_held, ranked_use, targets_in}
use Rattle.pliron_core.specs.Holes.{gap_of}
use Rattle.pliron_core.proofs.PlaceLemmas.{row-targets}
use Rattle.pliron_core.proofs.RelocateLemmas.{held-kept, users-kept, users-set, user-within}
use Rattle.pliron_core.proofs.uses.Uses.remove.Goals as goal

pub open_gap-requires-clause-user : goal.open_gap-requires-clause-user
open_gap-requires-clause-user c =
    let r = rw (← c.self.view_is) at c.requires in
    user-within c.self.inside.places.items c.self.inside.holes.items c.args.user c.self.invariant.holes r.user

pub open_gap-requires-clause-index : goal.open_gap-requires-clause-index
open_gap-requires-clause-index c =
    let r = rw (← c.self.view_is) at c.requires in
    let row : length (get_or (targets_in c.self.inside.places.items) c.args.user []) ≡ length (targets_held (get_or c.self.inside.places.items c.args.user [])) = ap length (row-targets c.self.inside.places.items c.args.user) in
    omega (arith, r.place, row)

pub widen_gap-target-requires-clause-user : goal.widen_gap-target-requires-clause-user
widen_gap-target-requires-clause-user c =
    let r = rw (← c.self.view_is) at c.requires in
    let rows = c.self.inside.places.items in
    let o = c.open_gap.ensures in
    let u : c.args.user < length c.self.inside.holes.items = user-within c.self.inside.places.items c.self.inside.holes.items c.args.user c.self.invariant.holes r.user in
    let u1 : c.args.user < length c.open_gap.new.holes.items = users-kept c.self.inside.places.items c.open_gap.new.places.items c.self.inside.holes.items c.open_gap.new.holes.items c.args.user c.self.invariant.holes o.linked.holes o.targets u in
    u1

pub widen_gap-target-requires-clause-start : goal.widen_gap-target-requires-clause-start
widen_gap-target-requires-clause-start c =
    let r = rw (← c.self.view_is) at c.requires in
    let rows = c.self.inside.places.items in
    let o = c.open_gap.ensures in
    let row : length (get_or (targets_in c.self.inside.places.items) c.args.user []) ≡ length (targets_held (get_or c.self.inside.places.items c.args.user [])) = ap length (row-targets c.self.inside.places.items c.args.user) in
    let h : length (targets_held (get_or c.open_gap.new.places.items c.args.user [])) ≡ length (targets_held (get_or c.self.inside.places.items c.args.user [])) = ap length (held-kept c.self.inside.places.items c.open_gap.new.places.items c.args.user o.targets) in
    omega (arith, r.place, row, h, o.start)

pub settle_gap-requires-clause-user : goal.settle_gap-requires-clause-user
settle_gap-requires-clause-user c =
    let r = rw (← c.self.view_is) at c.requires in
    let rows = c.self.inside.places.items in
    let o = c.open_gap.ensures in
    let u : c.args.user < length c.self.inside.holes.items = user-within c.self.inside.places.items c.self.inside.holes.items c.args.user c.self.invariant.holes r.user in
    let u1 : c.args.user < length c.open_gap.new.holes.items = users-kept c.self.inside.places.items c.open_gap.new.places.items c.self.inside.holes.items c.open_gap.new.holes.items c.args.user c.self.invariant.holes o.linked.holes o.targets u in
    let w = c.widen_gap-target.ensures in
    users-set c.open_gap.new.places.items c.widen_gap-target.new.places.items c.open_gap.new.holes.items c.widen_gap-target.new.holes.items c.args.user _ o.linked.holes w.linked.holes w.targets u1

pub returns-clause-target : goal.returns-clause-target
returns-clause-target c =
    let o = c.open_gap.ensures in
    rw (← c.self.view_is) (ap (λ l. slice_get l c.args.place) (row-targets c.self.inside.places.items c.args.user ∙ sym (held-kept c.self.inside.places.items c.open_gap.new.places.items c.args.user o.targets)) ∙ ap (slice_get (targets_held (get_or c.open_gap.new.places.items c.args.user []))) (sym o.start) ∙ c.widen_gap-target.ensures.target)

pub returns-clause-targets : goal.returns-clause-targets
returns-clause-targets c =
    let o = c.open_gap.ensures in
    rw (← c.self.view_is) (c.settle_gap.ensures.targets ∙ c.widen_gap-target.ensures.targets ∙ ap (λ t. set t c.args.user (remove (get_or t c.args.user []) (gap_of c.open_gap.new.holes.items c.args.user).start)) o.targets ∙ ap (λ n. set (targets_in c.self.inside.places.items) c.args.user (remove (get_or (targets_in c.self.inside.places.items) c.args.user []) n)) o.start)

pub returns-clause-count : goal.returns-clause-count
returns-clause-count c =
    let before = length-map c.self.inside.uses.items (map (ranked_use c.self.inside.places.items)) in
    let after = length-map c.settle_gap.new.uses.items (map (ranked_use c.settle_gap.new.places.items)) in
    rw (← c.self.view_is) (after ∙ c.settle_gap.ensures.count ∙ c.widen_gap-target.ensures.count ∙ c.open_gap.ensures.count ∙ sym before)

pub returns-clause-rooms : goal.returns-clause-rooms
returns-clause-rooms c =
    let o = c.open_gap.ensures.rooms in
    let w = c.widen_gap-target.ensures.rooms in
    let s = c.settle_gap.ensures.rooms in
    rw (← c.self.view_is) (omega (arith, s.0 ∙ w.0 ∙ o.0, s.1 ∙ w.1 ∙ o.1, s.2 ∙ w.2 ∙ o.2, s.3 ∙ w.3 ∙ o.3), omega (arith, s.4 ∙ w.4 ∙ o.4, s.5 ∙ w.5 ∙ o.5))

pub take_counted-requires-clause-user : goal.take_counted-requires-clause-user
take_counted-requires-clause-user c =
    let r = rw (← c.self.view_is) at c.requires in
    user-within c.self.inside.places.items c.self.inside.holes.items c.args.user c.self.invariant.holes r.user

pub take_counted-requires-clause-index : goal.take_counted-requires-clause-index
take_counted-requires-clause-index c =
    let r = rw (← c.self.view_is) at c.requires in
    let row : length (get_or (targets_in c.self.inside.places.items) c.args.user []) ≡ length (targets_held (get_or c.self.inside.places.items c.args.user [])) = ap length (row-targets c.self.inside.places.items c.args.user) in
    omega (arith, r.place, row)

pub returns-then-are_counted-clause-target : goal.returns-then-are_counted-clause-target
returns-then-are_counted-clause-target c =
    rw (← c.self.view_is) (ap (λ l. slice_get l c.args.place) (row-targets c.self.inside.places.items c.args.user) ∙ c.take_counted.ensures.target)

pub returns-then-are_counted-clause-targets : goal.returns-then-are_counted-clause-targets
returns-then-are_counted-clause-targets c = rw (← c.self.view_is) c.take_counted.ensures.targets

pub returns-then-are_counted-clause-count : goal.returns-then-are_counted-clause-count
returns-then-are_counted-clause-count c =
    let before = length-map c.self.inside.uses.items (map (ranked_use c.self.inside.places.items)) in
    let after = length-map c.take_counted.new.uses.items (map (ranked_use c.take_counted.new.places.items)) in
    rw (← c.self.view_is) (after ∙ c.take_counted.ensures.count ∙ sym before)

pub returns-then-are_counted-clause-rooms : goal.returns-then-are_counted-clause-rooms
returns-then-are_counted-clause-rooms c =
    let s = c.take_counted.ensures.rooms in
    rw (← c.self.view_is) (omega (arith, s.0, s.1, s.2, s.3), omega (arith, s.4, s.5))
