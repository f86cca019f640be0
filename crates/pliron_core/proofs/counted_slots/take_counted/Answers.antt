use Rattle.std.proofs.Common.{◌≡◌, ◌<◌, [], length, get_or, set, ap, sym, ◌∙◌, rules, arith}
use Rattle.std.specs.List.{slice_get, remove, sum}
use Rattle.pliron_core.specs.UseSlots.{targets_held, targets_in}
use Rattle.pliron_core.proofs.CountLemmas.{held-marks}
use Rattle.pliron_core.proofs.MarkLemmas.{mark-place, rank-counts}
use Rattle.pliron_core.proofs.HoleLemmas.{counted-marks, holes-taken}
use Rattle.pliron_core.proofs.counted_slots.take_counted.Goals as goal

pub free_counted-place-requires-clause-index : goal.free_counted-place-requires-clause-index
free_counted-place-requires-clause-index c =
    let r = c.requires in
    let marked = counted-marks c.args.places.now.items c.args.holes.now.items c.args.user r.linked.holes r.counted in
    omega (arith, r.index, held-marks (get_or c.args.places.now.items c.args.user []), ap sum marked)

pub vacate-requires-clause-taken : goal.vacate-requires-clause-taken
vacate-requires-clause-taken c =
    let r = c.requires in
    let marked = counted-marks c.args.places.now.items c.args.holes.now.items c.args.user r.linked.holes r.counted in
    mark-place _ _ _ marked c.free_counted-place.ensures.taken

pub returns-clause-linked : goal.returns-clause-linked
returns-clause-linked c =
    let r = c.requires in
    let f = c.free_counted-place.ensures in
    let v = c.vacate.ensures in
    let long : length c.free_counted-place.new.holes.items ≡ length c.args.holes.now.items = search (rules, f.rooms.0) in
    let within : c.args.user < length c.args.places.now.items = omega (arith, r.user, r.linked.holes.count) in
    record { linked = v.linked; holes = holes-taken _ _ _ _ c.args.user _ within r.linked.holes r.counted f.counted long f.counts f.others v.marks }

pub returns-clause-target : goal.returns-clause-target
returns-clause-target c =
    let r = c.requires in
    let marked = counted-marks c.args.places.now.items c.args.holes.now.items c.args.user r.linked.holes r.counted in
    let ranked = rank-counts _ _ _ _ marked c.free_counted-place.ensures.rank in
    ap (slice_get (targets_held (get_or c.args.places.now.items c.args.user []))) (sym ranked) ∙ c.vacate.ensures.target

pub returns-clause-targets : goal.returns-clause-targets
returns-clause-targets c =
    let r = c.requires in
    let marked = counted-marks c.args.places.now.items c.args.holes.now.items c.args.user r.linked.holes r.counted in
    let ranked = rank-counts _ _ _ _ marked c.free_counted-place.ensures.rank in
    c.vacate.ensures.targets ∙ ap (λ n. set (targets_in c.args.places.now.items) c.args.user (remove (get_or (targets_in c.args.places.now.items) c.args.user []) n)) ranked
