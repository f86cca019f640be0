use Rattle.std.proofs.Common.{◌≡◌, ◌<◌, [], length, get_or, ap, ◌∙◌, arith}
use Rattle.pliron_core.specs.UseSlots.{targets_held, targets_in}
use Rattle.pliron_core.specs.Holes.{gap_of}
use Rattle.pliron_core.proofs.RelocateLemmas.{held-kept, users-kept}
use Rattle.pliron_core.proofs.LeaveLemmas.{closed-linked, closed-targets}
use Rattle.pliron_core.proofs.use_slots.settle_gap.Goals as goal

pub close_gap-requires-clause-end : goal.close_gap-requires-clause-end
close_gap-requires-clause-end c =
    let o = c.open_gap.ensures in
    let held_is : length (targets_held (get_or c.open_gap.new.places.items c.args.user [])) ≡ length (targets_held (get_or c.args.places.now.items c.args.user [])) = ap length (held-kept c.args.places.now.items c.open_gap.new.places.items c.args.user o.targets) in
    let end : (gap_of c.open_gap.new.holes.items c.args.user).start ≡ length (targets_held (get_or c.open_gap.new.places.items c.args.user [])) = omega (arith, held_is, o.start, c.count_at-count.ensures) in
    end

pub returns-clause-linked : goal.returns-clause-linked
returns-clause-linked c =
    let o = c.open_gap.ensures in
    let held_is : length (targets_held (get_or c.open_gap.new.places.items c.args.user [])) ≡ length (targets_held (get_or c.args.places.now.items c.args.user [])) = ap length (held-kept c.args.places.now.items c.open_gap.new.places.items c.args.user o.targets) in
    let end : (gap_of c.open_gap.new.holes.items c.args.user).start ≡ length (targets_held (get_or c.open_gap.new.places.items c.args.user [])) = omega (arith, held_is, o.start, c.count_at-count.ensures) in
    let within : c.args.user < length c.open_gap.new.holes.items = users-kept c.args.places.now.items c.open_gap.new.places.items c.args.holes.now.items c.open_gap.new.holes.items c.args.user c.requires.linked.holes o.linked.holes o.targets c.requires.user in
    record { linked = rw c.close_gap.ensures.places (closed-linked c.open_gap.new.places.items c.open_gap.new.holes.items c.args.user o.linked.holes within o.gapped end c.open_gap.new.uses.items o.linked.linked); holes = c.close_gap.ensures.holes }

pub returns-clause-targets : goal.returns-clause-targets
returns-clause-targets c =
    let o = c.open_gap.ensures in
    let held_is : length (targets_held (get_or c.open_gap.new.places.items c.args.user [])) ≡ length (targets_held (get_or c.args.places.now.items c.args.user [])) = ap length (held-kept c.args.places.now.items c.open_gap.new.places.items c.args.user o.targets) in
    let end : (gap_of c.open_gap.new.holes.items c.args.user).start ≡ length (targets_held (get_or c.open_gap.new.places.items c.args.user [])) = omega (arith, held_is, o.start, c.count_at-count.ensures) in
    let within : c.args.user < length c.open_gap.new.holes.items = users-kept c.args.places.now.items c.open_gap.new.places.items c.args.holes.now.items c.open_gap.new.holes.items c.args.user c.requires.linked.holes o.linked.holes o.targets c.requires.user in
    ap targets_in c.close_gap.ensures.places ∙ closed-targets c.open_gap.new.places.items c.open_gap.new.holes.items c.args.user o.linked.holes within o.gapped end ∙ o.targets
