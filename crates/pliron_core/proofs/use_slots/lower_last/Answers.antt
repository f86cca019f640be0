use Rattle.std.proofs.Common.{◌≡◌, ◌-◌, ◌<◌, List, [], ◌∷◌, ◌++◌, ℕ, length, get_or, set, ap, ◌∙◌, arith}
use Rattle.std.specs.List.{insert}
use Rattle.pliron_core.specs.UseSlots.{targets_held, targets_in}
use Rattle.pliron_core.specs.Holes.{gap_of}
use Rattle.pliron_core.proofs.TableLemmas.{row-length}
use Rattle.pliron_core.proofs.RelocateLemmas.{held-kept, users-kept}
use Rattle.pliron_core.proofs.InsertLemmas.{last-taken, first-free, last-lowered}
use Rattle.pliron_core.proofs.use_slots.lower_last.Goals as goal
use Rattle.pliron_core.proofs.use_slots.lower_last.Goals.{After-len-end}

user-there : (c : After-len-end) → c.args.user < length c.open_gap.new.holes.items
user-there c = users-kept c.args.places.now.items c.open_gap.new.places.items c.args.holes.now.items c.open_gap.new.holes.items c.args.user c.requires.linked.holes c.open_gap.ensures.linked.holes c.open_gap.ensures.targets c.requires.user

some : (c : After-len-end) → 0 < (gap_of c.open_gap.new.holes.items c.args.user).len
some c = omega (arith, c.open_gap.ensures.len, c.requires.len)

index : (c : After-len-end) → c.args.i < length (targets_held (get_or c.open_gap.new.places.items c.args.user []))
index c = omega (arith, c.requires.index, ap length (held-kept c.args.places.now.items c.open_gap.new.places.items c.args.user c.open_gap.ensures.targets))

end : (c : After-len-end) → c.len-end.result - 1 ≡ length (get_or c.open_gap.new.places.items c.args.user []) - 1
end c =
    let o = c.open_gap.ensures.linked.holes in
    let long = row-length c.open_gap.new.places.items c.args.user _ _ (omega (arith, user-there c, o.count)) c.index.ensures c.len-end.ensures in
    ap (λ n. n - 1) long

pub relocate-requires-clause-from : goal.relocate-requires-clause-from
relocate-requires-clause-from c =
    let k = (goal.at.relocate-requires-clause-from c).After-len-end in
    rw (end k) (last-taken c.open_gap.new.places.items c.open_gap.new.holes.items c.open_gap.new.uses.items c.args.user c.args.i c.open_gap.ensures.linked (user-there k) (some k) c.open_gap.ensures.start (index k))

pub relocate-requires-clause-to : goal.relocate-requires-clause-to
relocate-requires-clause-to c =
    let k = (goal.at.relocate-requires-clause-to c).After-len-end in
    rw c.gap_at-start.ensures.gap (first-free c.open_gap.new.places.items c.open_gap.new.holes.items c.open_gap.new.uses.items c.args.user c.args.i c.open_gap.ensures.linked (user-there k) (some k) c.open_gap.ensures.start (index k))

pub returns-clause-linked : goal.returns-clause-linked
returns-clause-linked c =
    let k = (goal.at.returns-clause-linked c).After-len-end in
    (last-lowered c.open_gap.new.places.items c.open_gap.new.holes.items c.open_gap.new.uses.items c.args.user c.args.i c.open_gap.ensures.linked (user-there k) (some k) c.open_gap.ensures.start (index k) _ _ _ _ _ _ c.gap_at-start.ensures.gap (end k) c.relocate.ensures.linked c.relocate.ensures.moved c.index_mut.ensures.value c.truncate.ensures).0

pub returns-clause-targets : goal.returns-clause-targets
returns-clause-targets c before last e =
    let k = (goal.at.returns-clause-targets c).After-len-end in
    let same : targets_in c.open_gap.new.places.items ≡ targets_in c.args.places.now.items = c.open_gap.ensures.targets in
    (last-lowered c.open_gap.new.places.items c.open_gap.new.holes.items c.open_gap.new.uses.items c.args.user c.args.i c.open_gap.ensures.linked (user-there k) (some k) c.open_gap.ensures.start (index k) _ _ _ _ _ _ c.gap_at-start.ensures.gap (end k) c.relocate.ensures.linked c.relocate.ensures.moved c.index_mut.ensures.value c.truncate.ensures).1 before last (ap (λ t. get_or t c.args.user []) same ∙ e) ∙ ap (λ t. set t c.args.user (insert before c.args.i last)) same
