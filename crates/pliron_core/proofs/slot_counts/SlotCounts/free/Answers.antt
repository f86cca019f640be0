use Rattle.std.proofs.Common.{◌≡◌, ◌<◌, Some, length, get_or, arith}
use Rattle.std.specs.List.{slice_get}
use Rattle.std.proofs.lemmas.Option.{get_or_from_slice_get}
use Rattle.pliron_core.specs.Counts.{level}
use Rattle.pliron_core.proofs.LevelLemmas.{freed-sums, free-entry, free-some, free-count, free-lower, free-higher, free-place}
use Rattle.pliron_core.proofs.slot_counts.SlotCounts.free.Goals as goal

pub invariant_of-self : goal.invariant_of-self
invariant_of-self c =
    let r : slice_get (level c.self.inside.levels.items 0) c.args.place ≡ Some 1 = rw (← c.self.view_is) at c.requires in
    let i = c.loop-k.invariant in
    freed-sums _ c.self.invariant c.loop-k.self-inside.levels.items c.args.place r i.count (λ j h. i.lower j (omega (arith, h)))

pub entry-count-requires : goal.entry-count-requires
entry-count-requires c =
    let r : slice_get (level c.self.inside.levels.items 0) c.args.place ≡ Some 1 = rw (← c.self.view_is) at c.requires in
    let i = c.loop-k.invariant in
    free-some c.loop-k.self-inside.levels.items c.loop-k.at c.loop-k.k (free-entry c.self.inside.levels.items c.loop-k.self-inside.levels.items c.args.place c.loop-k.at c.loop-k.k c.self.invariant r (omega arith) (i.higher c.loop-k.k (omega arith)) i.place)

pub overflow_sub-count : goal.overflow_sub-count
overflow_sub-count c =
    let r : slice_get (level c.self.inside.levels.items 0) c.args.place ≡ Some 1 = rw (← c.self.view_is) at c.requires in
    let i = c.loop-k.invariant in
    let some : 0 < get_or (level c.loop-k.self-inside.levels.items c.loop-k.k) c.loop-k.at 0 = free-entry c.self.inside.levels.items c.loop-k.self-inside.levels.items c.args.place c.loop-k.at c.loop-k.k c.self.invariant r (omega arith) (i.higher c.loop-k.k (omega arith)) i.place in
    omega (arith, some, get_or_from_slice_get (level c.loop-k.self-inside.levels.items c.loop-k.k) c.loop-k.at c.entry-count.result 0 c.entry-count.ensures)

pub loop-k-preserved : goal.loop-k-preserved
loop-k-preserved c =
    let i = c.loop-k.invariant in
    let h : c.loop-k.k < length c.self.inside.levels.items = omega arith in
    record {
      place = free-place c.self.inside.levels.items c.loop-k.self-inside.levels.items c.set_entry.new.rows.items c.args.place c.loop-k.at c.loop-k.k c.entry-count.result i.count h i.place i.lower i.higher c.entry-count.ensures c.set_entry.ensures.items;
      count = free-count c.self.inside.levels.items c.loop-k.self-inside.levels.items c.set_entry.new.rows.items c.args.place c.loop-k.at c.loop-k.k c.entry-count.result i.count h i.place i.lower i.higher c.entry-count.ensures c.set_entry.ensures.items;
      lower = free-lower c.self.inside.levels.items c.loop-k.self-inside.levels.items c.set_entry.new.rows.items c.args.place c.loop-k.at c.loop-k.k c.entry-count.result i.count h i.place i.lower i.higher c.entry-count.ensures c.set_entry.ensures.items;
      higher = free-higher c.self.inside.levels.items c.loop-k.self-inside.levels.items c.set_entry.new.rows.items c.args.place c.loop-k.at c.loop-k.k c.entry-count.result i.count h i.place i.lower i.higher c.entry-count.ensures c.set_entry.ensures.items;
    }
