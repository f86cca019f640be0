use Rattle.std.proofs.Common.{◌<◌, length, arith}
use Rattle.pliron_core.proofs.LevelLemmas.{rank-odd, rank-even, rank-within, rank-fits}
use Rattle.pliron_core.proofs.slot_counts.SlotCounts.rank.Goals.{then-end-eq1, else-end-eq1}
use Rattle.pliron_core.proofs.slot_counts.SlotCounts.rank.Goals as goal

pub overflow_add-count : goal.overflow_add-count
overflow_add-count c =
    let i = c.loop-k.invariant in
    let h : c.loop-k.k < length c.self.inside.levels.items = omega arith in
    omega (arith, rank-odd _ c.self.invariant c.loop-k.k c.loop-k.end c.loop-k.count _ h i.within i.count _ c.if-end-eq1.true c.entry-count.ensures, rank-fits c.self.inside.levels.items c.args.place c.self.invariant)

pub loop-k-preserved : goal.loop-k-preserved
loop-k-preserved c =
    let i = c.loop-k.invariant in
    let h : c.loop-k.k < length c.self.inside.levels.items = omega arith in
    record {
      within = rank-within _ c.self.invariant c.loop-k.k c.loop-k.end c.loop-k.count _ h i.within i.count;
      count = elim c.if-end-eq1.branch [
        | then-end-eq1 w ↦ rw w.count-is (rank-odd _ c.self.invariant c.loop-k.k c.loop-k.end c.loop-k.count _ h i.within i.count _ w.if-end-eq1.true w.entry-count.ensures)
        | else-end-eq1 w ↦ rw w.count-is (rank-even _ c.self.invariant c.loop-k.k c.loop-k.end c.loop-k.count _ h i.within i.count w.if-end-eq1.false)
      ];
    }
