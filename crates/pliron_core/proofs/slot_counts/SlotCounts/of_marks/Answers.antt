use Rattle.std.proofs.Common.{length, ap, arith}
use Rattle.pliron_core.proofs.LevelLemmas.{length-pairs, sum-marks, built-more}
use Rattle.pliron_core.proofs.slot_counts.SlotCounts.of_marks.Goals as goal

pub sums_of-requires : goal.sums_of-requires
sums_of-requires c = let i = c.loop-alloc.invariant in omega (arith, i.built.sums, sum-marks c.args.row i.marks, i.few)

pub loop-alloc-smaller : goal.loop-alloc-smaller
loop-alloc-smaller c = omega (arith, ap length c.in_ok-sums.ensures, (length-pairs c.loop-alloc.below).1, c.len-in-loop-alloc.ensures, c.loop-alloc-test.true)

pub loop-alloc-preserved : goal.loop-alloc-preserved
loop-alloc-preserved c =
    let i = c.loop-alloc.invariant in
    record { built = rw (c.in_ok-push.ensures.items, c.in_ok-sums.ensures) (built-more c.args.row c.loop-alloc.levels.items c.loop-alloc.below i.built); marks = i.marks; few = i.few }
