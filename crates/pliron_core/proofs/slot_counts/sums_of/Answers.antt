use Rattle.std.proofs.Common.{◌≡◌, ◌/◌, ◌∙◌, arith}
use Rattle.pliron_core.proofs.LevelLemmas.{pair-fits, sums-more, sums-odd, sums-even}
use Rattle.pliron_core.proofs.slot_counts.sums_of.Goals.{then-half-len+in_ok-push-2, else-half-len}
use Rattle.pliron_core.proofs.slot_counts.sums_of.Goals as goal

pub overflow_add-get : goal.overflow_add-get
overflow_add-get c = omega (arith, pair-fits c.args.below.now c.loop-q.q _ _ c.get.ensures c.get-in-loop-q.ensures, c.requires)

pub loop-q-preserved : goal.loop-q-preserved
loop-q-preserved c = sums-more c.args.below.now _ _ c.loop-q.q _ _ c.loop-q.invariant (omega arith) c.get.ensures c.get-in-loop-q.ensures c.in_ok-push.ensures.ok

pub returns : goal.returns
returns c =
    let half : c.loop-q.q ≡ c.len-half.result / 2 = omega arith in
    elim c.if-half-len.branch [
      | then-half-len+in_ok-push-2 w ↦ w.sums-is ∙ sums-odd c.args.below.now _ _ c.loop-q.q _ c.loop-q.invariant (omega arith) (omega arith) (rw half w.get-then-half-len.ensures) w.in_ok-push-2.ensures.ok
      | else-half-len w ↦ w.sums-is ∙ sums-even c.args.below.now _ c.loop-q.q c.loop-q.invariant (omega arith) (omega arith)
    ]
