use Rattle.std.proofs.Common.{◌∙◌, sym}
use Rattle.pliron_core.proofs.CountLemmas.{marks-more, mark-free, mark-taken}
use Rattle.pliron_core.proofs.slot_counts.marks_of.Goals.{then-target, else-target}
use Rattle.pliron_core.proofs.slot_counts.marks_of.Goals as goal

pub loop-i-preserved : goal.loop-i-preserved
loop-i-preserved c = elim c.if-target.branch [
  | then-target w ↦ marks-more c.args.row.now _ _ c.loop-i.i _ _ c.loop-i.invariant c.get-target.ensures c.in_ok-push.ensures.ok (w.push-is ∙ sym (mark-free c.get-target.result w.if-target.true))
  | else-target w ↦ marks-more c.args.row.now _ _ c.loop-i.i _ _ c.loop-i.invariant c.get-target.ensures c.in_ok-push.ensures.ok (w.push-is ∙ sym (mark-taken c.get-target.result w.if-target.false))
]
