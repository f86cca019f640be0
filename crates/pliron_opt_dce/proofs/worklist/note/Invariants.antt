use Rattle.std.proofs.Common.{take}
use Rattle.pliron_opt_dce.specs.Dead.{Item}
use Rattle.pliron_opt_dce.specs.Readiness.{Among, AreRevisited}
use Rattle.pliron_opt_dce.specs.Worklist.{items_of, pending_candidates, AreClosedUnderNesting}
use Rattle.pliron_opt_dce.proofs.worklist.note.Given as goal

abbrev pub invariant-loop-value : goal.invariant-loop-value
invariant-loop-value l = record {
  kept : (x : Item) → Among x (items_of (pending_candidates l.initial.worklist)) → Among x (items_of (pending_candidates l.worklist));
  revisited : AreRevisited l.ctx.tree (take l.value-index l.used) (items_of (pending_candidates l.worklist));
  closed : AreClosedUnderNesting l.ctx.tree l.worklist.around.ops.items;
}
