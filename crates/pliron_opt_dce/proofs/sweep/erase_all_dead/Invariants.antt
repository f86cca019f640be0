use Rattle.std.proofs.Common.{◌↔◌, List, IsTrue}
use Rattle.pliron_theory.specs.Edges.{KeepsEdges}
use Rattle.pliron_opt_dce.specs.Dead.{Item}
use Rattle.pliron_opt_dce.specs.Erasing.{IsSweptSoFar, ReportsErased, SomeHasRegions}
use Rattle.pliron_opt_dce.specs.Incoming.{incoming_of, AreKnown}
use Rattle.pliron_opt_dce.specs.Measures.{things}
use Rattle.pliron_opt_dce.specs.Predecessors.{mark_of_block, AreMarked}
use Rattle.pliron_opt_dce.specs.Worklist.{pending_candidates, HasReady, AreClosedUnderNesting}
use Rattle.pliron_opt_dce.proofs.sweep.erase_all_dead.Given as goal

abbrev pub invariant-loop-next : goal.invariant-loop-next
invariant-loop-next g l = record {
  way : (deleted : List Item) × IsSweptSoFar g.D.HasMeaning.meaning g.D.Dialect.shortened g.D.SideEffects.side_effects g.D.BlockArgRemoval.removable l.fn.ctx.tree l.ctx.tree l.root deleted × ReportsErased deleted l.status × (IsTrue l.regions ↔ SomeHasRegions l.fn.ctx.tree deleted);
  edges : (IsTrue l.regions → ⊥) → KeepsEdges l.fn.ctx.tree l.ctx.tree;
  all : HasReady g.D.HasMeaning.meaning g.D.SideEffects.side_effects g.D.BlockArgRemoval.removable l.ctx.tree l.root (pending_candidates l.state.worklist);
  closed : AreClosedUnderNesting l.ctx.tree l.state.worklist.around.ops.items;
  known : AreKnown g.D.HasMeaning.meaning l.ctx.tree l.root (λ b. incoming_of l.state.incoming b);
  marked : AreMarked g.D.HasMeaning.meaning l.ctx.tree l.root (λ b. mark_of_block l.predecessors b);
}

abbrev pub decreases-loop-next : goal.decreases-loop-next
decreases-loop-next g l = things l.ctx.tree
