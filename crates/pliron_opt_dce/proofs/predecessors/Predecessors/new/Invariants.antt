use Rattle.pliron_opt_dce.specs.Predecessors.{mark_of_block, AreMarked}
use Rattle.pliron_opt_dce.proofs.predecessors.Predecessors.new.Given as goal

abbrev pub invariant-loop-block : goal.invariant-loop-block
invariant-loop-block g l = AreMarked g.D.HasMeaning.meaning l.ctx.tree l.root (λ b. mark_of_block l.known b)
