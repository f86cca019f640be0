use Rattle.pliron_opt_edges.specs.MoveSteps.{branches_within, IsMoving}
use Rattle.pliron_opt_edges.proofs.moving.move_all.Given as goal

abbrev pub invariant-loop-i : goal.invariant-loop-i
invariant-loop-i g l = IsMoving g.D.HasMeaning.meaning l.fn.root l.fn.ctx.tree (branches_within g.D.HasMeaning.meaning.is_branch l.fn.ctx.tree l.fn.root) l.i l.status l.ctx.tree
