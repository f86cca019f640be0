use Rattle.std.specs.Prelude.{All}
use Rattle.pliron_opt_rotate.specs.Made.{IsYounger}
use Rattle.pliron_opt_rotate.proofs.Whole.{IsRotating}
use Rattle.pliron_opt_rotate.proofs.rotate_all.Given as goal

abbrev pub invariant-loop-i : goal.invariant-loop-i
invariant-loop-i g l = record {
  rotating : IsRotating g.D.HasMeaning.meaning l.fn.ctx.tree l.ctx.tree l.op l.status;
  younger : All IsYounger l.loops.values.items;
}
