use Rattle.std.proofs.Common.{ℕ, ◌<◌, ◌≤◌, length, get_or}
use Rattle.pliron_graph_order.specs.Numbering.{tables_of, NumbersGrow, IsDone, IsNumbering}
use Rattle.pliron_graph_order.proofs.walk.add_all.Given as goal

abbrev pub invariant-loop-i : goal.invariant-loop-i
invariant-loop-i l = record {
  numbered : IsNumbering l.ctx.tree (tables_of l.numbering);
  grows : NumbersGrow (tables_of l.fn.numbering) (tables_of l.numbering);
  low : l.i ≤ length (tables_of l.numbering).regions;
  done : (k : ℕ) → k < l.i → IsDone l.ctx.tree (tables_of l.numbering) (get_or (tables_of l.numbering).regions k 0);
}
