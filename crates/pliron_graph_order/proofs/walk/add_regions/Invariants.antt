use Rattle.std.proofs.Common.{ℕ, take}
use Rattle.pliron_core.specs.Tree.{In, regions_of}
use Rattle.pliron_graph_order.specs.Numbering.{tables_of, NumbersGrow, IsNumbering}
use Rattle.pliron_graph_order.proofs.walk.add_regions.Given as goal

abbrev pub invariant-loop-i : goal.invariant-loop-i
invariant-loop-i l = record {
  numbered : IsNumbering l.ctx.tree (tables_of l.numbering);
  grows : NumbersGrow (tables_of l.fn.numbering) (tables_of l.numbering);
  all : (q : ℕ) → In q (take l.i (regions_of l.ctx.tree l.op)) → In q (tables_of l.numbering).regions;
}
