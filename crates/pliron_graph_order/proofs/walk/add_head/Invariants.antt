use Rattle.std.proofs.Common.{ℕ, take}
use Rattle.pliron_core.specs.Tree.{In, regions_of}
use Rattle.pliron_graph_order.specs.Numbering.{tables_of, NumbersGrow, IsNumbering}
use Rattle.pliron_graph_order.proofs.walk.add_head.Given as goal

abbrev pub invariant-loop-op : goal.invariant-loop-op
invariant-loop-op l = record {
  numbered : IsNumbering l.ctx.tree (tables_of l.numbering);
  grows : NumbersGrow (tables_of l.fn.numbering) (tables_of l.numbering);
  all : (k q : ℕ) → In k (take l.op-index l.op-items) → In q (regions_of l.ctx.tree k) → In q (tables_of l.numbering).regions;
}
