use Rattle.std.proofs.Common.{take}
use Rattle.pliron_graph_order.specs.Numbering.{tables_of, AreTaken, NumbersGrow, IsLeftAt, IsNumbering}
use Rattle.pliron_graph_order.proofs.walk.add_block.Given as goal

abbrev pub invariant-loop-op : goal.invariant-loop-op
invariant-loop-op l = record {
  numbered : IsNumbering l.ctx.tree (tables_of l.numbering);
  grows : NumbersGrow (tables_of l.fn.numbering) (tables_of l.numbering);
  left : IsLeftAt l.ctx.tree (tables_of l.numbering) l.fn.block (take l.op-index l.op-items) l.now;
  taken : AreTaken l.ctx.tree (tables_of l.numbering) (take l.op-index l.op-items);
}
