use Rattle.std.proofs.Common.{◌≡◌, ℕ, ◌<◌, length, get_or}
use Rattle.pliron_core.specs.Tree.{body_of}
use Rattle.pliron_graph_order.specs.Numbering.{tables_of, AreTaken, NumbersGrow, IsLeftAt, IsNumbering}
use Rattle.pliron_graph_order.proofs.walk.add_blocks.Given as goal

abbrev pub invariant-loop-number : goal.invariant-loop-number
invariant-loop-number l = record {
  numbered : IsNumbering l.ctx.tree (tables_of l.numbering);
  grows : NumbersGrow (tables_of l.fn.numbering) (tables_of l.numbering);
  counted : length l.ends.items ≡ l.number;
  left : (k : ℕ) → k < l.number → IsLeftAt l.ctx.tree (tables_of l.numbering) (get_or l.tree.nodes k 0) (body_of l.ctx.tree (get_or l.tree.nodes k 0)) (get_or l.ends.items k 0);
  taken : (k : ℕ) → k < l.number → AreTaken l.ctx.tree (tables_of l.numbering) (body_of l.ctx.tree (get_or l.tree.nodes k 0));
}
