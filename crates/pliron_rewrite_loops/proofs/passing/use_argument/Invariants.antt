use Rattle.std.proofs.Common.{◌≡◌, ◌≢◌, ℕ, ◌<◌, List, length, Some, slice_get}
use Rattle.pliron_core.specs.Tree.{Tree, In, operands_of}
use Rattle.pliron_rewrite_loops.specs.Passing.{UsesArgument}
use Rattle.pliron_rewrite_loops.proofs.passing.use_argument.Given as goal

abbrev pub invariant-loop-i : goal.invariant-loop-i
invariant-loop-i l = record {
  tree : l.ctx.tree ≡ record l.fn.ctx.tree { operands = l.ctx.tree.operands };
  table : length l.ctx.tree.operands ≡ length l.fn.ctx.tree.operands;
  count : length (operands_of l.ctx.tree l.op) ≡ length (operands_of l.fn.ctx.tree l.op);
  others : (k : ℕ) → k ≢ l.op → operands_of l.ctx.tree k ≡ operands_of l.fn.ctx.tree k;
  used : (t : Tree) (users : List ℕ) → In l.op users → UsesArgument t l.fn.ctx.tree users l.value l.argument → UsesArgument t l.ctx.tree users l.value l.argument;
  done : (j : ℕ) → j < l.i → slice_get (operands_of l.ctx.tree l.op) j ≢ Some l.value;
}
