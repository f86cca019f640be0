use Rattle.std.proofs.Common.{◌≡◌, ℕ, vec_len}
use Rattle.pliron_core.specs.Tree.{Tree}
use Rattle.pliron_laws.specs.MaterialisedConstants.{ArePutBefore, IsRestored}
use Rattle.pliron_laws.proofs.materialised_constants.erase_all.Given as goal

abbrev pub invariant-loop-last : goal.invariant-loop-last
invariant-loop-last g l = record {
  restored : (op : ℕ) (t u : Tree) → ArePutBefore op t l.fn.made.items u → IsRestored u l.fn.ctx.tree → (v : Tree) × ArePutBefore op t l.made.items v × IsRestored v l.ctx.tree;
  point : g.R.Rewriter.point l.rewriter ≡ g.R.Rewriter.point l.fn.rewriter;
}

abbrev pub decreases-loop-last : goal.decreases-loop-last
decreases-loop-last g l = vec_len l.made
