use Rattle.std.proofs.Common.{ℕ, vec_len}
use Rattle.pliron_core.specs.Tree.{Tree}
use Rattle.pliron_rewrite_rules.specs.Putting.{AreErasable}
use Rattle.pliron_rewrite_rules.proofs.ShownLemmas.{tables}
use Rattle.pliron_rewrite_rules.proofs.terms.erase_all.Given as goal

abbrev pub invariant-loop-last : goal.invariant-loop-last
invariant-loop-last g l =
    let x = tables g.D.HasMeaning.meaning g.D.SideEffects.side_effects g.D.ConstFoldInterface.can_fold g.D.ConstFoldInterface.constants g.D.ConstFoldInterface.accepts g.D.ConstFoldInterface.constant_head in
    (op : ℕ) (t : Tree) → AreErasable x op t l.fn.made.items l.fn.ctx.tree → AreErasable x op t l.made.items l.ctx.tree

abbrev pub decreases-loop-last : goal.decreases-loop-last
decreases-loop-last g l = vec_len l.made
