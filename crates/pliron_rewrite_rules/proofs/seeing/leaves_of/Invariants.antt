use Rattle.std.proofs.Common.{◌≡◌, map, take}
use Rattle.pliron_core.specs.Tree.{operands_of}
use Rattle.pliron_rewrite_rules.specs.Seen.{leaf_of}
use Rattle.pliron_rewrite_rules.proofs.ShownLemmas.{tables}
use Rattle.pliron_rewrite_rules.proofs.seeing.leaves_of.Given as goal

abbrev pub invariant-loop-i : goal.invariant-loop-i
invariant-loop-i g l = l.leaves.items ≡ map (leaf_of (tables g.D.HasMeaning.meaning g.D.SideEffects.side_effects g.D.ConstFoldInterface.can_fold g.D.ConstFoldInterface.constants g.D.ConstFoldInterface.accepts g.D.ConstFoldInterface.constant_head) l.ctx.tree) (take l.i (operands_of l.ctx.tree l.op))
