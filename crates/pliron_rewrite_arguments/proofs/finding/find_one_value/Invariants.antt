use Rattle.pliron_core.specs.Tree.{uses_of}
use Rattle.pliron_rewrite_arguments.specs.Finding.{AreOneSoFar}
use Rattle.pliron_rewrite_arguments.proofs.finding.find_one_value.Given as goal

abbrev pub invariant-loop-i : goal.invariant-loop-i
invariant-loop-i g l = AreOneSoFar g.D.HasMeaning.meaning l.ctx.tree (uses_of l.ctx.block_uses l.block) l.index l.argument l.found l.i
