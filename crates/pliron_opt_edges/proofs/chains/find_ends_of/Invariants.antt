use Rattle.pliron_core.specs.Tree.{successors_of}
use Rattle.pliron_opt_edges.specs.Ends.{AreEndsFound}
use Rattle.pliron_opt_edges.proofs.chains.find_ends_of.Given as goal

abbrev pub invariant-loop-j : goal.invariant-loop-j
invariant-loop-j g l = AreEndsFound g.D.HasMeaning.meaning.is_branch l.fn.ctx.tree l.fn.ends l.ends (successors_of l.fn.ctx.tree l.fn.op) l.j
