use Rattle.pliron_opt_edges.specs.Ends.{IsOnChain}
use Rattle.pliron_opt_edges.proofs.chains.walk.Given as goal

abbrev pub invariant-steps : goal.invariant-steps
invariant-steps g l = IsOnChain g.D.HasMeaning.meaning.is_branch l.fn.ctx.tree l.fn.ends l.ends l.path.items l.fn.from l.at
