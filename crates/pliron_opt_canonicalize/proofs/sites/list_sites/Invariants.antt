use Rattle.pliron_opt_canonicalize.specs.Sites.{AreSitesOf}
use Rattle.pliron_opt_canonicalize.proofs.sites.list_sites.Given as goal

abbrev pub invariant-loop-place : goal.invariant-loop-place
invariant-loop-place l = AreSitesOf l.ctx.tree l.ops l.place l.sites.items
