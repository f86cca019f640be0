use Rattle.std.proofs.Common.{ap}
use Rattle.indexmap.specs.IndexMap.{get}
use Rattle.pliron_opt_sccp.specs.Feasible.{holds}
use Rattle.pliron_laws.specs.Tree.{is_one_key}
use Rattle.pliron_opt_sccp.proofs.feasible_edges.FeasibleEdges.keep_named.Goals as goal

pub returns-clause-ok : goal.returns-clause-ok
returns-clause-ok g c = λ k b. ap (λ m. holds (get is_one_key m k) b) c.in_ok-count.ensures.ok

pub returns-then-branch-le-FEW_VISITS-clause-ok : goal.returns-then-branch-le-FEW_VISITS-clause-ok
returns-then-branch-le-FEW_VISITS-clause-ok g c = λ k b. ap (λ m. holds (get is_one_key m k) b) c.in_ok-count.ensures.ok
