use Rattle.pliron_core.specs.Tree.{results_of}
use Rattle.pliron_core.proofs.HoldingLemmas.{slice_in}
use Rattle.pliron_rewrite_equals.proofs.OperationDominance.{dominated_stands}
use Rattle.pliron_graph_order.proofs.SeenLemmas.{seen_inside}
use Rattle.pliron_opt_cse.proofs.uses_are_behind.Goals as goal

pub returns : goal.returns
returns c = λ m t root w d k v user seen seen_user made used.
    let at = slice_in (results_of t k) v made in
    dominated_stands t k at.0 user v (w.joined.results k at.0 v at.1) (d.dominated user v used (d.own_values user v (seen_inside t w root user seen_user) used))
