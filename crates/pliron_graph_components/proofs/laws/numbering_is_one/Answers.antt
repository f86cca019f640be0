use Rattle.pliron_graph_components.proofs.OneNumberingLemmas as numbers
use Rattle.pliron_graph_components.proofs.OneOrderLemmas as orders
use Rattle.pliron_graph_components.proofs.laws.numbering_is_one.Goals as goal

pub returns-clause-numbers : goal.returns-clause-numbers
returns-clause-numbers g c = λ graph roots pre post pre' post' count count' d d'. (
  numbers.same_count graph roots pre post pre' post' count count' d d',
  λ v h. (numbers.same_pre graph roots pre post pre' post' count count' d d' v h, numbers.same_post graph roots pre post pre' post' count count' d d' v h),
)

pub returns-clause-orders : goal.returns-clause-orders
returns-clause-orders g c = λ graph roots o o' lawful s s'. orders.one_search g.N.PartialEq.eq g.met.N.Eq.laws.refl graph roots o o' lawful s s'

pub returns-clause-walks : goal.returns-clause-walks
returns-clause-walks g c = λ graph walks walks' lawful are are'. orders.one_walks g.N.PartialEq.eq g.met.N.Eq.laws.refl graph lawful walks walks' are are'
