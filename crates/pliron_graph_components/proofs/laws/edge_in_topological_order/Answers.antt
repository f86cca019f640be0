use Rattle.pliron_graph_traversal.specs.Internal.Membership.{in_from}
use Rattle.pliron_graph_components.proofs.WalkLawLemmas as laws
use Rattle.pliron_graph_components.proofs.laws.edge_in_topological_order.Goals as goal

pub returns : goal.returns
returns g c = λ graph walks lawful are walk member u v hu hv e. laws.in_topological_order g.N.PartialEq.eq g.met.N.Eq.laws.refl graph walks lawful are walk member u v (in_from walk u hu) (in_from walk v hv) e
