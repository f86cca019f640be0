use Rattle.pliron_graph_traversal.specs.Internal.Membership.{in_from}
use Rattle.pliron_graph_components.proofs.WalkLawLemmas as laws
use Rattle.pliron_graph_components.proofs.laws.edge_between_walks.Goals as goal

pub returns : goal.returns
returns g c = λ graph walks lawful are i j a b at_a at_b u v hu hv e. laws.between_walks g.N.PartialEq.eq g.met.N.Eq.laws.refl graph walks lawful are i j a b at_a at_b u v (in_from a u hu) (in_from b v hv) e
