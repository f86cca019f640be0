use Rattle.pliron_graph_components.proofs.WalkLawLemmas as laws
use Rattle.pliron_graph_components.proofs.laws.edge_in_post_order.Goals as goal

pub returns : goal.returns
returns g c = λ graph walks lawful are u v hu e. laws.in_post_order g.N.PartialEq.eq g.met.N.Eq.laws.refl graph walks lawful are u v hu e
