use Rattle.pliron_graph_components.proofs.ComponentLawLemmas as laws
use Rattle.pliron_graph_components.proofs.laws.edge_between_components.Goals as goal

pub returns : goal.returns
returns g c = λ graph components lawful are i j a b at_a at_b u v hu hv e. laws.between_components g.N.PartialEq.eq graph components are i j a b at_a at_b u v hu hv e
