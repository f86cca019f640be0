use Rattle.pliron_graph_components.proofs.LawLemmas as laws
use Rattle.pliron_graph_components.proofs.laws.back_edge_on_cycle.Goals as goal

pub returns : goal.returns
returns g c = λ graph roots o lawful search. laws.back_edge_on_cycle g.N.PartialEq.eq g.met.N.Eq.laws.refl graph roots o lawful search
