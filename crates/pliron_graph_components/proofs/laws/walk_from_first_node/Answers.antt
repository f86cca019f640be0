use Rattle.pliron_graph_components.proofs.WalkLawLemmas as laws
use Rattle.pliron_graph_components.proofs.laws.walk_from_first_node.Goals as goal

pub returns : goal.returns
returns g c = λ graph walks lawful are i walk at. laws.from_first_node g.N.PartialEq.eq g.met.N.Eq.laws.refl graph walks lawful are i walk at
