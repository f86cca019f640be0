use Rattle.pliron_graph_components.proofs.ReverseLawLemmas as laws
use Rattle.pliron_graph_components.proofs.laws.sentinel_reaches_all.Goals as goal

pub returns : goal.returns
returns g c = λ graph starts lawful are v h. laws.all_reached g.N.PartialEq.eq g.met.N.Eq.laws.refl graph lawful starts are v h
