use Rattle.pliron_graph_components.proofs.ReverseLawLemmas as laws
use Rattle.pliron_graph_components.proofs.laws.no_pre_sentinel_is_spare.Goals as goal

pub returns : goal.returns
returns g c = λ graph before after v lawful are r. laws.none_spare g.N.PartialEq.eq g.met.N.Eq.laws.refl graph lawful before after v are r
