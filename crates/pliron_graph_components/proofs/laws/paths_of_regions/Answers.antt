use Rattle.pliron_graph_components.proofs.PathLemmas.{path_reaches, reaches_path}
use Rattle.pliron_graph_components.proofs.laws.paths_of_regions.Goals as goal

pub returns : goal.returns
returns c = λ t region lawful a b member. (λ p. path_reaches t region lawful a b p.0 p.1, λ q. reaches_path t region lawful a b member q)
