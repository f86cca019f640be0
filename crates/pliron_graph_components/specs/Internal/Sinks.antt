-- Pre-sentinels with the components that they are of, which contracts inside the crate cite.
use Rattle.std.specs.Prelude.{Bool, List}
use Rattle.pliron_graph_traversal.specs.Digraph.{Digraph}
use Rattle.pliron_graph_components.specs.Reverse.{AreLastOfSinks}
use Rattle.pliron_graph_components.specs.Internal.Collecting.{AreNumberedComponents}
use Rattle.pliron_graph_components.specs.declared.components.Scc.{Scc}

-- the last listed node of each sink among the components of a search
pub record AreFoundSinks {N : Type 0} (eq : N → N → Bool) (g : Digraph N) (starts : List N) : Type 0 where
  pub components : List (Scc N)
  pub numbered : AreNumberedComponents eq g components
  pub last : AreLastOfSinks eq g components starts
