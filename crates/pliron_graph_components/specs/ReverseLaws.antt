-- Laws of reverse graphs, which users rely on.
use Rattle.std.specs.Prelude.{◌++◌, ◌∷◌, Bool, List, Contains}
use Rattle.pliron_graph_traversal.specs.Digraph.{Digraph, IsLawful, Reaches}
use Rattle.pliron_graph_components.specs.Reverse.{ArePreSentinels, reverse_of}
use Rattle.pliron_graph_components.specs.declared.reverse_node.ReverseNode.TheVariants.{Sentinel, Real}

module _ {N : Type 0} (eq : N → N → Bool) where
  -- the sentinel reaches every node
  abbrev pub SentinelReachesAll : Type 0
  SentinelReachesAll = (g : Digraph N) (starts : List N) → IsLawful eq g → ArePreSentinels eq g starts
      → (v : N) → Contains g.nodes v → Reaches (reverse_of eq g starts) Sentinel (Real v)

  -- the sentinel does not reach a pre-sentinel that is left out
  abbrev pub NoPreSentinelIsSpare : Type 0
  NoPreSentinelIsSpare = (g : Digraph N) (before after : List N) (v : N) → IsLawful eq g → ArePreSentinels eq g (before ++ v ∷ after)
      → Reaches (reverse_of eq g (before ++ after)) Sentinel (Real v) → ⊥
