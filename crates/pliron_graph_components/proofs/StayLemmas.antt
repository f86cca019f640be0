-- Components that no edge leaves.
use Rattle.std.proofs.Common.{◌≡◌, ℕ, ◌<◌, ◌≤◌, ◌↔◌, Bool, List, length, get_or, subst, Contains}
use Rattle.std.specs.List.{All}
use Rattle.std.proofs.lemmas.List.Elements.{All-contains, Contains-get_or}
use Rattle.pliron_graph_traversal.specs.Digraph.{Digraph, IsLawful}
use Rattle.pliron_graph_traversal.specs.Search.{number_in}
use Rattle.pliron_graph_components.specs.Reverse.{IsSink, IsLastListed}

module _ {N : Type 0} (eq : N → N → Bool) (g : Digraph N) (lawful : IsLawful eq g) where
  -- nodes that are told from others are a sink exactly if all that is led to from them is told to be of them
  pub sink_by_test : (P : N → Type 0) (members : List N) → All (λ v. Contains g.nodes v) members → ((v : N) → Contains g.nodes v → (P v ↔ Contains members v)) → (All (λ u. All P (g.succ u)) members ↔ IsSink g members)
  sink_by_test P members inside decides = (
    λ h k d l m e n. (decides (get_or (g.succ (get_or members k d)) m e) (target k m d e l n)).0 (h k d l m e n),
    λ h k d l m e n. (decides (get_or (g.succ (get_or members k d)) m e) (target k m d e l n)).1 (h k d l m e n),
  )
    where
      target : (k m : ℕ) (d e : N) → k < length members → m < length (g.succ (get_or members k d)) → Contains g.nodes (get_or (g.succ (get_or members k d)) m e)
      target k m d e l n = lawful.succ_in (get_or members k d) (get_or (g.succ (get_or members k d)) m e) (inside k d l) (Contains-get_or (g.succ (get_or members k d)) m e n)

  pub last_in_graph : (nodes : List N) → nodes ≡ g.nodes → (members : List N) (r : N) → Contains members r → All (λ v. number_in eq nodes v ≤ number_in eq nodes r) members → IsLastListed eq g members r
  last_in_graph nodes same_nodes members r among last = (
    among,
    λ u h. All-contains (λ v. number_in eq g.nodes v ≤ number_in eq g.nodes r) members u (subst (λ ns. All (λ v. number_in eq ns v ≤ number_in eq ns r) members) same_nodes last) h,
  )
