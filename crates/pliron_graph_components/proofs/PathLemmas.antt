-- Paths of the meaning between the blocks of a region, and paths of the region as a graph.
use Rattle.std.proofs.Common.{ℕ, List, [], ◌∷◌, refl, sym, ◌∙◌, subst, Contains}
use Rattle.pliron_core.specs.Tree.{Tree, layout_of}
use Rattle.pliron_core.specs.Edges.{succs_of}
use Rattle.pliron_laws.specs.Paths.{Path}
use Rattle.pliron_graph_traversal.specs.Digraph.{IsPath, Reaches}
use Rattle.pliron_graph_traversal.specs.Regions.{graph_of_region, IsLawfulRegion}
use Rattle.pliron_graph_traversal.specs.Internal.RegionLawful.{in_keys, keys_have, same_key, owned, region_lawful}
use Rattle.pliron_graph_traversal.proofs.RegionLemmas.{key_eq}
use Rattle.pliron_graph_components.proofs.LawLemmas.{reaches_step}

module _ (t : Tree) (r : ℕ) (h : IsLawfulRegion t r) where
  pub path_reaches : (a b : ℕ) (before : List ℕ) → Path t a b before → Reaches (graph_of_region t r) a b
  path_reaches a b [] p = ([], p)
  path_reaches a b (c ∷ before) p = reaches_step (graph_of_region t r) a c b (path_reaches a c before p.1) (keys_have (succs_of t c) b p.0.successor)

  continues : (a m b : ℕ) (ws before : List ℕ) → Contains (layout_of t r) m → Path t a m before → IsPath (graph_of_region t r) m ws b → (xs : List ℕ) × Path t a b xs
  continues a m b [] before c p e = (before, subst (λ z. Path t a z before) e p)
  continues a m b (w ∷ ws) before c p e =
      let next : Contains (layout_of t r) w = (region_lawful t r h key_eq same_key).succ_in m w c e.0 in
      continues a w b ws (m ∷ before) next (record { successor = in_keys (succs_of t m) w e.0; same_region = owned t r h w next ∙ sym (owned t r h m c) }, p) e.1

  pub reaches_path : (a b : ℕ) → Contains (layout_of t r) a → Reaches (graph_of_region t r) a b → (before : List ℕ) × Path t a b before
  reaches_path a b c q = continues a a b q.0 [] c refl q.1
