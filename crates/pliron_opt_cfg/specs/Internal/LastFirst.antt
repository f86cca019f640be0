-- The graph of a region with the successors of each block taken the last first.
use Rattle.std.proofs.Common.{◌≡◌, ℕ, ◌<◌, ◌-◌, Bool, true, List, [], ◌∷◌, length, reverse, Some, None, ap, ◌∙◌, subst, arith, Contains, get_or}
use Rattle.std.specs.List.{slice_get}
use Rattle.std.proofs.lemmas.List.{get_or-reverse, length-reverse, reverse-reverse}
use Rattle.std.proofs.lemmas.Option.{slice_get-get_or, get_or_from_slice_get}
use Rattle.pliron_core.specs.Tree.{Tree, first_of, layout_of}
use Rattle.pliron_core.specs.Edges.{succs_of, preds_of}
use Rattle.pliron_graph_traversal.specs.Digraph.{Digraph, IsLawful, IsPath, Reaches}
use Rattle.pliron_graph_traversal.specs.Regions.{graph_of_region, IsLawfulRegion}
use Rattle.pliron_graph_traversal.specs.Internal.RegionLawful.{region_lawful}

abbrev pub last_first : Tree → ℕ → Digraph ℕ
last_first t region = record {
  nodes = layout_of t region;
  entry = first_of (layout_of t region) None;
  succ = λ b. reverse (succs_of t b);
  pred = λ b. preds_of t b;
}

-- the item of a reversed list at an index
pub reversed_at : (xs : List ℕ) (i x : ℕ) → i < length xs → slice_get xs (length xs - 1 - i) ≡ Some x → slice_get (reverse xs) i ≡ Some x
reversed_at xs i x lt e =
    let there : i < length (reverse xs) = omega (arith, lt, length-reverse xs) in
    slice_get-get_or (reverse xs) i x there ∙ ap (λ z. Some z) (get_or-reverse xs i x lt ∙ get_or_from_slice_get xs (length xs - 1 - i) x x e)

-- a reversed list has the same items
pub reversed_has : (xs : List ℕ) (v : ℕ) → Contains xs v → Contains (reverse xs) v
reversed_has xs v (k, l, e) =
    let at : length xs - 1 - k < length xs = omega (arith, l) in
    let back : length xs - 1 - (length xs - 1 - k) ≡ k = omega (arith, l) in
    (length xs - 1 - k, omega (arith, at, length-reverse xs), get_or-reverse xs (length xs - 1 - k) v at ∙ ap (λ z. get_or xs z v) back ∙ e)

pub has_reversed : (xs : List ℕ) (v : ℕ) → Contains (reverse xs) v → Contains xs v
has_reversed xs v i = subst (λ z. Contains z v) (reverse-reverse xs) (reversed_has (reverse xs) v i)

pub last_first_lawful : (t : Tree) (r : ℕ) → IsLawfulRegion t r → (eq : ℕ → ℕ → Bool) → ((x y : ℕ) → eq x y ≡ true → x ≡ y) → IsLawful eq (last_first t r)
last_first_lawful t r h eq same =
    let l = region_lawful t r h eq same in
    record {
      same = same;
      distinct = l.distinct;
      entry_in = l.entry_in;
      succ_in = λ u v a s. l.succ_in u v a (has_reversed (succs_of t u) v s);
      pred_in = l.pred_in;
      inverse = λ u v a c. let i = l.inverse u v a c in (λ p. reversed_has (succs_of t u) v (i.0 p), λ s. i.1 (has_reversed (succs_of t u) v s));
    }

-- the same blocks are reached
forth : (t : Tree) (r u : ℕ) (ws : List ℕ) (v : ℕ) → IsPath (last_first t r) u ws v → IsPath (graph_of_region t r) u ws v
forth t r u [] v p = p
forth t r u (w ∷ ws) v p = (has_reversed (succs_of t u) w p.0, forth t r w ws v p.1)

back : (t : Tree) (r u : ℕ) (ws : List ℕ) (v : ℕ) → IsPath (graph_of_region t r) u ws v → IsPath (last_first t r) u ws v
back t r u [] v p = p
back t r u (w ∷ ws) v p = (reversed_has (succs_of t u) w p.0, back t r w ws v p.1)

pub reached_alike : (t : Tree) (r u v : ℕ) → Reaches (last_first t r) u v → Reaches (graph_of_region t r) u v
reached_alike t r u v p = (p.0, forth t r u p.0 v p.1)

pub alike_reached : (t : Tree) (r u v : ℕ) → Reaches (graph_of_region t r) u v → Reaches (last_first t r) u v
alike_reached t r u v p = (p.0, back t r u p.0 v p.1)
