-- What a reverse graph keeps, read at a node.
use Rattle.std.proofs.Common.{◌≡◌, ℕ, Bool, true, false, List, [], ◌∷◌, Some, length, refl, sym, ◌∙◌, ap, subst, inl, inr, Contains, map, slice_get, true≢false, cond, ◌||◌}
use Rattle.std.specs.List.{list_any}
use Rattle.std.specs.Option.{option_map}
use Rattle.std.specs.List.{find}
use Rattle.std.proofs.lemmas.List.{length-map}
use Rattle.std.proofs.lemmas.List.Folds.{find_at}
use Rattle.std.proofs.lemmas.Option.{slice_get-map}
use Rattle.pliron_graph_traversal.specs.Digraph.{Digraph}
use Rattle.pliron_graph_traversal.specs.Search.{IsListed, number_in}
use Rattle.pliron_graph_components.specs.Reverse.{Reversed, FitsReversal, reverse_pred}
use Rattle.pliron_graph_components.specs.declared.reverse_node.ReverseNode.{ReverseNode}
use Rattle.pliron_graph_components.specs.declared.reverse_node.ReverseNode.TheVariants.{Sentinel, Real}
use Rattle.pliron_graph_traversal.specs.Internal.Membership.{HasMember, in_from, contains_from, any_from_in}
use Rattle.pliron_graph_components.specs.Internal.ReverseLawful.{real_in}

-- a node that stands behind the sentinel is a node
pub real_node : {N : Type 0} (nodes : List N) (r : ReverseNode N) (v : N) → r ≡ Real v → Contains (Sentinel ∷ map Real nodes) r → Contains nodes v
real_node nodes r v e h = contains_from nodes v (by (in_from (Sentinel ∷ map Real nodes) (Real v) (subst (Contains (Sentinel ∷ map Real nodes)) e h)))
  where
    by : HasMember (Sentinel ∷ map Real nodes) (Real v) → HasMember nodes v
    by (inl s) = absurd (cc)
    by (inr i) = real_in nodes v i

-- the item at a place, where the list is mapped
pub mapped_at : {A B : Type 0} (f : A → B) (xs : List A) (i : ℕ) (x : A) → slice_get xs i ≡ Some x → slice_get (map f xs) i ≡ Some (f x)
mapped_at f xs i x e = slice_get-map f xs i ∙ ap (option_map f) e

module _ {N : Type 0} (eq : N → N → Bool) (same : (x y : N) → eq x y ≡ true → x ≡ y) (reflexive : (x : N) → eq x x ≡ true) where
  pub listed_node : (nodes : List N) (v : N) → Contains nodes v → list_any (eq v) nodes ≡ true
  listed_node nodes v h = any_from_in eq same reflexive nodes v (in_from nodes v h)

  found_listed : (nodes : List N) (v : N) → list_any (eq v) nodes ≡ true → find (eq v) nodes ≡ Some v
  found_listed [] v h = absurd (true≢false (sym h))
  found_listed (x ∷ xs) v h = by (eq v x) refl h (found_listed xs v)
    where
      by : (b : Bool) → eq v x ≡ b → (b || list_any (eq v) xs) ≡ true → (list_any (eq v) xs ≡ true → find (eq v) xs ≡ Some v) → cond b (Some x) (find (eq v) xs) ≡ Some v
      by true e k rest = ap Some (sym (same v x e))
      by false e k rest = rest k

  -- the item of a mapped list at the place of v is that of v
  pub mapped_place : {B : Type 0} (f : N → B) (nodes : List N) (v : N) → list_any (eq v) nodes ≡ true → slice_get (map f nodes) (number_in eq nodes v) ≡ Some (f v)
  mapped_place f nodes v h = mapped_at f nodes (number_in eq nodes v) v (sym (find_at (eq v) nodes) ∙ found_listed nodes v h)

  module _ {G : Type 0} (g : Digraph N) (r : Reversed G N) (fits : FitsReversal eq g r) (node : ReverseNode N) (v : N) (is : node ≡ Real v) (member : Contains (Sentinel ∷ map Real g.nodes) node) where
    pub kept_node : IsListed eq r.nodes v
    kept_node = rw fits.same_nodes (listed_node g.nodes v (real_node g.nodes node v is member))

    pub kept_length : length r.predecessors ≡ length r.nodes
    kept_length = rw (fits.same_predecessors, fits.same_nodes) (length-map g.nodes (λ v'. reverse_pred eq g r.pre_sentinels (Real v')))

    -- the list that is kept of a node
    pub kept_list : (list : List (ReverseNode N)) → slice_get r.predecessors (number_in eq r.nodes v) ≡ Some list → list ≡ reverse_pred eq g r.pre_sentinels node
    kept_list list e =
        let at : slice_get (map (λ x. reverse_pred eq g r.pre_sentinels (Real x)) g.nodes) (number_in eq g.nodes v) ≡ Some (reverse_pred eq g r.pre_sentinels (Real v)) =
        mapped_place (λ x. reverse_pred eq g r.pre_sentinels (Real x)) g.nodes v (listed_node g.nodes v (real_node g.nodes node v is member)) in
        let here : Some list ≡ Some (reverse_pred eq g r.pre_sentinels (Real v)) = sym e ∙ rw (fits.same_predecessors, fits.same_nodes) at in
        rw is (cc here)
