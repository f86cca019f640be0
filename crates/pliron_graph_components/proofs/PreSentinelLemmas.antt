-- How the pre-sentinels of a graph are found.
use Rattle.std.proofs.Common.{◌≡◌, ℕ, zero, suc, ◌+◌, ◌<◌, ◌≤◌, Bool, true, false, List, [], ◌∷◌, ◌++◌, Some, length, take, get_or, refl, sym, ◌∙◌, ap, subst, arith, inl, inr, ◌⊎◌, ◌↔◌, Contains, slice_get, length-append}
use Rattle.std.specs.List.{All, list_any, IsDistinct}
use Rattle.std.proofs.lemmas.List.{take_all, take_more}
use Rattle.std.proofs.lemmas.List.Elements.{All-more, All-get_or, All-contains, Contains-get_or, Contains-append_left, Contains-push, Contains-push_cases}
use Rattle.std.proofs.lemmas.Option.{slice_get_within, slice_get-get_or}
use Rattle.pliron_graph_traversal.specs.Digraph.{Digraph}
use Rattle.pliron_graph_traversal.specs.Search.{number_in}
use Rattle.pliron_graph_components.specs.Components.{AreComponents, Descends}
use Rattle.pliron_graph_components.specs.declared.components.Scc.{Scc}
use Rattle.pliron_graph_components.specs.Reverse.{IsSink, IsLastListed, IsInEarlier, AreLastOfSinks, ArePreSentinels}
use Rattle.pliron_graph_traversal.specs.Internal.Membership.{HasMember, contains_from, in_from, in_from_any, any_from_in}
use Rattle.pliron_graph_traversal.proofs.GrowthLemmas.{Distinct}
use Rattle.pliron_graph_traversal.proofs.PlaceLemmas.{is_distinct}
use Rattle.pliron_graph_traversal.proofs.ItemLemmas.{in_from_item, item_from_in}
use Rattle.pliron_graph_components.proofs.ItemLemmas.{item_left, item_right, item_at_place, place_within}

pub below_or_not : (m n : ℕ) → (m < n) ⊎ (n ≤ m)
below_or_not m n = grind arith

module _ {X : Type 0} (P : X → Type 0) (xs : List X) where
  pub all_more : (i : ℕ) (x : X) → i < length xs → x ≡ get_or xs i x → All P (take i xs) → P x → All P (take (i + 1) xs)
  all_more i x l e h p = All-more P xs i x l h (subst P e p)

  pub all_at : (i : ℕ) (x : X) → i < length xs → x ≡ get_or xs i x → All P xs → P x
  all_at i x l e h = subst P (sym e) (All-get_or P xs i x l h)

  pub all_end : (i : ℕ) → length xs ≤ i → All P (take i xs) → All P xs
  all_end i l h = subst (All P) (take_all i xs l) h

module _ {X : Type 0} where
  pub contains_item : (xs : List X) (x : X) → Contains xs x → (k : ℕ) × (slice_get xs k ≡ Some x)
  contains_item xs x h = (h.0, slice_get-get_or xs h.0 x h.1 ∙ ap Some h.2)

  pub item_of_take : (xs : List X) (i k : ℕ) (x : X) → slice_get (take i xs) k ≡ Some x → (k < i) × (slice_get xs k ≡ Some x)
  item_of_take [] zero k x e = absurd (cc e)
  item_of_take [] (suc i) k x e = absurd (cc e)
  item_of_take (y ∷ ys) zero k x e = absurd (cc e)
  item_of_take (y ∷ ys) (suc i) zero x e = (omega arith, e)
  item_of_take (y ∷ ys) (suc i) (suc k) x e = let r = item_of_take ys i k x e in (omega (arith, r.0), r.1)

  -- an item of a list that grew at its end is an old one, or the new one
  pub item_of_push : (xs : List X) (y : X) (k : ℕ) (x : X) → slice_get (xs ++ y ∷ []) k ≡ Some x → ((k < length xs) × (slice_get xs k ≡ Some x)) ⊎ ((k ≡ length xs) × (y ≡ x))
  item_of_push xs y k x e = elim (below_or_not k (length xs)) [
    | inl l ↦ inl (l, sym (item_left xs (y ∷ []) k l) ∙ e)
    | inr l ↦
        let end : k ≡ length xs = omega (arith, l, slice_get_within (xs ++ y ∷ []) k x e, length-append xs (y ∷ [])) in
        let new : Some y ≡ Some x = sym (item_right xs (y ∷ []) 0 k (omega (arith, end))) ∙ e in
        inr (end, cc new)
  ]

  pub item_pushed : (xs : List X) (y : X) → slice_get (xs ++ y ∷ []) (length xs) ≡ Some y
  item_pushed xs y = item_right xs (y ∷ []) 0 (length xs) (omega arith)

  pub item_kept : (xs : List X) (y : X) (k : ℕ) (x : X) → slice_get xs k ≡ Some x → slice_get (xs ++ y ∷ []) k ≡ Some x
  item_kept xs y k x e = item_left xs (y ∷ []) k (slice_get_within xs k x e) ∙ e

  pub item_contained : (xs : List X) (k : ℕ) (x : X) → slice_get xs k ≡ Some x → Contains xs x
  item_contained xs k x e = contains_from xs x (in_from_item xs k x e)

  none_in_empty : (x : X) → Contains [] x → ⊥
  none_in_empty x h = omega (arith, h.1)

module _ {N : Type 0} (eq : N → N → Bool) (same : (x y : N) → eq x y ≡ true → x ≡ y) (reflexive : (x : N) → eq x x ≡ true) where
  pub listed_contains : (xs : List N) (v : N) → list_any (eq v) xs ≡ true → Contains xs v
  listed_contains xs v h = contains_from xs v (in_from_any eq same reflexive xs v h)

  pub contains_listed : (xs : List N) (v : N) → Contains xs v → list_any (eq v) xs ≡ true
  contains_listed xs v h = any_from_in eq same reflexive xs v (in_from xs v h)

  apart_by_number : (number : N → ℕ) (xs : List N) → Descends number xs → Distinct xs
  apart_by_number number [] h = tt
  apart_by_number number (x ∷ xs) h = (
    λ i. let r = item_from_in xs x i in let low : number x < number x = h 0 (suc r.0) x x (omega arith) refl r.1 in omega (arith, low),
    apart_by_number number xs (λ i j u v l a b. h (suc i) (suc j) u v (omega (arith, l)) a b),
  )

  module _ (g : Digraph N) where
    -- of some nodes only one is the last in listed order
    pub last_once : (nodes : List N) (v w : N) → All (λ u. Contains g.nodes u) nodes → IsLastListed eq g nodes v → IsLastListed eq g nodes w → v ≡ w
    last_once nodes v w inside a b =
        let place : number_in eq g.nodes v ≡ number_in eq g.nodes w = omega (arith, a.1 w b.0, b.1 v a.0) in
        let node_v : HasMember g.nodes v = in_from g.nodes v (All-contains (λ u. Contains g.nodes u) nodes v inside a.0) in
        let node_w : HasMember g.nodes w = in_from g.nodes w (All-contains (λ u. Contains g.nodes u) nodes w inside b.0) in
        let at_v : slice_get g.nodes (number_in eq g.nodes v) ≡ Some v = item_at_place eq same reflexive g.nodes v (place_within eq same reflexive g.nodes v node_v) in
        let at_w : slice_get g.nodes (number_in eq g.nodes w) ≡ Some w = item_at_place eq same reflexive g.nodes w (place_within eq same reflexive g.nodes w node_w) in
        let one : Some v ≡ Some w = sym at_v ∙ ap (slice_get g.nodes) place ∙ at_w in
        cc one

    module _ (components : List (Scc N)) (are : AreComponents eq g components) where
      pub component_inside : (c : Scc N) → Contains components c → All (λ v. Contains g.nodes v) c.nodes.items
      component_inside c h = λ k d l. (are.covers (get_or c.nodes.items k d)).1 (c, h, Contains-get_or c.nodes.items k d l)

      pub component_distinct : (c : Scc N) → Contains components c → IsDistinct eq c.nodes.items
      component_distinct c h = is_distinct eq same c.nodes.items (apart_by_number (number_in eq are.orders.pre) c.nodes.items (are.members c h))

      -- no node stands in two components
      pub components_apart : (i j : ℕ) (c d : Scc N) (v : N) → i < j → slice_get components i ≡ Some c → slice_get components j ≡ Some d → Contains c.nodes.items v → Contains d.nodes.items v → ⊥
      components_apart i j c d v l at_c at_d hc hd =
          let in_c : Contains components c = item_contained components i c at_c in
          let in_d : Contains components d = item_contained components j d at_d in
          let first = are.ordered i j c d l at_c at_d in
          let both = (are.shares c v first.0 in_c hc).0 first.1 in
          let late : number_in eq are.orders.post first.0 < number_in eq are.orders.post first.0 = first.2 first.0 ((are.shares d v first.0 in_d hd).1 both) in
          omega (arith, late)

      -- a node of a component stands in none of the earlier ones, so it is no pre-sentinel of these
      pub last_is_new : (i : ℕ) (c : Scc N) (v : N) (starts : List N) → slice_get components i ≡ Some c → Contains c.nodes.items v → AreLastOfSinks eq g (take i components) starts → list_any (eq v) starts ≡ false
      last_is_new i c v starts at hv last = by (list_any (eq v) starts) refl
        where
          by : (b : Bool) → list_any (eq v) starts ≡ b → b ≡ false
          by true e =
              let from = (last.listed v).0 (listed_contains starts v e) in
              let item = contains_item (take i components) from.0 from.1 in
              let before = item_of_take components i item.0 from.0 item.1 in
              absurd (components_apart item.0 i from.0 c v before.0 before.1 at from.3.0 hv)
          by false e = refl

    pub starts_inside : (starts : List N) → ArePreSentinels eq g starts → All (λ v. Contains g.nodes v) starts
    starts_inside starts h = λ k d l.
        let v : N = get_or starts k d in
        let from = (h.2.listed v).0 (Contains-get_or starts k d l) in
        (h.1.covers v).1 (from.0, from.1, from.3.0)

    nothing_listed : (v : N) → Contains [] v ↔ ((c : Scc N) × Contains [] c × IsSink g c.nodes.items × IsLastListed eq g c.nodes.items v)
    nothing_listed v = ((λ h. absurd (none_in_empty v h)), (λ h. absurd (none_in_empty h.0 h.1)))

    pub nothing_yet : (starts : List N) → starts ≡ [] → AreLastOfSinks eq g [] starts
    nothing_yet starts e = subst (AreLastOfSinks eq g []) (sym e) (record { listed = nothing_listed; in_order = λ i j u v l a b. absurd (cc a) })

    earlier_still : (cs : List (Scc N)) (c : Scc N) (u v : N) → IsInEarlier eq g cs u v → IsInEarlier eq g (cs ++ c ∷ []) u v
    earlier_still cs c u v h = (h.0, h.1, h.2, h.3, h.4, item_kept cs c h.0 h.2 h.5, item_kept cs c h.1 h.3 h.6, h.7, h.8)

    -- a component that is no sink adds nothing
    pub passed_over : (cs : List (Scc N)) (c : Scc N) (starts : List N) → ((v : N) → IsSink g c.nodes.items → IsLastListed eq g c.nodes.items v → ⊥) → AreLastOfSinks eq g cs starts → AreLastOfSinks eq g (cs ++ c ∷ []) starts
    passed_over cs c starts none last = record {
      listed = λ v. (
        (λ h. let from = (last.listed v).0 h in (from.0, Contains-append_left cs (c ∷ []) from.0 from.1, from.2, from.3)),
        (λ h. elim (Contains-push_cases cs c h.0 h.1) [
          | inl old ↦ (last.listed v).1 (h.0, old, h.2, h.3)
          | inr new ↦ absurd (none v (subst (λ d. IsSink g d.nodes.items) (sym new) h.2) (subst (λ d. IsLastListed eq g d.nodes.items v) (sym new) h.3))
        ]),
      );
      in_order = λ i j u v l a b. earlier_still cs c u v (last.in_order i j u v l a b);
    }

    -- a sink adds its last listed node
    pub one_added : (cs : List (Scc N)) (c : Scc N) (starts : List N) (w : N) → IsSink g c.nodes.items → IsLastListed eq g c.nodes.items w → ((v : N) → IsLastListed eq g c.nodes.items v → w ≡ v)
        → AreLastOfSinks eq g cs starts → AreLastOfSinks eq g (cs ++ c ∷ []) (starts ++ w ∷ [])
    one_added cs c starts w sink is_last once last = record {
      listed = λ v. (
        (λ h. elim (Contains-push_cases starts w v h) [
          | inl old ↦ let from = (last.listed v).0 old in (from.0, Contains-append_left cs (c ∷ []) from.0 from.1, from.2, from.3)
          | inr new ↦ (c, Contains-push cs c, sink, subst (IsLastListed eq g c.nodes.items) new is_last)
        ]),
        (λ h. elim (Contains-push_cases cs c h.0 h.1) [
          | inl old ↦ Contains-append_left starts (w ∷ []) v ((last.listed v).1 (h.0, old, h.2, h.3))
          | inr new ↦ subst (Contains (starts ++ w ∷ [])) (once v (subst (λ d. IsLastListed eq g d.nodes.items v) (sym new) h.3)) (Contains-push starts w)
        ]),
      );
      in_order = λ i j u v l a b. ordered i j u v l (item_of_push starts w i u a) (item_of_push starts w j v b);
    }
      where
        ordered : (i j : ℕ) (u v : N) → i < j → ((i < length starts) × (slice_get starts i ≡ Some u)) ⊎ ((i ≡ length starts) × (w ≡ u)) → ((j < length starts) × (slice_get starts j ≡ Some v)) ⊎ ((j ≡ length starts) × (w ≡ v))
            → IsInEarlier eq g (cs ++ c ∷ []) u v
        ordered i j u v l (inl a) (inl b) = earlier_still cs c u v (last.in_order i j u v l a.1 b.1)
        ordered i j u v l (inl a) (inr b) =
            let from = (last.listed u).0 (item_contained starts i u a.1) in
            let item = contains_item cs from.0 from.1 in
            (item.0, length cs, from.0, c, slice_get_within cs item.0 from.0 item.1, item_kept cs c item.0 from.0 item.1, item_pushed cs c, from.3.0, subst (Contains c.nodes.items) b.1 is_last.0)
        ordered i j u v l (inr a) (inl b) = absurd (omega (arith, l, a.0, b.0))
        ordered i j u v l (inr a) (inr b) = absurd (omega (arith, l, a.0, b.0))

    -- one more component was visited
    pub passed_at : (components : List (Scc N)) (i : ℕ) (c : Scc N) (starts : List N) → i < length components → c ≡ get_or components i c → ((v : N) → IsSink g c.nodes.items → IsLastListed eq g c.nodes.items v → ⊥)
        → AreLastOfSinks eq g (take i components) starts → AreLastOfSinks eq g (take (i + 1) components) starts
    passed_at components i c starts l e none last =
        subst (λ cs. AreLastOfSinks eq g cs starts) (ap (λ x. take i components ++ x ∷ []) e ∙ sym (take_more components i c l)) (passed_over (take i components) c starts none last)

    pub added_at : (components : List (Scc N)) (i : ℕ) (c : Scc N) (starts : List N) (w : N) → i < length components → c ≡ get_or components i c → IsSink g c.nodes.items → IsLastListed eq g c.nodes.items w
        → ((v : N) → IsLastListed eq g c.nodes.items v → w ≡ v) → AreLastOfSinks eq g (take i components) starts → AreLastOfSinks eq g (take (i + 1) components) (starts ++ w ∷ [])
    added_at components i c starts w l e sink is_last once last =
        subst (λ cs. AreLastOfSinks eq g cs (starts ++ w ∷ [])) (ap (λ x. take i components ++ x ∷ []) e ∙ sym (take_more components i c l)) (one_added (take i components) c starts w sink is_last once last)
