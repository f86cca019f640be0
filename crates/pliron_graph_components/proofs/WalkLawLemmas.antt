-- Laws of the walks of a search from all nodes.
use Rattle.std.proofs.Common.{◌≡◌, ℕ, suc, ◌+◌, ◌-◌, ◌<◌, ◌≤◌, Bool, true, List, [], ◌∷◌, ◌++◌, length, take, drop, reverse, Some, slice_get, Contains, refl, sym, ◌∙◌, ap, subst, arith, inl, inr, ◌⊎◌, length-append}
use Rattle.std.proofs.lemmas.List.Elements.{All-contains}
use Rattle.std.proofs.lemmas.Option.{slice_get_within}
use Rattle.std.proofs.lemmas.List.{length-reverse}
use Rattle.pliron_graph_traversal.specs.Digraph.{Digraph, IsLawful, IsPath, Reaches, IsReached}
use Rattle.pliron_graph_traversal.specs.Search.{Encloses, IsSearchNumbering, ComesBefore, number_in}
use Rattle.pliron_graph_traversal.specs.Walks.{concatenation, IsWalk, AreWalks}
use Rattle.pliron_graph_components.specs.Laws.{IsFirstOutside, IsWalkFrom}
use Rattle.pliron_graph_traversal.specs.Internal.Membership.{HasMember, in_from, contains_from, in_right, in_cases, in_from_any, any_from_in}
use Rattle.pliron_graph_traversal.proofs.ItemLemmas.{in_from_item, item_from_in}
use Rattle.pliron_graph_components.proofs.ItemLemmas.{item_left, item_right, item_of_reverse, item_in_reverse, split_joined, start_of_later, in_joined, list_of_joined, item_at_place, place_at_most, place_within, in_first_part, place_in_first_part, place_of_item}
use Rattle.pliron_graph_components.proofs.LawLemmas.{edge_law, enclosed_reached, reached_next}
use Rattle.pliron_graph_components.proofs.RankLemmas.{order}

module _ {N : Type 0} (eq : N → N → Bool) (reflexive : (x : N) → eq x x ≡ true) (g : Digraph N) (walks : List (List N)) (lawful : IsLawful eq g) (are : AreWalks eq g walks) where
  abbrev pre : N → ℕ
  pre v = number_in eq are.pre v

  abbrev post : N → ℕ
  post v = number_in eq (concatenation walks) v

  numbering : IsSearchNumbering g g.nodes (number_in eq are.pre) (number_in eq (concatenation walks)) (length are.pre)
  numbering = are.search.numbering

  -- how many nodes the first i walks have
  abbrev start : ℕ → ℕ
  start i = length (concatenation (take i walks))

  abbrev At : ℕ → List N → Type 0
  At i w = slice_get walks i ≡ Some w

  node_reached : (v : N) → Contains g.nodes v → IsReached g g.nodes v
  node_reached v h = (v, h, ([], refl))

  walked_reached : (i : ℕ) (w : List N) (v : N) → At i w → HasMember w v → IsReached g g.nodes v
  walked_reached i w v at h = (are.search.post_listed v).0 (any_from_in eq lawful.same reflexive (concatenation walks) v (in_joined walks i w v at h))

  walk_of_reached : (v : N) → IsReached g g.nodes v → (i : ℕ) × (w : List N) × At i w × HasMember w v
  walk_of_reached v h = list_of_joined walks v (in_from_any eq lawful.same reflexive (concatenation walks) v ((are.search.post_listed v).1 h))

  -- the item at each index of the joined walks has its number
  number_of_item : (k : ℕ) (v : N) → slice_get (concatenation walks) k ≡ Some v → post v ≡ k
  number_of_item k v e =
      let same_length : length (concatenation walks) ≡ length are.pre = are.search.equal_lengths in
      place_of_item eq lawful.same reflexive (concatenation walks) k v
      (λ j l. let r = numbering.post_numbers.each j (omega (arith, l, same_length)) in (r.0, r.2)) e

  item_in_joined : (i k : ℕ) (w : List N) (v : N) → At i w → slice_get w k ≡ Some v → slice_get (concatenation walks) (start i + k) ≡ Some v
  item_in_joined i k w v at e =
      let within : k < length w = slice_get_within w k v e in
      rw (split_joined walks i w at) (item_right (concatenation (take i walks)) (w ++ concatenation (drop (suc i) walks)) k (start i + k) refl ∙ item_left w (concatenation (drop (suc i) walks)) k within ∙ e)

  number_in_walk : (i k : ℕ) (w : List N) (v : N) → At i w → slice_get w k ≡ Some v → post v ≡ start i + k
  number_in_walk i k w v at e = number_of_item (start i + k) v (item_in_joined i k w v at e)

  low : (i : ℕ) (w : List N) (v : N) → At i w → HasMember w v → start i ≤ post v
  low i w v at h = let r = item_from_in w v h in omega (arith, number_in_walk i r.0 w v at r.1)

  high : (i : ℕ) (w : List N) (v : N) → At i w → HasMember w v → post v < start i + length w
  high i w v at h = let r = item_from_in w v h in omega (arith, number_in_walk i r.0 w v at r.1, slice_get_within w r.0 v r.1)

  in_one : (i : ℕ) (a b : List N) (v : N) → At i a → At i b → HasMember b v → HasMember a v
  in_one i a b v p q h = let one : b ≡ a = cc in subst (λ z. HasMember z v) one h

  -- the number tells which walks hold a node
  earlier_from_number : (i : ℕ) (w : List N) (v : N) → At i w → post v < start i → HasMember (concatenation (take i walks)) v
  earlier_from_number i w v at l =
      in_first_part eq lawful.same reflexive (concatenation (take i walks)) (w ++ concatenation (drop (suc i) walks)) v
      (subst (λ z. number_in eq z v < start i) (split_joined walks i w at) l)

  number_from_earlier : (i : ℕ) (w : List N) (v : N) → At i w → HasMember (concatenation (take i walks)) v → post v < start i
  number_from_earlier i w v at h =
      subst (λ z. number_in eq z v < start i) (sym (split_joined walks i w at))
      (place_in_first_part eq lawful.same reflexive (concatenation (take i walks)) (w ++ concatenation (drop (suc i) walks)) v h)

  -- a walk by its top
  walk_at : (i : ℕ) (w : List N) → At i w → IsWalk eq g g.nodes (record { pre = are.pre; post = concatenation walks }) w
  walk_at i w at = All-contains (IsWalk eq g g.nodes (record { pre = are.pre; post = concatenation walks })) walks w are.each (contains_from walks w (in_from_item walks i w at))

  module _ (i : ℕ) (w : List N) (at : At i w) (walk : IsWalk eq g g.nodes (record { pre = are.pre; post = concatenation walks }) w) where
    top_in : HasMember w walk.top
    top_in = subst (λ z. HasMember z walk.top) (sym walk.last) (in_right walk.others (walk.top ∷ []) walk.top (inl refl))

    top_reached : IsReached g g.nodes walk.top
    top_reached = walked_reached i w walk.top at top_in

    by_top : (v : N) → HasMember w v → (walk.top ≡ v) ⊎ Encloses pre post walk.top v
    by_top v h = elim (in_cases walk.others (walk.top ∷ []) v (subst (λ z. HasMember z v) walk.last h)) [
      | inl a ↦ inr ((walk.enclosed v).0 (contains_from walk.others v a)).1
      | inr b ↦ elim b [ inl e ↦ inl e | inr n ↦ absurd n ]
    ]

    -- nothing outside a walk encloses a node of it
    no_outer : (u v : N) → HasMember w v → IsReached g g.nodes u → Encloses pre post u v → (post u < start i + length w → ⊥) → ⊥
    no_outer u v h hu e outside = elim (by_top v h) [
      | inl is ↦ walk.is_top u hu (subst (Encloses pre post u) (sym is) e)
      | inr t ↦ elim (numbering.nested walk.top u v top_reached hu (walked_reached i w v at h) t e) [
        | inl is ↦ outside (omega (arith, high i w walk.top at top_in, ap post is))
        | inr x ↦ elim x [
          | inl k ↦ outside (omega (arith, high i w walk.top at top_in, k.1))
          | inr k ↦ walk.is_top u hu k
        ]
      ]
    ]

  pub between_walks : (i j : ℕ) (a b : List N) → At i a → At j b → (u v : N) → HasMember a u → HasMember b v → Contains (g.succ u) v → j ≤ i
  between_walks i j a b at_a at_b u v in_a in_b e = elim (order i j) [
    | inr x ↦ elim x [ inl s ↦ omega (arith, s) | inr l ↦ omega (arith, l) ]
    | inl l ↦
        let hu = walked_reached i a u at_a in_a in
        let hv = walked_reached j b v at_b in_b in
        let past : start i + length a ≤ post v = omega (arith, start_of_later walks i j a at_a l, low j b v at_b in_b) in
        let left : post u < post v = omega (arith, past, high i a u at_a in_a) in
        elim (order (pre u) (pre v)) [
          | inl k ↦ absurd (numbering.no_later u v hu e (k, left))
          | inr x ↦ elim x [
            | inl s ↦ absurd (omega (arith, left, ap post (numbering.pre_numbers.once u v hu hv s)))
            | inr k ↦ absurd (no_outer i a at_a (walk_at i a at_a) v u in_a hv (k, left) (λ m. omega (arith, m, past)))
          ]
        ]
  ]

  pub in_post_order : (u v : N) → Contains g.nodes u → Contains (g.succ u) v → ComesBefore eq (concatenation walks) v u ⊎ Reaches g v u
  in_post_order u v hu e = edge_law g g.nodes (number_in eq are.pre) (number_in eq (concatenation walks)) (length are.pre) numbering u v (node_reached u hu) e

  reversed_place : (i : ℕ) (w : List N) (v : N) → At i w → HasMember w v → number_in eq (reverse w) v + post v + 1 ≡ start i + length w
  reversed_place i w v at h =
      let r = item_from_in w v h in
      let inside : r.0 < length w = slice_get_within w r.0 v r.1 in
      let back : length w - 1 - (length w - 1 - r.0) ≡ r.0 = omega (arith, inside) in
      let here : slice_get (reverse w) (length w - 1 - r.0) ≡ Some v = item_in_reverse w (length w - 1 - r.0) v (omega (arith, inside)) (subst (λ k. slice_get w k ≡ Some v) (sym back) r.1) in
      let k : ℕ = number_in eq (reverse w) v in
      let within : number_in eq (reverse w) v < length (reverse w) = place_within eq lawful.same reflexive (reverse w) v (in_from_item (reverse w) (length w - 1 - r.0) v here) in
      let at_place : slice_get (reverse w) (number_in eq (reverse w) v) ≡ Some v = item_at_place eq lawful.same reflexive (reverse w) v within in
      let number : post v ≡ start i + (length w - 1 - number_in eq (reverse w) v) = number_in_walk i (length w - 1 - number_in eq (reverse w) v) w v at (item_of_reverse w (number_in eq (reverse w) v) v at_place) in
      omega (arith, number, within, length-reverse w)

  pub in_topological_order : (w : List N) → Contains walks w → (u v : N) → HasMember w u → HasMember w v → Contains (g.succ u) v → ComesBefore eq (reverse w) u v ⊎ Reaches g v u
  in_topological_order w member u v hu hv e =
      let i = item_from_in walks w (in_from walks w member) in
      elim (edge_law g g.nodes (number_in eq are.pre) (number_in eq (concatenation walks)) (length are.pre) numbering u v (walked_reached i.0 w u i.1 hu) e) [
        | inl l ↦ inl (omega (arith, l, reversed_place i.0 w u i.1 hu, reversed_place i.0 w v i.1 hv))
        | inr r ↦ inr r
      ]

  -- a path never leads into a later walk
  path_falls : (ws : List N) (m : ℕ) (a : List N) (x v : N) → At m a → HasMember a x → IsPath g x ws v → (n : ℕ) × (b : List N) × At n b × HasMember b v × (n ≤ m)
  path_falls [] m a x v at h p = (m, a, at, subst (HasMember a) p h, omega arith)
  path_falls (y ∷ ws) m a x v at h p =
      let hy = reached_next g g.nodes (number_in eq are.pre) (number_in eq (concatenation walks)) (length are.pre) numbering x y (walked_reached m a x at h) p.0 in
      let r = walk_of_reached y hy in
      let descends : r.0 ≤ m = between_walks m r.0 a r.1 at r.2 x y h r.3 p.0 in
      let rest = path_falls ws r.0 r.1 y v r.2 r.3 p.1 in
      (rest.0, rest.1, rest.2, rest.3, omega (arith, descends, rest.4))

  module _ (i : ℕ) (w : List N) (at : At i w) (walk : IsWalk eq g g.nodes (record { pre = are.pre; post = concatenation walks }) w) where
    first_node : slice_get (reverse w) 0 ≡ Some walk.top
    first_node =
        let size : length w ≡ length walk.others + 1 = ap length walk.last ∙ length-append walk.others (walk.top ∷ []) in
        let last : slice_get (walk.others ++ walk.top ∷ []) (length w - 1 - 0) ≡ Some walk.top = item_right walk.others (walk.top ∷ []) 0 (length w - 1 - 0) (omega (arith, size)) in
        item_in_reverse w 0 walk.top (omega (arith, size)) (subst (λ z. slice_get z (length w - 1 - 0) ≡ Some walk.top) (sym walk.last) last)

    not_earlier : (v : N) → HasMember w v → HasMember (concatenation (take i walks)) v → ⊥
    not_earlier v h k = omega (arith, low i w v at h, number_from_earlier i w v at k)

    top_listed : Contains g.nodes walk.top
    top_listed = elim (numbering.parents walk.top (top_reached i w at walk)) [
      | inl t ↦ t.1
      | inr p ↦ absurd (walk.is_top p.0 p.1.reached p.1.around)
    ]

    -- a node with a smaller pre-number stands in an earlier walk
    before_top : (v : N) → IsReached g g.nodes v → pre v < pre walk.top → HasMember (concatenation (take i walks)) v
    before_top v hv l =
        let r = walk_of_reached v hv in
        elim (order r.0 i) [
          | inl k ↦ earlier_from_number i w v at (omega (arith, high r.0 r.1 v r.2 r.3, start_of_later walks r.0 i r.1 r.2 k))
          | inr x ↦ elim x [
            | inl s ↦ elim (by_top i w at walk v (in_one i w r.1 v at (subst (λ z. At z r.1) s r.2) r.3)) [
              | inl is ↦ absurd (omega (arith, l, ap pre is))
              | inr e ↦ absurd (omega (arith, l, e.0))
            ]
            | inr k ↦ absurd (walk.is_top v hv (l, omega (arith, high i w walk.top at (top_in i w at walk), start_of_later walks i r.0 w at k, low r.0 r.1 v r.2 r.3)))
          ]
        ]

    first_outside : IsFirstOutside eq g.nodes (concatenation (take i walks)) walk.top
    first_outside =
        let k : ℕ = number_in eq g.nodes walk.top in
        let here : slice_get g.nodes (number_in eq g.nodes walk.top) ≡ Some walk.top =
        item_at_place eq lawful.same reflexive g.nodes walk.top (place_within eq lawful.same reflexive g.nodes walk.top (in_from g.nodes walk.top top_listed)) in
        let first : (j : ℕ) → j < number_in eq g.nodes walk.top → slice_get g.nodes j ≡ Some walk.top → ⊥ = λ j l e. omega (arith, l, place_at_most eq lawful.same reflexive g.nodes j walk.top e) in (
          number_in eq g.nodes walk.top,
          here,
          λ c. not_earlier walk.top (top_in i w at walk) (in_from (concatenation (take i walks)) walk.top c),
          λ j v l e. contains_from (concatenation (take i walks)) v
              (before_top v (node_reached v (contains_from g.nodes v (in_from_item g.nodes j v e)))
              (numbering.roots_in_order walk.top (top_reached i w at walk) walk.is_top (number_in eq g.nodes walk.top) j v (here, first) l e)),
        )

    holds_reached : (v : N) → HasMember w v → Reaches g walk.top v
    holds_reached v h = elim (by_top i w at walk v h) [
      | inl is ↦ ([], is)
      | inr e ↦ enclosed_reached g g.nodes (number_in eq are.pre) (number_in eq (concatenation walks)) (length are.pre) numbering walk.top v (top_reached i w at walk) (walked_reached i w v at h) e
    ]

    reached_holds : (v : N) → Reaches g walk.top v → (HasMember (concatenation (take i walks)) v → ⊥) → HasMember w v
    reached_holds v path fresh =
        let r = path_falls path.0 i w walk.top v at (top_in i w at walk) path.1 in
        elim (order r.0 i) [
          | inl k ↦ absurd (fresh (earlier_from_number i w v at (omega (arith, high r.0 r.1 v r.2 r.3, start_of_later walks r.0 i r.1 r.2 k))))
          | inr x ↦ elim x [
            | inl s ↦ in_one i w r.1 v at (subst (λ z. At z r.1) s r.2) r.3
            | inr k ↦ absurd (omega (arith, k, r.4))
          ]
        ]

    walk_from : IsWalkFrom eq g (concatenation (take i walks)) w walk.top
    walk_from = record {
      first = first_node;
      listed = first_outside;
      holds = λ v. (
        λ c. let h = in_from w v c in (holds_reached v h, λ k. not_earlier v h (in_from (concatenation (take i walks)) v k)),
        λ p. contains_from w v (reached_holds v p.0 (λ k. p.1 (contains_from (concatenation (take i walks)) v k))),
      );
    }

  pub from_first_node : (i : ℕ) (w : List N) → At i w → (v : N) × IsWalkFrom eq g (concatenation (take i walks)) w v
  from_first_node i w at = let walk = walk_at i w at in (walk.top, walk_from i w at walk)
