-- The search that grew from nothing seen has the search numbering, by places in its two lists.
use Rattle.std.proofs.Common.{◌≡◌, ℕ, suc, ◌+◌, Bool, true, false, not, cond, List, [], ◌∷◌, refl, sym, ◌∙◌, ap, subst, arith, inl, inr, ◌⊎◌, Contains}
use Rattle.std.specs.List.{position_or_len, IsDistinct}
use Rattle.pliron_graph_traversal.specs.Digraph.{Digraph, IsReached}
use Rattle.pliron_graph_traversal.specs.Internal.Forest.{Forest, forest_preorder, postorder, ForestGrows, Grew}
use Rattle.pliron_graph_traversal.specs.Search.{Encloses, Numbers, IsNearest, IsTop, IsSearchNumbering, IsSearch}
use Rattle.pliron_graph_traversal.specs.Internal.Membership.{HasMember, in_from, contains_from, in_from_any, any_from_in}
use Rattle.pliron_graph_traversal.proofs.TreeLemmas.{size, InF, Above, Parent, parent_above, lower_in, upper_in, has_place, pre_in, in_pre, post_in, in_post, length_pre, length_post, Seated, seated_range, seated_each, seated_once, Placed, placed, above_encloses, encloses_above, comparable, top_free, parent_nearest}
use Rattle.pliron_graph_traversal.proofs.PlaceLemmas.{is_distinct}
use Rattle.pliron_graph_traversal.proofs.GrowthLemmas.{Distinct, pre_distinct, post_distinct, roots_found, found_reached, top_root, parent_edge, edge_found, before_first, root_order, child_order, reached_found}

module _ {N : Type 0} (eq : N → N → Bool) (same : (x y : N) → eq x y ≡ true → x ≡ y) (reflexive : (x : N) → eq x x ≡ true) where
  -- the place of v in xs
  abbrev pub place : List N → N → ℕ
  place xs v = position_or_len (eq v) xs

  seated_next : (n m : N → ℕ) (a : ℕ) (xs : List N) → ((v : N) → HasMember xs v → m v ≡ suc (n v)) → Seated n a xs → Seated m (a + 1) xs
  seated_next n m a [] h k = tt
  seated_next n m a (x ∷ xs) h k = (omega (arith, h x (inl refl), k.0), seated_next n m (a + 1) xs (λ v i. h v (inr i)) k.1)

  pub seated_places : (xs : List N) → Distinct xs → Seated (place xs) 0 xs
  seated_places [] h = tt
  seated_places (x ∷ xs) h =
      let here : place (x ∷ xs) x ≡ 0 = ap (λ b. cond (not b) (1 + place xs x) 0) (reflexive x) in
      let later : (v : N) → HasMember xs v → place (x ∷ xs) v ≡ suc (place xs v) = λ v i. step v i (eq v x) refl in
      (here, seated_next (place xs) (place (x ∷ xs)) 0 xs later (seated_places xs h.1))
    where
      step : (v : N) → HasMember xs v → (b : Bool) → eq v x ≡ b → place (x ∷ xs) v ≡ suc (place xs v)
      step v i true e = absurd (h.0 (subst (HasMember xs) (same v x e) i))
      step v i false e = ap (λ b. cond (not b) (1 + place xs v) 0) e ∙ omega arith

  module _ (g : Digraph N) (roots : List N) (f : Forest N) (grows : ForestGrows eq g [] roots f) where
    abbrev pub pre : N → ℕ
    pre v = place (forest_preorder f) v

    abbrev pub post : N → ℕ
    post v = place (postorder f) v

    pre_seated : Seated pre 0 (forest_preorder f)
    pre_seated = seated_places (forest_preorder f) (pre_distinct eq g same reflexive grows)

    post_seated : Seated post 0 (postorder f)
    post_seated = seated_places (postorder f) (post_distinct eq g same reflexive grows)

    pub at_places : Placed pre post 0 0 f
    at_places = placed pre post 0 0 f pre_seated post_seated

    pub closed : (u w : N) → InF f u → HasMember (g.succ u) w → InF f w
    closed u w h e = elim (edge_found eq g same reflexive pre post 0 0 grows at_places u w h e) [ inl n ↦ absurd n | inr k ↦ k.0 ]

    pub found : (v : N) → IsReached g roots v → InF f v
    found v (r, root, path) =
        elim (roots_found eq g same reflexive grows r (in_from roots r root)) [ inl n ↦ absurd n | inr h ↦ reached_found eq g same reflexive grows closed r v path.0 h path.1 ]

    pub reached : (v : N) → InF f v → IsReached g roots v
    reached v h = let k = found_reached eq g same reflexive grows v h in (k.0, contains_from roots k.0 k.1, k.2)

    pre_numbers : Numbers (IsReached g roots) pre (size f)
    pre_numbers = record {
      within = λ v h. omega (arith, (seated_range pre 0 (forest_preorder f) v pre_seated (in_pre f v (found v h))).1, length_pre f);
      each = λ k l. let r = seated_each pre 0 (forest_preorder f) k pre_seated (omega (arith, l, length_pre f)) in (r.0, reached r.0 (pre_in f r.0 r.1), omega (arith, r.2));
      once = λ u v h k e. seated_once pre 0 (forest_preorder f) u v pre_seated (in_pre f u (found u h)) (in_pre f v (found v k)) e;
    }

    post_numbers : Numbers (IsReached g roots) post (size f)
    post_numbers = record {
      within = λ v h. omega (arith, (seated_range post 0 (postorder f) v post_seated (in_post f v (found v h))).1, length_post f);
      each = λ k l. let r = seated_each post 0 (postorder f) k post_seated (omega (arith, l, length_post f)) in (r.0, reached r.0 (post_in f r.0 r.1), omega (arith, r.2));
      once = λ u v h k e. seated_once post 0 (postorder f) u v post_seated (in_post f u (found u h)) (in_post f v (found v k)) e;
    }

    pub above : (u v : N) → IsReached g roots u → IsReached g roots v → Encloses pre post u v → Above f u v
    above u v h k e = encloses_above pre post 0 0 f u v at_places (found u h) (found v k) e

    pub encloses : (u v : N) → Above f u v → Encloses pre post u v
    encloses u v h = above_encloses pre post 0 0 f u v at_places h

    nearest : (p v : N) → Parent f p v → IsNearest g roots pre post p v
    nearest p v t = record {
      reached = reached p (upper_in f p v (parent_above f p v t));
      around = encloses p v (parent_above f p v t);
      nearest = λ q h e. elim (parent_nearest pre post 0 0 f p v q at_places t (above q v h (reached v (lower_in f p v (parent_above f p v t))) e)) [ inl x ↦ inl x | inr y ↦ inr (encloses q p y) ];
    }

    parents : (v : N) → IsReached g roots v → (IsTop g roots pre post v × Contains roots v) ⊎ ((p : N) × IsNearest g roots pre post p v × Contains (g.succ p) v)
    parents v h = elim (has_place f v (found v h)) [
      | inl t ↦ inl ((λ q k e. top_free pre post 0 0 f q v at_places t (above q v k h e)), contains_from roots v (top_root eq g same reflexive grows v t))
      | inr k ↦ inr (k.0, nearest k.0 v k.1, contains_from (g.succ k.0) v (parent_edge eq g same reflexive grows k.0 v k.1))
    ]

    -- the nearest encloser is the parent
    parent_of : (p v : N) → IsReached g roots v → IsNearest g roots pre post p v → Parent f p v
    parent_of p v h n = elim (has_place f v (found v h)) [
      | inl t ↦ absurd (top_free pre post 0 0 f p v at_places t (above p v n.reached h n.around))
      | inr x ↦
          let near = nearest x.0 v x.1 in
          elim (n.nearest x.0 near.reached near.around) [
            | inl e ↦ subst (λ y. Parent f y v) e x.1
            | inr e ↦ elim (near.nearest p n.reached n.around) [
              | inl d ↦ subst (λ y. Parent f y v) (sym d) x.1
              | inr d ↦ absurd (omega (arith, e.0, d.0))
            ]
          ]
    ]

    pub numbering : IsSearchNumbering g roots pre post (size f)
    numbering = record {
      pre_numbers = pre_numbers;
      post_numbers = post_numbers;
      nested = λ u v w hu hv hw e d. elim (comparable pre post 0 0 f u v w at_places (above u w hu hw e) (above v w hv hw d)) [
        | inl x ↦ inl x
        | inr y ↦ elim y [ inl z ↦ inr (inl (encloses u v z)) | inr z ↦ inr (inr (encloses v u z)) ]
      ];
      parents = parents;
      no_later = λ u v h e later. elim (edge_found eq g same reflexive pre post 0 0 grows at_places u v (found u h) (in_from (g.succ u) v e)) [ inl n ↦ absurd n | inr k ↦ k.1 later ];
      in_order = λ p v h n k j w at l here. elim (child_order eq g same reflexive pre post 0 0 grows at_places p v w (parent_of p v h n) (before_first eq g same reflexive pre post (g.succ p) k j w v at.1 l here)) [ inl n ↦ absurd n | inr r ↦ r.1 ];
      roots_in_order = λ v h t k j w at l here. elim (has_place f v (found v h)) [
        | inl top ↦ elim (root_order eq g same reflexive pre post 0 0 grows at_places v w top (before_first eq g same reflexive pre post roots k j w v at.1 l here)) [ inl n ↦ absurd n | inr r ↦ r.1 ]
        | inr x ↦ absurd (t x.0 (reached x.0 (upper_in f x.0 v (parent_above f x.0 v x.1))) (encloses x.0 v (parent_above f x.0 v x.1)))
      ];
    }

  -- what a search from nothing answers
  pub search_from_growth : (g : Digraph N) (roots pre_list post_list : List N) → Grew eq g roots [] [] pre_list post_list → IsSearch eq g roots (record { pre = pre_list; post = post_list })
  search_from_growth g roots p q grew = subst (λ x. IsSearch eq g roots (record { pre = x; post = q })) (sym grew.pre_is) (subst (λ x. IsSearch eq g roots (record { pre = forest_preorder grew.forest; post = x })) (sym grew.post_is) (record {
    pre_listed = λ v. (
      λ h. reached g roots grew.forest grew.grows v (pre_in grew.forest v (in_from_any eq same reflexive (forest_preorder grew.forest) v h)),
      λ h. any_from_in eq same reflexive (forest_preorder grew.forest) v (in_pre grew.forest v (found g roots grew.forest grew.grows v h)),
    );
    post_listed = λ v. (
      λ h. reached g roots grew.forest grew.grows v (post_in grew.forest v (in_from_any eq same reflexive (postorder grew.forest) v h)),
      λ h. any_from_in eq same reflexive (postorder grew.forest) v (in_post grew.forest v (found g roots grew.forest grew.grows v h)),
    );
    equal_lengths = length_post grew.forest ∙ sym (length_pre grew.forest);
    numbering = subst (IsSearchNumbering g roots (place (forest_preorder grew.forest)) (place (postorder grew.forest))) (sym (length_pre grew.forest)) (numbering g roots grew.forest grew.grows);
  }))

  -- and it left each node once
  pub left_once : (g : Digraph N) (roots pre_list post_list : List N) → Grew eq g roots [] [] pre_list post_list → IsDistinct eq post_list
  left_once g roots p q grew = subst (IsDistinct eq) (sym grew.post_is) (is_distinct eq same (postorder grew.forest) (post_distinct eq g same reflexive grew.grows))

  pub found_once : (g : Digraph N) (roots pre_list post_list : List N) → Grew eq g roots [] [] pre_list post_list → IsDistinct eq pre_list
  found_once g roots p q grew = subst (IsDistinct eq) (sym grew.pre_is) (is_distinct eq same (forest_preorder grew.forest) (pre_distinct eq g same reflexive grew.grows))
