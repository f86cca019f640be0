-- So there is one pair of orders and one list of walks.
use Rattle.std.proofs.Common.{◌≡◌, Bool, true, List, [], ◌∷◌, ◌++◌, length, refl, sym, ◌∙◌, ap, subst, inl, inr, append_assoc}
use Rattle.std.proofs.lemmas.List.Elements.{All-contains}
use Rattle.pliron_graph_traversal.specs.Digraph.{Digraph, IsLawful, IsReached}
use Rattle.pliron_graph_traversal.specs.Search.{Numbers, IsTop, Orders, IsSearch, number_in}
use Rattle.pliron_graph_traversal.specs.Walks.{concatenation, IsWalk, AreWalks}
use Rattle.pliron_graph_traversal.specs.Internal.Membership.{HasMember, contains_from, in_right, any_from_in}
use Rattle.pliron_graph_traversal.proofs.ItemLemmas.{item_from_in}
use Rattle.pliron_graph_components.proofs.ItemLemmas.{in_joined}
use Rattle.pliron_graph_components.proofs.RankLemmas.{same_by_places}
use Rattle.pliron_graph_components.proofs.OneNumberingLemmas.{same_pre, same_post, same_count}

module _ {N : Type 0} (eq : N → N → Bool) (reflexive : (x : N) → eq x x ≡ true) (g : Digraph N) (roots : List N) (o o' : Orders N) (lawful : IsLawful eq g) (s : IsSearch eq g roots o) (s' : IsSearch eq g roots o') where
  same_length : length o.pre ≡ length o'.pre
  same_length = same_count g roots (number_in eq o.pre) (number_in eq o.post) (number_in eq o'.pre) (number_in eq o'.post) (length o.pre) (length o'.pre) s.numbering s'.numbering

  pub one_pre : o.pre ≡ o'.pre
  one_pre = same_by_places eq lawful.same reflexive (IsReached g roots) o.pre o'.pre same_length s.numbering.pre_numbers
      (same_pre g roots (number_in eq o.pre) (number_in eq o.post) (number_in eq o'.pre) (number_in eq o'.post) (length o.pre) (length o'.pre) s.numbering s'.numbering)

  pub one_post : o.post ≡ o'.post
  one_post = same_by_places eq lawful.same reflexive (IsReached g roots) o.post o'.post (s.equal_lengths ∙ same_length ∙ sym s'.equal_lengths)
      (subst (λ n. Numbers (IsReached g roots) (number_in eq o.post) n) (sym s.equal_lengths) s.numbering.post_numbers)
      (same_post g roots (number_in eq o.pre) (number_in eq o.post) (number_in eq o'.pre) (number_in eq o'.post) (length o.pre) (length o'.pre) s.numbering s'.numbering)

  pub one_search : o ≡ o'
  one_search =
      let first : o ≡ record { pre = o'.pre; post = o.post } = ap (λ p. record { pre = p; post = o.post }) one_pre in
      first ∙ ap (λ p. record { pre = o'.pre; post = p }) one_post

-- a list that ends with a T and holds no other
abbrev EndsWith : {N : Type 0} → (N → Type 0) → List N → Type 0
EndsWith {N} T w = (others : List N) × (last : N) × (w ≡ others ++ last ∷ []) × T last × ((v : N) → HasMember others v → T v → ⊥)

module _ {N : Type 0} (T : N → Type 0) where
  -- lists that are cut at their first T are cut at one place
  cut : (xs ys rest rest' : List N) (x y : N) → T x → T y → ((v : N) → HasMember xs v → T v → ⊥) → ((v : N) → HasMember ys v → T v → ⊥) → xs ++ (x ∷ rest) ≡ ys ++ (y ∷ rest') → (xs ++ x ∷ [] ≡ ys ++ y ∷ []) × (rest ≡ rest')
  cut [] [] rest rest' x y tx ty none none' e = let head : x ≡ y = cc in (ap (λ z. z ∷ []) head, cc)
  cut [] (b ∷ ys) rest rest' x y tx ty none none' e = let head : x ≡ b = cc in absurd (none' b (inl refl) (subst T head tx))
  cut (a ∷ xs) [] rest rest' x y tx ty none none' e = let head : a ≡ y = cc in absurd (none a (inl refl) (subst T (sym head) ty))
  cut (a ∷ xs) (b ∷ ys) rest rest' x y tx ty none none' e =
      let head : a ≡ b = cc in
      let tail : xs ++ (x ∷ rest) ≡ ys ++ (y ∷ rest') = cc in
      let r = cut xs ys rest rest' x y tx ty (λ v i. none v (inr i)) (λ v i. none' v (inr i)) tail in
      (subst (λ z. a ∷ xs ++ x ∷ [] ≡ z ∷ ys ++ y ∷ []) head (ap (λ z. a ∷ z) r.0), r.1)

  opened : (w others rest : List N) (last : N) → w ≡ others ++ last ∷ [] → w ++ rest ≡ others ++ (last ∷ rest)
  opened w others rest last e = ap (λ z. z ++ rest) e ∙ simp append_assoc

  not_empty : (w others rest : List N) (last : N) → w ≡ others ++ last ∷ [] → [] ≡ w ++ rest → ⊥
  not_empty w others rest last e empty = starts others (empty ∙ opened w others rest last e)
    where
      starts : (xs : List N) → [] ≡ xs ++ (last ∷ rest) → ⊥
      starts [] p = cc
      starts (x ∷ xs) p = cc

  -- so lists of such lists that are one when joined are one
  pub one_cut : (ws ws' : List (List N)) → ((w : List N) → HasMember ws w → EndsWith T w) → ((w : List N) → HasMember ws' w → EndsWith T w) → concatenation ws ≡ concatenation ws' → ws ≡ ws'
  one_cut [] [] each each' e = refl
  one_cut [] (w' ∷ ws') each each' e = let t = each' w' (inl refl) in absurd (not_empty w' t.0 (concatenation ws') t.1 t.2 e)
  one_cut (w ∷ ws) [] each each' e = let t = each w (inl refl) in absurd (not_empty w t.0 (concatenation ws) t.1 t.2 (sym e))
  one_cut (w ∷ ws) (w' ∷ ws') each each' e =
      let t = each w (inl refl) in
      let t' = each' w' (inl refl) in
      let r = cut t.0 t'.0 (concatenation ws) (concatenation ws') t.1 t'.1 t.3 t'.3 t.4 t'.4 (sym (opened w t.0 (concatenation ws) t.1 t.2) ∙ e ∙ opened w' t'.0 (concatenation ws') t'.1 t'.2) in
      let first : w ≡ w' = t.2 ∙ r.0 ∙ sym t'.2 in
      let rest : ws ≡ ws' = one_cut ws ws' (λ v i. each v (inr i)) (λ v i. each' v (inr i)) r.1 in
      subst (λ z. w ∷ ws ≡ z ∷ ws') first (ap (λ z. w ∷ z) rest)

module _ {N : Type 0} (eq : N → N → Bool) (reflexive : (x : N) → eq x x ≡ true) (g : Digraph N) (lawful : IsLawful eq g) where
  abbrev Top : List N → List N → N → Type 0
  Top pre post v = IsTop g g.nodes (number_in eq pre) (number_in eq post) v

  -- a walk ends with its top, and holds no other
  ends_with_top : (walks : List (List N)) (are : AreWalks eq g walks) (w : List N) → HasMember walks w → EndsWith (Top are.pre (concatenation walks)) w
  ends_with_top walks are w i =
      let walk = All-contains (IsWalk eq g g.nodes (record { pre = are.pre; post = concatenation walks })) walks w are.each (contains_from walks w i) in
      let at = item_from_in walks w i in
      let member : HasMember w walk.top = subst (λ z. HasMember z walk.top) (sym walk.last) (in_right walk.others (walk.top ∷ []) walk.top (inl refl)) in
      let reached : IsReached g g.nodes walk.top = (are.search.post_listed walk.top).0 (any_from_in eq lawful.same reflexive (concatenation walks) walk.top (in_joined walks at.0 w walk.top at.1 member)) in
      (walk.others, walk.top, walk.last, walk.is_top, λ v h t. t walk.top reached ((walk.enclosed v).0 (contains_from walk.others v h)).1)

  pub one_walks : (walks walks' : List (List N)) → AreWalks eq g walks → AreWalks eq g walks' → walks ≡ walks'
  one_walks walks walks' are are' =
      let pres : are.pre ≡ are'.pre = one_pre eq reflexive g g.nodes (record { pre = are.pre; post = concatenation walks }) (record { pre = are'.pre; post = concatenation walks' }) lawful are.search are'.search in
      let posts : concatenation walks ≡ concatenation walks' = one_post eq reflexive g g.nodes (record { pre = are.pre; post = concatenation walks }) (record { pre = are'.pre; post = concatenation walks' }) lawful are.search are'.search in
      one_cut (Top are.pre (concatenation walks)) walks walks' (ends_with_top walks are)
      (λ w i. subst (λ p. EndsWith (Top p (concatenation walks)) w) (sym pres) (subst (λ p. EndsWith (Top are'.pre p) w) (sym posts) (ends_with_top walks' are' w i))) posts
