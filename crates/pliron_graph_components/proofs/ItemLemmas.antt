-- Items of lists by index, in joined and reversed lists.
use Rattle.std.proofs.Common.{◌≡◌, ℕ, zero, suc, ◌+◌, ◌-◌, ◌<◌, ◌≤◌, Bool, true, false, not, cond, List, [], ◌∷◌, ◌++◌, length, take, drop, get_or, reverse, Some, slice_get, refl, sym, ◌∙◌, ap, subst, arith, inl, inr, length-append, append_assoc}
use Rattle.std.proofs.lemmas.List.{get_or-reverse, length-reverse}
use Rattle.std.proofs.lemmas.Option.{slice_get_within, slice_get-get_or, get_or_from_slice_get}
use Rattle.pliron_graph_traversal.specs.Search.{number_in}
use Rattle.pliron_graph_traversal.specs.Walks.{concatenation}
use Rattle.pliron_graph_traversal.proofs.ItemLemmas.{in_from_item, item_from_in}
use Rattle.pliron_graph_traversal.specs.Internal.Membership.{HasMember, in_left, in_right, in_cases}

module _ {X : Type 0} where
  pub item_left : (xs ys : List X) (k : ℕ) → k < length xs → slice_get (xs ++ ys) k ≡ slice_get xs k
  item_left [] ys k l = absurd (omega (arith, l))
  item_left (x ∷ xs) ys zero l = refl
  item_left (x ∷ xs) ys (suc k) l = item_left xs ys k (omega (arith, l))

  pub item_right : (xs ys : List X) (k n : ℕ) → n ≡ length xs + k → slice_get (xs ++ ys) n ≡ slice_get ys k
  item_right [] ys k n e = let same : n ≡ k = omega (arith, e) in ap (slice_get ys) same
  item_right (x ∷ xs) ys k zero e = absurd (omega (arith, e))
  item_right (x ∷ xs) ys k (suc n) e = item_right xs ys k n (omega (arith, e))

  -- the item of a reversed list
  pub item_of_reverse : (xs : List X) (k : ℕ) (v : X) → slice_get (reverse xs) k ≡ Some v → slice_get xs (length xs - 1 - k) ≡ Some v
  item_of_reverse xs k v e =
      let within : k < length xs = omega (arith, slice_get_within (reverse xs) k v e, length-reverse xs) in
      let same : get_or xs (length xs - 1 - k) v ≡ v = sym (get_or-reverse xs k v within) ∙ get_or_from_slice_get (reverse xs) k v v e in
      slice_get-get_or xs (length xs - 1 - k) v (omega (arith, within)) ∙ ap Some same

  pub item_in_reverse : (xs : List X) (k : ℕ) (v : X) → k < length xs → slice_get xs (length xs - 1 - k) ≡ Some v → slice_get (reverse xs) k ≡ Some v
  item_in_reverse xs k v within e =
      let same : get_or (reverse xs) k v ≡ v = get_or-reverse xs k v within ∙ get_or_from_slice_get xs (length xs - 1 - k) v v e in
      slice_get-get_or (reverse xs) k v (omega (arith, within, length-reverse xs)) ∙ ap Some same

  -- the nodes of the first i lists come first, then the i-th list
  pub split_joined : (ws : List (List X)) (i : ℕ) (w : List X) → slice_get ws i ≡ Some w → concatenation ws ≡ concatenation (take i ws) ++ (w ++ concatenation (drop (suc i) ws))
  split_joined [] i w e = absurd (cc e)
  split_joined (x ∷ ws) zero w e = let same : x ≡ w = cc in ap (λ z. z ++ concatenation ws) same
  split_joined (x ∷ ws) (suc i) w e = ap (λ z. x ++ z) (split_joined ws i w e) ∙ simp append_assoc

  pub start_of_later : (ws : List (List X)) (i j : ℕ) (w : List X) → slice_get ws i ≡ Some w → i < j → length (concatenation (take i ws)) + length w ≤ length (concatenation (take j ws))
  start_of_later [] i j w e l = absurd (cc e)
  start_of_later (x ∷ ws) zero zero w e l = absurd (omega (arith, l))
  start_of_later (x ∷ ws) zero (suc j) w e l = let same : x ≡ w = cc in omega (arith, length-append x (concatenation (take j ws)), ap length same)
  start_of_later (x ∷ ws) (suc i) zero w e l = absurd (omega (arith, l))
  start_of_later (x ∷ ws) (suc i) (suc j) w e l =
      omega (arith, length-append x (concatenation (take i ws)), length-append x (concatenation (take j ws)), start_of_later ws i j w e (omega (arith, l)))

  pub in_joined : (ws : List (List X)) (i : ℕ) (w : List X) (v : X) → slice_get ws i ≡ Some w → HasMember w v → HasMember (concatenation ws) v
  in_joined [] i w v e h = absurd (cc e)
  in_joined (x ∷ ws) zero w v e h = let same : x ≡ w = cc in in_left x (concatenation ws) v (subst (λ z. HasMember z v) (sym same) h)
  in_joined (x ∷ ws) (suc i) w v e h = in_right x (concatenation ws) v (in_joined ws i w v e h)

  pub list_of_joined : (ws : List (List X)) (v : X) → HasMember (concatenation ws) v → (i : ℕ) × (w : List X) × (slice_get ws i ≡ Some w) × HasMember w v
  list_of_joined [] v h = absurd h
  list_of_joined (x ∷ ws) v h = elim (in_cases x (concatenation ws) v h) [
    | inl a ↦ (0, x, refl, a)
    | inr b ↦ let r = list_of_joined ws v b in (suc r.0, r.1, r.2, r.3)
  ]

module _ {N : Type 0} (eq : N → N → Bool) (same : (x y : N) → eq x y ≡ true → x ≡ y) (reflexive : (x : N) → eq x x ≡ true) where
  place_here : (x : N) (xs : List N) (v : N) → eq v x ≡ true → number_in eq (x ∷ xs) v ≡ 0
  place_here x xs v e = ap (λ b. cond (not b) (1 + number_in eq xs v) 0) e

  place_past : (x : N) (xs : List N) (v : N) → eq v x ≡ false → number_in eq (x ∷ xs) v ≡ suc (number_in eq xs v)
  place_past x xs v e = ap (λ b. cond (not b) (1 + number_in eq xs v) 0) e ∙ omega arith

  pub item_at_place : (xs : List N) (v : N) → number_in eq xs v < length xs → slice_get xs (number_in eq xs v) ≡ Some v
  item_at_place [] v l = absurd (omega (arith, l))
  item_at_place (x ∷ xs) v l = by (eq v x) refl (item_at_place xs v)
    where
      by : (b : Bool) → eq v x ≡ b → (number_in eq xs v < length xs → slice_get xs (number_in eq xs v) ≡ Some v) → slice_get (x ∷ xs) (number_in eq (x ∷ xs) v) ≡ Some v
      by true e rest = rw (place_here x xs v e) (ap Some (sym (same v x e)))
      by false e rest = rw (place_past x xs v e) (rest (omega (arith, l, place_past x xs v e)))

  pub place_at_most : (xs : List N) (k : ℕ) (v : N) → slice_get xs k ≡ Some v → number_in eq xs v ≤ k
  place_at_most [] k v e = absurd (cc e)
  place_at_most (x ∷ xs) zero v e =
      let here : x ≡ v = cc in omega (arith, place_here x xs v (subst (λ z. eq v z ≡ true) (sym here) (reflexive v)))
  place_at_most (x ∷ xs) (suc k) v e = by (eq v x) refl (place_at_most xs k v e)
    where
      by : (b : Bool) → eq v x ≡ b → number_in eq xs v ≤ k → number_in eq (x ∷ xs) v ≤ suc k
      by true t rest = omega (arith, place_here x xs v t)
      by false t rest = omega (arith, place_past x xs v t, rest)

  pub place_within : (xs : List N) (v : N) → HasMember xs v → number_in eq xs v < length xs
  place_within xs v h = let r = item_from_in xs v h in omega (arith, place_at_most xs r.0 v r.1, slice_get_within xs r.0 v r.1)

  -- a place in the first part is a place in that part alone
  pub in_first_part : (xs ys : List N) (v : N) → number_in eq (xs ++ ys) v < length xs → HasMember xs v
  in_first_part xs ys v l =
      let at : slice_get (xs ++ ys) (number_in eq (xs ++ ys) v) ≡ Some v = item_at_place (xs ++ ys) v (omega (arith, l, length-append xs ys)) in
      in_from_item xs (number_in eq (xs ++ ys) v) v (sym (item_left xs ys (number_in eq (xs ++ ys) v) l) ∙ at)

  pub place_in_first_part : (xs ys : List N) (v : N) → HasMember xs v → number_in eq (xs ++ ys) v < length xs
  place_in_first_part xs ys v h =
      let r = item_from_in xs v h in
      let within : r.0 < length xs = slice_get_within xs r.0 v r.1 in
      omega (arith, within, place_at_most (xs ++ ys) r.0 v (item_left xs ys r.0 within ∙ r.1))

  -- where each index is the place of some node, it is the place of the item there
  pub place_of_item : (xs : List N) (k : ℕ) (v : N) → ((j : ℕ) → j < length xs → (w : N) × (number_in eq xs w ≡ j)) → slice_get xs k ≡ Some v → number_in eq xs v ≡ k
  place_of_item xs k v each e =
      let within : k < length xs = slice_get_within xs k v e in
      let r = each k within in
      let at : slice_get xs (number_in eq xs r.0) ≡ Some r.0 = item_at_place xs r.0 (omega (arith, within, r.1)) in
      let there : slice_get xs k ≡ Some r.0 = subst (λ j. slice_get xs j ≡ Some r.0) r.1 at in
      let one : v ≡ r.0 = cc in
      ap (number_in eq xs) one ∙ r.1
