-- A table that tells the places of nodes by their numbers.
use Rattle.std.proofs.Common.{◌≡◌, ℕ, ◌+◌, ◌<◌, ◌≤◌, ◌⊎◌, Bool, true, false, true≢false, cond, ltb, Some, None, is_some, position, List, [], ◌∷◌, length, set, get_or, refl, sym, ◌∙◌, ap, arith, inl, inr}
use Rattle.std.specs.List.{list_any, position_or_len}
use Rattle.std.proofs.lemmas.Bool.Decides.{Decides-ltb}
use Rattle.std.proofs.lemmas.List.{get_or-set_same, get_or-set_other, get_or_default}
use Rattle.std.proofs.lemmas.List.Folds.{list_any_at}
use Rattle.std.proofs.lemmas.List.Sums.{passes_at_first, fails_before_first}
use Rattle.pliron_graph_traversal.proofs.PlaceLemmas.{listed_within}

order : (a b : ℕ) → (a < b) ⊎ (b ≤ a)
order a b = grind arith

-- what `position` says of a place
module _ {X : Type 0} (p : X → Bool) (xs : List X) where
  pub position_within : position_or_len p xs < length xs → position p xs ≡ Some (position_or_len p xs)
  position_within l = ap (λ t. cond t (Some (position_or_len p xs)) None) ((Decides-ltb (position_or_len p xs) (length xs)).1 l)

  pub position_past : (position_or_len p xs < length xs → ⊥) → position p xs ≡ None
  position_past h = by (ltb (position_or_len p xs) (length xs)) refl
    where
      by : (b : Bool) → ltb (position_or_len p xs) (length xs) ≡ b → position p xs ≡ None
      by true e = absurd (h ((Decides-ltb (position_or_len p xs) (length xs)).0 e))
      by false e = ap (λ t. cond t (Some (position_or_len p xs)) None) e

-- what has a place is listed
pub place_tells : {X : Type 0} (p : X → Bool) (xs : List X) → is_some (position p xs) ≡ list_any p xs
place_tells p [] = refl
place_tells p (x ∷ xs) = by (list_any p (x ∷ xs)) refl
  where
    by : (b : Bool) → list_any p (x ∷ xs) ≡ b → is_some (position p (x ∷ xs)) ≡ list_any p (x ∷ xs)
    by true e = ap is_some (position_within p (x ∷ xs) (listed_within p (x ∷ xs) e)) ∙ sym e
    by false e =
        let nowhere : position_or_len p (x ∷ xs) < length (x ∷ xs) → ⊥ = λ l. true≢false (sym (list_any_at p (x ∷ xs) (position_or_len p (x ∷ xs)) x l (passes_at_first p (x ∷ xs) x l)) ∙ e) in
        ap is_some (position_past p (x ∷ xs) nowhere) ∙ sym e

module _ {N : Type 0} (eq : N → N → Bool) (number : N → ℕ) (alike : (x y : N) → eq x y ≡ true → number x ≡ number y) (nodes : List N) (marks : List ℕ) (gives : (k : ℕ) (d : N) → k < length nodes → get_or marks (number (get_or nodes k d)) 0 ≡ k + 1) where
  -- the mark of what is listed
  mark_of_listed : (v : N) → position_or_len (eq v) nodes < length nodes → get_or marks (number v) 0 ≡ position_or_len (eq v) nodes + 1
  mark_of_listed v l =
      ap (λ n. get_or marks n 0) (alike v (get_or nodes (position_or_len (eq v) nodes) v) (passes_at_first (eq v) nodes v l)) ∙ gives (position_or_len (eq v) nodes) v l

  -- an equal node stands where the mark says
  pub place_marked : (v : N) (k : ℕ) (d : N) → k < length nodes → get_or marks (number v) 0 ≡ k + 1 → eq v (get_or nodes k d) ≡ true → position (eq v) nodes ≡ Some k
  place_marked v k d l m e =
      let place = position_or_len (eq v) nodes in
      let not_before : k < place → ⊥ = λ b. true≢false (sym e ∙ fails_before_first (eq v) nodes k d b) in
      let first : place ≤ k = elim (order k place) [ inl b ↦ absurd (not_before b) | inr m ↦ m ] in
      let within : place < length nodes = omega (arith, first, l) in
      let is : place ≡ k = omega (arith, mark_of_listed v within, m) in
      position_within (eq v) nodes within ∙ ap Some is

  -- no equal node stands where the mark says, and so nowhere
  pub none_marked : (v : N) → ((k : ℕ) → k < length nodes → get_or marks (number v) 0 ≡ k + 1 → eq v (get_or nodes k v) ≡ true → ⊥) → position (eq v) nodes ≡ None
  none_marked v h = position_past (eq v) nodes (λ l. h (position_or_len (eq v) nodes) l (mark_of_listed v l) (passes_at_first (eq v) nodes v l))

-- one mark more, at a number that had none
module _ {N : Type 0} (number : N → ℕ) (nodes : List N) (marks : List ℕ) (k : ℕ) (v : N) where
  last_order : (j : ℕ) → j < k + 1 → (j < k) ⊎ (j ≡ k)
  last_order j l = grind (arith, l)

  pub one_mark_more : k < length nodes → v ≡ get_or nodes k v → number v < length marks → get_or marks (number v) 0 ≡ 0
      → ((j : ℕ) (d : N) → j < k → get_or marks (number (get_or nodes j d)) 0 ≡ j + 1)
      → (j : ℕ) (d : N) → j < k + 1 → get_or (set marks (number v) (k + 1)) (number (get_or nodes j d)) 0 ≡ j + 1
  one_mark_more low at within free gives j d l = elim (last_order j l) [
    | inl less ↦
        let apart : number (get_or nodes j d) ≡ number v → ⊥ = λ e.
        let here : get_or marks (number (get_or nodes j d)) 0 ≡ 0 = ap (λ n. get_or marks n 0) e ∙ free in
        omega (arith, here, gives j d less) in
        get_or-set_other marks (number v) (number (get_or nodes j d)) (k + 1) 0 apart ∙ gives j d less
    | inr equal ↦
        let one : get_or nodes j d ≡ v = ap (λ i. get_or nodes i d) equal ∙ sym (at ∙ get_or_default nodes k v d low) in
        ap (λ w. get_or (set marks (number v) (k + 1)) (number w) 0) one ∙ get_or-set_same marks (number v) (k + 1) 0 within ∙ ap (λ i. i + 1) (sym equal)
  ]
