-- What is done for one item of a list after the other, to tables or to a list.
use Rattle.std.proofs.Common.{◌≡◌, ℕ, zero, suc, ◌+◌, ◌<◌, ◌≤◌, List, [], ◌∷◌, length, drop, slice_get, Option, Some, None, refl, sym, ap, ◌∙◌, subst, arith}
use Rattle.pliron_core.specs.Lists.{In, IsDistinct, first_of, next_in}
use Rattle.pliron_core.specs.WalkSteps.{rest_from}
use Rattle.pliron_core.proofs.HoldingLemmas.{some_is, not_none}
use Rattle.pliron_core.proofs.NeighbourLemmas.{next_in-In, first_of-In}
use Rattle.pliron_core.proofs.NextLemmas.{rest_from-step, rest_from-first}

drop_at : (xs : List ℕ) (i x : ℕ) → slice_get xs i ≡ Some x → drop i xs ≡ x ∷ drop (i + 1) xs
drop_at xs i x e = go xs i e ∙ ap (λ n. x ∷ drop n xs) (add_one i)
  where
    add_one : (n : ℕ) → suc n ≡ n + 1
    add_one n = omega arith

    go : (ys : List ℕ) (n : ℕ) → slice_get ys n ≡ Some x → drop n ys ≡ x ∷ drop (suc n) ys
    go [] n e = absurd (not_none e)
    go (y ∷ ys) zero e = ap (λ z. z ∷ ys) (some_is e)
    go (y ∷ ys) (suc n) e = go ys n e

pub drop_end : (xs : List ℕ) (i : ℕ) → length xs ≤ i → drop i xs ≡ []
drop_end [] zero l = refl
drop_end [] (suc i) l = refl
drop_end (x ∷ xs) zero l = absurd (omega (arith, l))
drop_end (x ∷ xs) (suc i) l = drop_end xs i (omega (arith, l))

-- what does the rest from here does all from the start
abbrev pub IsLeft : {S : Type 0} → (List ℕ → S → S → Type 0) → (whole left : List ℕ) → (start now : S) → Type 0
IsLeft {S} Does whole left start now = (u : S) → Does left now u → Does whole start u

-- the same, along links: the next item is `at`
pub record IsWalk {S : Type 0} (Does : List ℕ → S → S → Type 0) (whole : List ℕ) (at : Option ℕ) (start now : S) : Type 0 where
  pub left : (u : S) → Does (rest_from at whole) now u → Does whole start u
  pub within : (x : ℕ) → at ≡ Some x → In x whole

module _ {S : Type 0} (Does : List ℕ → S → S → Type 0) where
  left_next : (whole left rest : List ℕ) (x : ℕ) (start now next : S) → left ≡ x ∷ rest → ((u : S) → Does rest next u → Does (x ∷ rest) now u) → IsLeft Does whole left start now → IsLeft Does whole rest start next
  left_next whole left rest x start now next e step l u d = l u (subst (λ z. Does z now u) (sym e) (step u d))

  left_end : (whole left : List ℕ) (start now : S) → left ≡ [] → Does [] now now → IsLeft Does whole left start now → Does whole start now
  left_end whole left start now e none l = l now (subst (λ z. Does z now now) (sym e) none)

  -- by indices
  pub counted_next : (whole : List ℕ) (i x : ℕ) (start now next : S) → slice_get whole i ≡ Some x → ((rest : List ℕ) (u : S) → Does rest next u → Does (x ∷ rest) now u) → IsLeft Does whole (drop i whole) start now → IsLeft Does whole (drop (i + 1) whole) start next
  counted_next whole i x start now next e step l = left_next whole (drop i whole) (drop (i + 1) whole) x start now next (drop_at whole i x e) (step (drop (i + 1) whole)) l

  pub counted_end : (whole : List ℕ) (i : ℕ) (start now : S) → length whole ≤ i → Does [] now now → IsLeft Does whole (drop i whole) start now → Does whole start now
  counted_end whole i start now all none l = left_end whole (drop i whole) start now (drop_end whole i all) none l

  -- along links
  pub walk_start : (whole : List ℕ) (at : Option ℕ) (start : S) → at ≡ first_of whole None → IsWalk Does whole at start start
  walk_start whole at start e = record {
    left = λ u d. subst (λ z. Does z start u) (ap (λ o. rest_from o whole) e ∙ all whole) d;
    within = λ x g. first_of-In x whole (sym e ∙ g);
  }
    where
      all : (xs : List ℕ) → rest_from (first_of xs None) xs ≡ xs
      all [] = refl
      all (x ∷ xs) = rest_from-first x xs

  pub walk_next : (whole : List ℕ) (at o : Option ℕ) (x : ℕ) (start now next : S) → IsDistinct whole → IsWalk Does whole at start now → at ≡ Some x → o ≡ next_in x whole → ((rest : List ℕ) (u : S) → Does rest next u → Does (x ∷ rest) now u) → IsWalk Does whole o start next
  walk_next whole at o x start now next d w e g step = record {
    left = left_next whole (rest_from at whole) (rest_from o whole) x start now next (ap (λ q. rest_from q whole) e ∙ rest_from-step whole x o d (w.within x e) g) (step (rest_from o whole)) w.left;
    within = λ y h. next_in-In y x whole (sym g ∙ h);
  }

  pub walk_smaller : (whole : List ℕ) (at o : Option ℕ) (x : ℕ) (start now : S) → IsDistinct whole → IsWalk Does whole at start now → at ≡ Some x → o ≡ next_in x whole → length (rest_from o whole) < length (rest_from at whole)
  walk_smaller whole at o x start now d w e g =
      let here : rest_from at whole ≡ x ∷ rest_from o whole = ap (λ q. rest_from q whole) e ∙ rest_from-step whole x o d (w.within x e) g in
      omega (arith, ap length here)

  pub walk_end : (whole : List ℕ) (at : Option ℕ) (start now : S) → at ≡ None → Does [] now now → IsWalk Does whole at start now → Does whole start now
  walk_end whole at start now e none w = left_end whole (rest_from at whole) start now (ap (λ o. rest_from o whole) e) none w.left
