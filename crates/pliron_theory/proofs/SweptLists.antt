-- Lists without some of their members.
use Rattle.std.proofs.Common.{◌≡◌, inl, inr, ℕ, Bool, true, false, true≢false, List, [], ◌∷◌, ◌++◌, Option, Some, None, refl, sym, ap, ap₂, ◌∙◌, arith}
use Rattle.pliron_core.specs.Lists.{In, first_of, last_of}
use Rattle.pliron_core.proofs.LastLemmas.{last_front}
use Rattle.pliron_core.proofs.RowLemmas.{last_of-append}
use Rattle.pliron_theory.specs.Sweeping.{keep, swept}
use Rattle.pliron_theory.proofs.Substitute.{put_one, placed_all}

abbrev pub place_if : Bool → Option (List ℕ)
place_if true = Some []
place_if false = None

module _ (dead : ℕ → Bool) where
  pub in_swept : (p : ℕ) → dead p ≡ false → (ks : List ℕ) → In p ks → In p (swept dead ks)
  in_swept p l [] i = i
  in_swept p l (k ∷ ks) i = go (dead k) refl i (λ j. in_swept p l ks j)
    where
      go : (b : Bool) → dead k ≡ b → In p (k ∷ ks) → (In p ks → In p (swept dead ks)) → In p (keep b k (swept dead ks))
      go true d (inl e) rest = absurd (true≢false (sym d ∙ ap dead (sym e) ∙ l))
      go true d (inr j) rest = rest j
      go false d (inl e) rest = inl e
      go false d (inr j) rest = inr (rest j)

  pub from_swept : (p : ℕ) (ks : List ℕ) → In p (swept dead ks) → In p ks × (dead p ≡ false)
  from_swept p [] i = absurd i
  from_swept p (k ∷ ks) i = go (dead k) refl i (λ j. from_swept p ks j)
    where
      go : (b : Bool) → dead k ≡ b → In p (keep b k (swept dead ks)) → (In p (swept dead ks) → In p ks × (dead p ≡ false)) → In p (k ∷ ks) × (dead p ≡ false)
      go true e i f = let x = f i in (inr x.0, x.1)
      go false e (inl s) f = (inl s, ap dead s ∙ e)
      go false e (inr j) f = let x = f j in (inr x.0, x.1)

  -- a place among those that are left is a place among all, and the other way round
  pub cut : (u : ℕ) (rest : List ℕ) (ks done : List ℕ) → swept dead ks ≡ done ++ u ∷ rest → (before after : List ℕ) × (ks ≡ before ++ u ∷ after) × (swept dead before ≡ done) × (swept dead after ≡ rest)
  cut u rest [] [] e = grind arith
  cut u rest [] (d ∷ done) e = grind arith
  cut u rest (k ∷ ks) done e = go (dead k) refl done e (λ done' f. cut u rest ks done' f)
    where
      go : (b : Bool) → dead k ≡ b → (done : List ℕ) → keep b k (swept dead ks) ≡ done ++ u ∷ rest → ((done' : List ℕ) → swept dead ks ≡ done' ++ u ∷ rest → (before after : List ℕ) × (ks ≡ before ++ u ∷ after) × (swept dead before ≡ done') × (swept dead after ≡ rest)) → (before after : List ℕ) × (k ∷ ks ≡ before ++ u ∷ after) × (swept dead before ≡ done) × (swept dead after ≡ rest)
      go true d done e ih =
          let x = ih done e in
          (k ∷ x.0, x.1, ap (λ l. k ∷ l) x.2, ap (λ b. keep b k (swept dead x.0)) d ∙ x.3, x.4)
      go false d [] e ih =
          let f : k ≡ u = cc in
          let g : swept dead ks ≡ rest = cc in
          ([], ks, ap (λ z. z ∷ ks) f, refl, g)
      go false d (y ∷ done) e ih =
          let f : k ≡ y = cc in
          let g : swept dead ks ≡ done ++ u ∷ rest = cc in
          let x = ih done g in
          (k ∷ x.0, x.1, ap (λ l. k ∷ l) x.2, ap (λ b. keep b k (swept dead x.0)) d ∙ ap₂ (λ a b. a ∷ b) f x.3, x.4)

  pub swept_split : (u : ℕ) (rest done : List ℕ) → dead u ≡ false → swept dead (done ++ u ∷ rest) ≡ swept dead done ++ u ∷ swept dead rest
  swept_split u rest [] l = ap (λ b. keep b u (swept dead rest)) l
  swept_split u rest (d ∷ done) l = ap (keep (dead d) d) (swept_split u rest done l) ∙ go (dead d)
    where
      go : (b : Bool) → keep b d (swept dead done ++ u ∷ swept dead rest) ≡ keep b d (swept dead done) ++ u ∷ swept dead rest
      go true = refl
      go false = refl

  pub last_swept : (k : ℕ) (xs : List ℕ) → dead k ≡ false → last_of None xs ≡ Some k → last_of None (swept dead xs) ≡ Some k
  last_swept k xs l e =
      let s = last_front xs k e in
      ap (λ ys. last_of None (swept dead ys)) s.1 ∙ ap (last_of None) (swept_split k [] s.0 l) ∙ last_of-append None (swept dead s.0) (k ∷ [])

  pub first_swept : (a : ℕ) (xs : List ℕ) → dead a ≡ false → first_of xs None ≡ Some a → first_of (swept dead xs) None ≡ Some a
  first_swept a [] l e = e
  first_swept a (x ∷ xs) l e = let f : x ≡ a = cc in ap (λ b. first_of (keep b x (swept dead xs)) None) (ap dead f ∙ l) ∙ ap Some f

  pub swept_all : (xs : List ℕ) → ((k : ℕ) → In k xs → dead k ≡ false) → swept dead xs ≡ xs
  swept_all [] f = refl
  swept_all (x ∷ xs) f = ap (λ b. keep b x (swept dead xs)) (f x (inl refl)) ∙ ap (λ l. x ∷ l) (swept_all xs (λ k i. f k (inr i)))

  -- the same as places that nothing takes
  pub placed_swept : (ks : List ℕ) → placed_all (λ k. place_if (dead k)) (λ k. k) ks ≡ swept dead ks
  placed_swept [] = refl
  placed_swept (k ∷ ks) = go (dead k) (placed_swept ks)
    where
      go : (b : Bool) → placed_all (λ k. place_if (dead k)) (λ k. k) ks ≡ swept dead ks → put_one (λ k. k) (place_if b) k (placed_all (λ k. place_if (dead k)) (λ k. k) ks) ≡ keep b k (swept dead ks)
      go true e = e
      go false e = ap (λ l. k ∷ l) e
