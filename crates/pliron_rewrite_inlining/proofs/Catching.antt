-- Two linked machines that meet again and again show the same.
use Rattle.std.proofs.Common.{◌≡◌, ◌↔◌, ℕ, zero, suc, refl, sym, ap, ◌∙◌, subst}
use Rattle.pliron_laws.specs.Machine.{Sight, Reached}
use Rattle.pliron_pass_linked.specs.LinkedRuns.{LinkedState, LinkedNext, Goes, Stops, goes_on, linked_from, linked_sight}
use Rattle.pliron_pass_linked.specs.LinkedAgree.{LinkedShows}

-- n steps without an effect that the world sees
abbrev pub Silent : (LinkedState → LinkedNext) → ℕ → LinkedState → LinkedState → Type 0
Silent f zero s a = s ≡ a
Silent f (suc n) s a = (b : LinkedState) × (f s ≡ Goes b) × (b.effects ≡ s.effects) × Silent f n b a

-- both are on their ways to related states
pub record AreOnWay (f g : LinkedState → LinkedNext) (R : LinkedState → LinkedState → Type 0) (s s' : LinkedState) : Type 0 where
  pub left : ℕ
  pub right : ℕ
  pub a : LinkedState
  pub b : LinkedState
  pub comes : Silent f left s a
  pub other_comes : Silent g right s' b
  pub related : R a b

pub data Meets (f g : LinkedState → LinkedNext) (R : LinkedState → LinkedState → Type 0) (s s' : LinkedState) : Type 0 where
  Stop : (y : Sight) → f s ≡ Stops y → g s' ≡ Stops y → Meets f g R s s'
  Go : (a b : LinkedState) → f s ≡ Goes a → g s' ≡ Goes b → AreOnWay f g R a b → Meets f g R s s'

pub record Meeting (f g : LinkedState → LinkedNext) (R : LinkedState → LinkedState → Type 0) : Type 0 where
  pub effects : (s s' : LinkedState) → R s s' → s.effects ≡ s'.effects
  pub meets : (s s' : LinkedState) → R s s' → Meets f g R s s'

silent_effects : (f : LinkedState → LinkedNext) (n : ℕ) (s a : LinkedState) → Silent f n s a → a.effects ≡ s.effects
silent_effects f zero s a e = ap (λ z. z.effects) (sym e)
silent_effects f (suc n) s a w = silent_effects f n w.0 a w.3 ∙ w.2

one_step : (f : LinkedState → LinkedNext) (s b : LinkedState) (x : Sight) → f s ≡ Goes b → LinkedShows f b x → LinkedShows f s x
one_step f s b x e p = (suc p.0, ap (λ o. linked_sight (goes_on o (linked_from f p.0))) e ∙ p.1)

silent_shows : (f : LinkedState → LinkedNext) (n : ℕ) (s a : LinkedState) (x : Sight) → Silent f n s a → LinkedShows f a x → LinkedShows f s x
silent_shows f zero s a x e p = subst (λ z. LinkedShows f z x) (sym e) p
silent_shows f (suc n) s a x w p = one_step f s w.0 x w.1 (silent_shows f n w.0 a x w.3 p)

module _ (f g : LinkedState → LinkedNext) (R : LinkedState → LinkedState → Type 0) (k : Meeting f g R) where
  -- what the first shows after n steps, the second shows too
  abbrev Follow : ℕ → Type 0
  Follow n = (s s' : LinkedState) → AreOnWay f g R s s' → LinkedShows g s' (linked_sight (linked_from f n s))

  met : (n : ℕ) → Follow n → (s s' : LinkedState) → R s s' → LinkedShows g s' (linked_sight (linked_from f (suc n) s))
  met n again s s' r = go (k.meets s s' r)
    where
      go : Meets f g R s s' → LinkedShows g s' (linked_sight (linked_from f (suc n) s))
      go (Stop y e e') = subst (λ o. LinkedShows g s' (linked_sight (goes_on o (linked_from f n)))) (sym e) (1, ap (λ o. linked_sight (goes_on o (linked_from g zero))) e')
      go (Go a b e e' w) = subst (λ o. LinkedShows g s' (linked_sight (goes_on o (linked_from f n)))) (sym e) (one_step g s' b _ e' (again a b w))

  on_way : (n : ℕ) → Follow n → (left right : ℕ) (s s' a b : LinkedState) → Silent f left s a → Silent g right s' b → R a b → LinkedShows g s' (linked_sight (linked_from f (suc n) s))
  on_way n again zero right s s' a b e w r = silent_shows g right s' b _ w (subst (λ z. LinkedShows g b (linked_sight (linked_from f (suc n) z))) (sym e) (met n again a b r))
  on_way n again (suc left) right s s' a b v w r = subst (λ o. LinkedShows g s' (linked_sight (goes_on o (linked_from f n)))) (sym v.1) (again v.0 s' (record { left = left; right = right; a = a; b = b; comes = v.3; other_comes = w; related = r }))

  follows : (n : ℕ) → Follow n
  follows zero s s' w = (zero, ap Reached (sym (silent_effects g w.right s' w.b w.other_comes) ∙ sym (k.effects w.a w.b w.related) ∙ silent_effects f w.left s w.a w.comes))
  follows (suc n) s s' w = on_way n (follows n) w.left w.right s s' w.a w.b w.comes w.other_comes w.related

  pub shown_too : (s s' : LinkedState) → R s s' → (x : Sight) → LinkedShows f s x → LinkedShows g s' x
  shown_too s s' r x p = subst (λ y. LinkedShows g s' y) p.1 (follows p.0 s s' (record { left = zero; right = zero; a = s; b = s'; comes = refl; other_comes = refl; related = r }))

other_way : (f g : LinkedState → LinkedNext) (R : LinkedState → LinkedState → Type 0) → Meeting f g R → Meeting g f (λ s s'. R s' s)
other_way f g R k = record {
  effects = λ s s' r. sym (k.effects s' s r);
  meets = λ s s' r. turned s s' (k.meets s' s r);
}
  where
    turned : (s s' : LinkedState) → Meets f g R s' s → Meets g f (λ a b. R b a) s s'
    turned s s' (Stop y e e') = Stop y e' e
    turned s s' (Go a b e e' w) = Go b a e' e (record { left = w.right; right = w.left; a = w.b; b = w.a; comes = w.other_comes; other_comes = w.comes; related = w.related })

pub shown_alike : (f g : LinkedState → LinkedNext) (R : LinkedState → LinkedState → Type 0) → Meeting f g R → (s s' : LinkedState) → R s s' → (x : Sight) → LinkedShows f s x ↔ LinkedShows g s' x
shown_alike f g R k s s' r x = (shown_too f g R k s s' r x, shown_too g f (λ a b. R b a) (other_way f g R k) s' s r x)
