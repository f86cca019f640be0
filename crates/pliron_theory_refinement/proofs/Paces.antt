-- Two machines that keep pace, where the second may be more defined.
use Rattle.std.proofs.Common.{◌≡◌, ◌⊎◌, inl, inr, ℕ, zero, suc, ◌<◌, List, [], ◌∷◌, refl, sym, ap, ◌∙◌, subst, arith}
use Rattle.pliron_core.specs.Tree.{Tree}
use Rattle.pliron_laws.specs.Datum.{Datum, Meaning}
use Rattle.pliron_laws.specs.Machine.{State, Next, Continues, Over, Sight, Ended, Trapped, Reached, run_from, onward, sight_after, step, start}
use Rattle.pliron_laws.specs.Agree.{Shows, Agree}
use Rattle.pliron_theory_refinement.specs.Refinement.{Relation, IsPreorder, AllMayBecome, MayShow, IsUndefined, RefinesFrom, Refines}

abbrev IsReached : Sight → Type 0
IsReached (Reached es) = Unit {0}
IsReached (Ended ds es) = ⊥
IsReached (Trapped es) = ⊥

-- ---- preorders

pub all_refl : (R : Relation) → IsPreorder R → (ds : List Datum) → AllMayBecome R ds ds
all_refl R p [] = tt
all_refl R p (d ∷ ds) = (p.reflexive d, all_refl R p ds)

pub all_trans : (R : Relation) → IsPreorder R → (xs ys zs : List Datum) → AllMayBecome R xs ys → AllMayBecome R ys zs → AllMayBecome R xs zs
all_trans R p [] [] [] h k = tt
all_trans R p [] [] (c ∷ zs) h k = absurd k
all_trans R p [] (b ∷ ys) zs h k = absurd h
all_trans R p (a ∷ xs) [] zs h k = absurd h
all_trans R p (a ∷ xs) (b ∷ ys) [] h k = absurd k
all_trans R p (a ∷ xs) (b ∷ ys) (c ∷ zs) h k = (p.transitive a b c h.0 k.0, all_trans R p xs ys zs h.1 k.1)

module _ (R E : Relation) (p : IsPreorder R) (q : IsPreorder E) where
  allows_trans : (x y z : Sight) → MayShow R E x y → MayShow R E y z → MayShow R E x z
  allows_trans (Ended ds es) (Ended ds' es') (Ended ds'' es'') a b = (all_trans R p ds ds' ds'' a.0 b.0, all_trans E q es es' es'' a.1 b.1)
  allows_trans (Ended ds es) (Ended ds' es') (Reached es'') a b = absurd b
  allows_trans (Ended ds es) (Ended ds' es') (Trapped es'') a b = absurd b
  allows_trans (Ended ds es) (Reached es') z a b = absurd a
  allows_trans (Ended ds es) (Trapped es') z a b = absurd a
  allows_trans (Reached es) (Reached es') (Reached es'') a b = all_trans E q es es' es'' a b
  allows_trans (Reached es) (Reached es') (Ended ds'' es'') a b = absurd b
  allows_trans (Reached es) (Reached es') (Trapped es'') a b = absurd b
  allows_trans (Reached es) (Ended ds' es') z a b = absurd a
  allows_trans (Reached es) (Trapped es') z a b = absurd a
  allows_trans (Trapped es) y z a b = absurd a

  -- ---- an agreement is a refinement

  seen : (f g : State → Next) (s s' : State) (x : Sight) → Shows f s x → Shows g s' x → IsUndefined f s ⊎ ((x' : Sight) × Shows g s' x' × MayShow R E x x')
  seen f g s s' (Ended ds es) a b = inr (Ended ds es, b, (all_refl R p ds, all_refl E q es))
  seen f g s s' (Reached es) a b = inr (Reached es, b, all_refl E q es)
  seen f g s s' (Trapped es) a b = inl (a.0, es, trapped (run_from f a.0 s) a.1)
    where
      trapped : (o : Next) → sight_after o ≡ Trapped es → o ≡ Over (Trapped es)
      trapped (Continues z) e = absurd (subst IsReached e tt)
      trapped (Over x) e = ap Over e

  seen_back : (f g : State → Next) (s s' : State) (x : Sight) → Shows f s x → Shows g s' x → IsUndefined f s ⊎ ((x' : Sight) × Shows f s x' × MayShow R E x' x)
  seen_back f g s s' (Ended ds es) a b = inr (Ended ds es, a, (all_refl R p ds, all_refl E q es))
  seen_back f g s s' (Reached es) a b = inr (Reached es, a, all_refl E q es)
  seen_back f g s s' (Trapped es) a b = inl (a.0, es, trapped (run_from f a.0 s) a.1)
    where
      trapped : (o : Next) → sight_after o ≡ Trapped es → o ≡ Over (Trapped es)
      trapped (Continues z) e = absurd (subst IsReached e tt)
      trapped (Over x) e = ap Over e

  pub agreed_refines : (m : Meaning) (t u : Tree) (root : ℕ) → Agree m t u root → Refines R E m t u root
  agreed_refines m t u root a = record {
    refines = λ inputs world. record {
      forth = λ x h. seen (step m t) (step m u) (start root inputs world) (start root inputs world) x h ((a.alike inputs world x).0 h);
      back = λ x h. seen_back (step m t) (step m u) (start root inputs world) (start root inputs world) x ((a.alike inputs world x).1 h) h;
    };
  }

  -- ---- refinements compose

  -- what is undefined in the middle was so before
  undefined_back : (f g : State → Next) (s s' : State) → RefinesFrom R E f g s s' → IsUndefined g s' → IsUndefined f s
  undefined_back f g s s' r u = go (r.back (Trapped u.1) (u.0, ap sight_after u.2))
    where
      none : (x : Sight) → MayShow R E x (Trapped u.1) → ⊥
      none (Ended ds es) a = a
      none (Reached es) a = a
      none (Trapped es) a = a

      go : IsUndefined f s ⊎ ((x : Sight) × Shows f s x × MayShow R E x (Trapped u.1)) → IsUndefined f s
      go (inl i) = i
      go (inr x) = absurd (none x.0 x.2)

  pub refines_trans : (f g h : State → Next) (s s' s'' : State) → RefinesFrom R E f g s s' → RefinesFrom R E g h s' s'' → RefinesFrom R E f h s s''
  refines_trans f g h s s' s'' a b = record { forth = λ x k. forward x (a.forth x k); back = λ x k. backward x (b.back x k) }
    where
      forward_on : (x y : Sight) → MayShow R E x y → IsUndefined g s' ⊎ ((z : Sight) × Shows h s'' z × MayShow R E y z) → IsUndefined f s ⊎ ((z : Sight) × Shows h s'' z × MayShow R E x z)
      forward_on x y k (inl u) = inl (undefined_back f g s s' a u)
      forward_on x y k (inr z) = inr (z.0, z.1, allows_trans x y z.0 k z.2)

      forward : (x : Sight) → IsUndefined f s ⊎ ((y : Sight) × Shows g s' y × MayShow R E x y) → IsUndefined f s ⊎ ((z : Sight) × Shows h s'' z × MayShow R E x z)
      forward x (inl u) = inl u
      forward x (inr y) = forward_on x y.0 y.2 (b.forth y.0 y.1)

      backward_on : (z y : Sight) → MayShow R E y z → IsUndefined f s ⊎ ((x : Sight) × Shows f s x × MayShow R E x y) → IsUndefined f s ⊎ ((x : Sight) × Shows f s x × MayShow R E x z)
      backward_on z y k (inl u) = inl u
      backward_on z y k (inr x) = inr (x.0, x.1, allows_trans x.0 y z x.2 k)

      backward : (z : Sight) → IsUndefined g s' ⊎ ((y : Sight) × Shows g s' y × MayShow R E y z) → IsUndefined f s ⊎ ((x : Sight) × Shows f s x × MayShow R E x z)
      backward z (inl u) = inl (undefined_back f g s s' a u)
      backward z (inr y) = backward_on z y.0 y.2 (a.back y.0 y.1)

  pub refinements_compose : (m : Meaning) (t u v : Tree) (root : ℕ) → Refines R E m t u root → Refines R E m u v root → Refines R E m t v root
  refinements_compose m t u v root a b = record { refines = λ inputs world. refines_trans (step m t) (step m u) (step m v) (start root inputs world) (start root inputs world) (start root inputs world) (a.refines inputs world) (b.refines inputs world) }

-- ---- keeping pace

-- as the pace of machines that agree, but the first may stop in undefined behaviour
pub data Pace (R E : Relation) (f g : State → Next) (S : State → State → Type 0) (left : State → State → ℕ) (s s' : State) : Type 0 where
  Both : (a b : State) → f s ≡ Continues a → g s' ≡ Continues b → S a b → Pace R E f g S left s s'
  Finish : (x x' : Sight) → f s ≡ Over x → g s' ≡ Over x' → MayShow R E x x' → Pace R E f g S left s s'
  Stops : (es : List Datum) → f s ≡ Over (Trapped es) → Pace R E f g S left s s'
  Left : (a : State) → f s ≡ Continues a → S a s' → left a s' < left s s' → Pace R E f g S left s s'
  Right : (b : State) → g s' ≡ Continues b → S s b → left s b < left s s' → Pace R E f g S left s s'

pub record KeepPace (R E : Relation) (f g : State → Next) (S : State → State → Type 0) (left : State → State → ℕ) : Type 0 where
  pub effects : (s s' : State) → S s s' → AllMayBecome E s.effects s'.effects
  pub pace : (s s' : State) → S s s' → Pace R E f g S left s s'

module _ (R E : Relation) (f g : State → Next) (S : State → State → Type 0) (left : State → State → ℕ) (k : KeepPace R E f g S left) where
  abbrev Forth : State → State → Sight → Type 0
  Forth s s' x = IsUndefined f s ⊎ ((x' : Sight) × Shows g s' x' × MayShow R E x x')

  abbrev Back : State → State → Sight → Type 0
  Back s s' x' = IsUndefined f s ⊎ ((x : Sight) × Shows f s x × MayShow R E x x')

  later : (h : State → Next) (s b : State) (x : Sight) → h s ≡ Continues b → Shows h b x → Shows h s x
  later h s b x e n = (suc n.0, ap (λ o. sight_after (onward o (run_from h n.0))) e ∙ n.1)

  undefined_later : (s a : State) → f s ≡ Continues a → IsUndefined f a → IsUndefined f s
  undefined_later s a e u = (suc u.0, u.1, ap (λ o. onward o (run_from f u.0)) e ∙ u.2)

  stops_now : (s : State) (es : List Datum) → f s ≡ Over (Trapped es) → IsUndefined f s
  stops_now s es e = (1, es, ap (λ o. onward o (run_from f zero)) e)

  shows_now : (h : State → Next) (s : State) (x : Sight) → h s ≡ Over x → Shows h s x
  shows_now h s x e = (1, ap (λ o. sight_after (onward o (run_from h zero))) e)

  forth_both : (s s' a b : State) (x : Sight) → f s ≡ Continues a → g s' ≡ Continues b → Forth a b x → Forth s s' x
  forth_both s s' a b x e e' (inl u) = inl (undefined_later s a e u)
  forth_both s s' a b x e e' (inr y) = inr (y.0, later g s' b y.0 e' y.1, y.2)

  forth_left : (s s' a : State) (x : Sight) → f s ≡ Continues a → Forth a s' x → Forth s s' x
  forth_left s s' a x e (inl u) = inl (undefined_later s a e u)
  forth_left s s' a x e (inr y) = inr y

  forth_right : (s s' b : State) (x : Sight) → g s' ≡ Continues b → Forth s b x → Forth s s' x
  forth_right s s' b x e (inl u) = inl u
  forth_right s s' b x e (inr y) = inr (y.0, later g s' b y.0 e y.1, y.2)

  back_both : (s s' a b : State) (x : Sight) → f s ≡ Continues a → g s' ≡ Continues b → Back a b x → Back s s' x
  back_both s s' a b x e e' (inl u) = inl (undefined_later s a e u)
  back_both s s' a b x e e' (inr y) = inr (y.0, later f s a y.0 e y.1, y.2)

  back_left : (s s' a : State) (x : Sight) → f s ≡ Continues a → Back a s' x → Back s s' x
  back_left s s' a x e (inl u) = inl (undefined_later s a e u)
  back_left s s' a x e (inr y) = inr (y.0, later f s a y.0 e y.1, y.2)

  AllForth : ℕ → Type 0
  AllForth n = (s s' : State) → S s s' → Forth s s' (sight_after (run_from f n s))

  AllBack : ℕ → Type 0
  AllBack n = (s s' : State) → S s s' → Back s s' (sight_after (run_from g n s'))

  forth_suc : (n : ℕ) → AllForth n → (c : ℕ) (s s' : State) → left s s' < c → S s s' → Forth s s' (sight_after (run_from f (suc n) s))
  unfolding AllForth
  forth_suc n ih zero s s' lt r = absurd (omega arith)
  forth_suc n ih (suc c) s s' lt r = go (k.pace s s' r) (λ b lt' r'. forth_suc n ih c s b lt' r')
    where
      go : Pace R E f g S left s s' → ((b : State) → left s b < c → S s b → Forth s b (sight_after (run_from f (suc n) s))) → Forth s s' (sight_after (run_from f (suc n) s))
      go (Both a b e e' r') again = rw (e) (forth_both s s' a b _ e e' (ih a b r'))
      go (Finish x x' e e' al) again = inr (x', shows_now g s' x' e', subst (λ o. MayShow R E (sight_after (onward o (run_from f n))) x') (sym e) al)
      go (Stops es e) again = inl (stops_now s es e)
      go (Left a e r' lt') again = rw (e) (forth_left s s' a _ e (ih a s' r'))
      go (Right b e r' lt') again = forth_right s s' b _ e (again b (omega arith) r')

  forth : (n : ℕ) → AllForth n
  unfolding AllForth
  forth zero s s' r = inr (Reached s'.effects, (zero, refl), k.effects s s' r)
  forth (suc n) s s' r = forth_suc n (forth n) (suc (left s s')) s s' (omega arith) r

  back_suc : (n : ℕ) → AllBack n → (c : ℕ) (s s' : State) → left s s' < c → S s s' → Back s s' (sight_after (run_from g (suc n) s'))
  unfolding AllBack
  back_suc n ih zero s s' lt r = absurd (omega arith)
  back_suc n ih (suc c) s s' lt r = go (k.pace s s' r) (λ a lt' r'. back_suc n ih c a s' lt' r')
    where
      go : Pace R E f g S left s s' → ((a : State) → left a s' < c → S a s' → Back a s' (sight_after (run_from g (suc n) s'))) → Back s s' (sight_after (run_from g (suc n) s'))
      go (Both a b e e' r') again = rw (e') (back_both s s' a b _ e e' (ih a b r'))
      go (Finish x x' e e' al) again = inr (x, shows_now f s x e, subst (λ o. MayShow R E x (sight_after (onward o (run_from g n)))) (sym e') al)
      go (Stops es e) again = inl (stops_now s es e)
      go (Left a e r' lt') again = back_left s s' a _ e (again a (omega arith) r')
      go (Right b e r' lt') again = rw (e) (ih s b r')

  back : (n : ℕ) → AllBack n
  unfolding AllBack
  back zero s s' r = inr (Reached s.effects, (zero, refl), k.effects s s' r)
  back (suc n) s s' r = back_suc n (back n) (suc (left s s')) s s' (omega arith) r

  pub refined_by : (s s' : State) → S s s' → RefinesFrom R E f g s s'
  unfolding AllForth AllBack
  refined_by s s' r = record {
    forth = λ x h. subst (Forth s s') h.1 (forth h.0 s s' r);
    back = λ x h. subst (Back s s') h.1 (back h.0 s s' r);
  }
