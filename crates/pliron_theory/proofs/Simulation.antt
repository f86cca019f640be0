-- Two machines that keep pace show the same.
use Rattle.std.proofs.Common.{◌≡◌, ℕ, zero, suc, ◌<◌, List, refl, sym, ap, ◌∙◌, subst, arith}
use Rattle.pliron_laws.specs.Datum.{Datum, Meaning}
use Rattle.pliron_laws.specs.Tree.{Tree}
use Rattle.pliron_laws.specs.Machine.{State, Next, Continues, Over, Sight, Reached, run_from, onward, sight_after, step, start}
use Rattle.pliron_laws.specs.Agree.{Shows, SeenAlike, Agree}

pub agree_refl : (m : Meaning) (t : Tree) (root : ℕ) → Agree m t t root
agree_refl m t root = record { alike = λ inputs world x. (λ a. a, λ a. a) }

pub agree_sym : {m : Meaning} {t t' : Tree} {root : ℕ} → Agree m t t' root → Agree m t' t root
agree_sym a = record { alike = λ inputs world x. ((a.alike inputs world x).1, (a.alike inputs world x).0) }

pub agree_trans : {m : Meaning} {t u v : Tree} {root : ℕ} → Agree m t u root → Agree m u v root → Agree m t v root
agree_trans a b = record { alike = λ inputs world x. (λ s. (b.alike inputs world x).0 ((a.alike inputs world x).0 s), λ s. (a.alike inputs world x).1 ((b.alike inputs world x).1 s)) }

-- from two related states both machines make a step, or both are over alike, or one of them makes a step
-- which the other one waits for; a number falls where one waits
pub data Pace (f g : State → Next) (R : State → State → Type 0) (left : State → State → ℕ) (s s' : State) : Type 0 where
  Both : (a b : State) → f s ≡ Continues a → g s' ≡ Continues b → R a b → Pace f g R left s s'
  Finish : (x : Sight) → f s ≡ Over x → g s' ≡ Over x → Pace f g R left s s'
  Left : (a : State) → f s ≡ Continues a → R a s' → left a s' < left s s' → Pace f g R left s s'
  Right : (b : State) → g s' ≡ Continues b → R s b → left s b < left s s' → Pace f g R left s s'

pub record KeepPace (f g : State → Next) (R : State → State → Type 0) (left : State → State → ℕ) : Type 0 where
  pub effects : (s s' : State) → R s s' → s.effects ≡ s'.effects
  pub pace : (s s' : State) → R s s' → Pace f g R left s s'

-- what the first shows after n steps, the second shows too
Matches : (State → Next) → (State → Next) → (State → State → Type 0) → ℕ → Type 0
Matches f g R n = (s s' : State) → R s s' → Shows g s' (sight_after (run_from f n s))

-- one more step of the second
later : (g : State → Next) (s b : State) (x : Sight) → g s ≡ Continues b → Shows g b x → Shows g s x
later g s b x e h = (suc h.0, ap (λ o. sight_after (onward o (run_from g h.0))) e ∙ h.1)

matches_suc : (f g : State → Next) (R : State → State → Type 0) (left : State → State → ℕ) → KeepPace f g R left → (n : ℕ) → Matches f g R n → (c : ℕ) (s s' : State) → left s s' < c → R s s' → Shows g s' (sight_after (run_from f (suc n) s))
unfolding Matches
matches_suc f g R left k n ih zero s s' lt r = absurd (omega arith)
matches_suc f g R left k n ih (suc c) s s' lt r = go (k.pace s s' r) (λ b lt' r'. matches_suc f g R left k n ih c s b lt' r')
  where
    go : Pace f g R left s s' → ((b : State) → left s b < c → R s b → Shows g b (sight_after (run_from f (suc n) s))) → Shows g s' (sight_after (run_from f (suc n) s))
    go (Both a b e e' r') again = rw (e) (later g s' b _ e' (ih a b r'))
    go (Finish x e e') again = (1, ap (λ o. sight_after (onward o (run_from g zero))) e' ∙ sym (ap (λ o. sight_after (onward o (run_from f n))) e))
    go (Left a e r' lt') again = rw (e) (ih a s' r')
    go (Right b e r' lt') again = later g s' b _ e (again b (omega arith) r')

matches : (f g : State → Next) (R : State → State → Type 0) (left : State → State → ℕ) → KeepPace f g R left → (n : ℕ) → Matches f g R n
unfolding Matches
matches f g R left k zero s s' r = (zero, ap Reached (sym (k.effects s s' r)))
matches f g R left k (suc n) s s' r = matches_suc f g R left k n (matches f g R left k n) (suc (left s s')) s s' (omega arith) r

pub other_way : (f g : State → Next) (R : State → State → Type 0) (left : State → State → ℕ) → KeepPace f g R left → KeepPace g f (λ s s'. R s' s) (λ s s'. left s' s)
other_way f g R left k = record {
  effects = λ s s' r. sym (k.effects s' s r);
  pace = λ s s' r. turned s s' (k.pace s' s r);
}
  where
    turned : (s s' : State) → Pace f g R left s' s → Pace g f (λ s s'. R s' s) (λ s s'. left s' s) s s'
    turned s s' (Both a b e e' r) = Both b a e' e r
    turned s s' (Finish x e e') = Finish x e' e
    turned s s' (Left a e r lt) = Right a e r lt
    turned s s' (Right b e r lt) = Left b e r lt

shown_too : (f g : State → Next) (R : State → State → Type 0) (left : State → State → ℕ) → KeepPace f g R left → (s s' : State) → R s s' → (x : Sight) → Shows f s x → Shows g s' x
unfolding Matches
shown_too f g R left k s s' r x h = subst (λ y. Shows g s' y) h.1 (matches f g R left k h.0 s s' r)

pub seen_alike : (f g : State → Next) (R : State → State → Type 0) (left : State → State → ℕ) → KeepPace f g R left → (s s' : State) → R s s' → SeenAlike f g s s'
seen_alike f g R left k s s' r x = (shown_too f g R left k s s' r x, shown_too g f (λ s s'. R s' s) (λ s s'. left s' s) (other_way f g R left k) s' s r x)

-- a state that the first comes to has its like among those that the second comes to
Follows : (State → Next) → (State → Next) → (State → State → Type 0) → ℕ → Type 0
Follows f g R n = (s s' z : State) → R s s' → run_from f n s ≡ Continues z → (z' : State) × (k : ℕ) × (run_from g k s' ≡ Continues z') × R z z'

-- one step of the second, and the rest of its run
step_first : (g : State → Next) (k : ℕ) (s b z : State) → g s ≡ Continues b → run_from g k b ≡ Continues z → run_from g (suc k) s ≡ Continues z
step_first g k s b z e h = ap (λ o. onward o (run_from g k)) e ∙ h

follows_suc : (f g : State → Next) (R : State → State → Type 0) (left : State → State → ℕ) → KeepPace f g R left → (n : ℕ) → Follows f g R n → (c : ℕ) (s s' z : State) → left s s' < c → R s s' → run_from f (suc n) s ≡ Continues z → (z' : State) × (k : ℕ) × (run_from g k s' ≡ Continues z') × R z z'
unfolding Follows
follows_suc f g R left p n ih zero s s' z lt r e = absurd (omega arith)
follows_suc f g R left p n ih (suc c) s s' z lt r e = go (p.pace s s' r) (λ b lt' r'. follows_suc f g R left p n ih c s b z lt' r' e)
  where
    rest : (a : State) → f s ≡ Continues a → run_from f n a ≡ Continues z
    rest a h = ap (λ o. onward o (run_from f n)) (sym h) ∙ e

    go : Pace f g R left s s' → ((b : State) → left s b < c → R s b → (z' : State) × (k : ℕ) × (run_from g k b ≡ Continues z') × R z z') → (z' : State) × (k : ℕ) × (run_from g k s' ≡ Continues z') × R z z'
    go (Both a b h h' r') again = let x = ih a b z r' (rest a h) in (x.0, suc x.1, step_first g x.1 s' b x.0 h' x.2, x.3)
    go (Finish x h h') again = let w : Over x ≡ Continues z = ap (λ o. onward o (run_from f n)) (sym h) ∙ e in absurd (cc)
    go (Left a h r' lt') again = ih a s' z r' (rest a h)
    go (Right b h r' lt') again = let x = again b (omega arith) r' in (x.0, suc x.1, step_first g x.1 s' b x.0 h x.2, x.3)

follows : (f g : State → Next) (R : State → State → Type 0) (left : State → State → ℕ) → KeepPace f g R left → (n : ℕ) → Follows f g R n
unfolding Follows
follows f g R left p zero s s' z r e = let same : s ≡ z = cc in (s', zero, refl, subst (λ x. R x s') same r)
follows f g R left p (suc n) s s' z r e = follows_suc f g R left p n (follows f g R left p n) (suc (left s s')) s s' z (omega arith) r e

pub followed : (f g : State → Next) (R : State → State → Type 0) (left : State → State → ℕ) → KeepPace f g R left → (n : ℕ) (s s' z : State) → R s s' → run_from f n s ≡ Continues z → (z' : State) × (k : ℕ) × (run_from g k s' ≡ Continues z') × R z z'
unfolding Follows
followed f g R left p n = follows f g R left p n

-- the form for rewrites
pub agree_by : (m : Meaning) (t t' : Tree) (root : ℕ) (R : State → State → Type 0) (left : State → State → ℕ) → KeepPace (step m t) (step m t') R left → ((inputs world : List Datum) → R (start root inputs world) (start root inputs world)) → Agree m t t' root
agree_by m t t' root R left k r = record { alike = λ inputs world. seen_alike (step m t) (step m t') R left k _ _ (r inputs world) }

-- what a step keeps
abbrev pub IfGoes : Next → (State → Type 0) → Type 0
IfGoes (Continues s) P = P s
IfGoes (Over x) P = Unit {0}

pub record Kept (f : State → Next) (P : State → Type 0) : Type 0 where
  pub keeps : (s : State) → P s → IfGoes (f s) P

goes_kept : (f : State → Next) (P : State → Type 0) → Kept f P → (s a : State) → P s → f s ≡ Continues a → P a
goes_kept f P k s a p e = subst (λ o. IfGoes o P) e (k.keeps s p)

-- a fact about each state of the first machine may be used
pub pace_under : (f g : State → Next) (I : State → Type 0) (R : State → State → Type 0) (left : State → State → ℕ) → Kept f I → ((s s' : State) → R s s' → s.effects ≡ s'.effects) → ((s s' : State) → I s → R s s' → Pace f g R left s s') → KeepPace f g (λ s s'. I s × R s s') left
pace_under f g I R left kept eff p = record {
  effects = λ s s' r. eff s s' r.1;
  pace = λ s s' r. go s s' r.0 (p s s' r.0 r.1);
}
  where
    go : (s s' : State) → I s → Pace f g R left s s' → Pace f g (λ s s'. I s × R s s') left s s'
    go s s' i (Both a b e e' r) = Both a b e e' (goes_kept f I kept s a i e, r)
    go s s' i (Finish x e e') = Finish x e e'
    go s s' i (Left a e r lt) = Left a e (goes_kept f I kept s a i e, r) lt
    go s s' i (Right b e r lt) = Right b e (i, r) lt

-- facts about each state of both machines may be used
pub pace_under_both : (f g : State → Next) (I J : State → Type 0) (R : State → State → Type 0) (left : State → State → ℕ) → Kept f I → Kept g J → ((s s' : State) → R s s' → s.effects ≡ s'.effects) → ((s s' : State) → I s → J s' → R s s' → Pace f g R left s s') → KeepPace f g (λ s s'. I s × J s' × R s s') left
pace_under_both f g I J R left kept kept' eff p = record {
  effects = λ s s' r. eff s s' r.2;
  pace = λ s s' r. go s s' r.0 r.1 (p s s' r.0 r.1 r.2);
}
  where
    go : (s s' : State) → I s → J s' → Pace f g R left s s' → Pace f g (λ s s'. I s × J s' × R s s') left s s'
    go s s' i j (Both a b e e' r) = Both a b e e' (goes_kept f I kept s a i e, goes_kept g J kept' s' b j e', r)
    go s s' i j (Finish x e e') = Finish x e e'
    go s s' i j (Left a e r lt) = Left a e (goes_kept f I kept s a i e, j, r) lt
    go s s' i j (Right b e r lt) = Right b e (i, goes_kept g J kept' s' b j e, r) lt

pub anything_kept : (f : State → Next) → Kept f (λ s. Unit {0})
anything_kept f = record { keeps = λ s u. go (f s) }
  where
    go : (n : Next) → IfGoes n (λ s. Unit {0})
    go (Continues s) = tt
    go (Over x) = tt
