-- The states that runs of a root come to.
use Rattle.std.proofs.Common.{◌≡◌, ℕ, zero, suc, List, refl, ap, ◌∙◌, subst}
use Rattle.pliron_laws.specs.Datum.{Datum, Meaning}
use Rattle.pliron_laws.specs.Tree.{Tree}
use Rattle.pliron_laws.specs.Machine.{State, Next, Continues, Over, Sight, run_from, onward, step, start}
use Rattle.pliron_theory.specs.Renaming.{RunReaches}
use Rattle.pliron_theory.proofs.Simulation.{IfGoes, Kept}

goes_same : (a b : State) → Continues a ≡ Continues b → a ≡ b
goes_same a b e = cc

not_over : (x : Sight) (a : State) → Over x ≡ Continues a → ⊥
not_over x a e = cc

-- one more step at the end
one_more : (f : State → Next) (n : ℕ) (s a b : State) → run_from f n s ≡ Continues a → f a ≡ Continues b → run_from f (suc n) s ≡ Continues b
one_more f zero s a b e g = let h = goes_same s a e in ap (λ z. onward (f z) (run_from f zero)) h ∙ ap (λ o. onward o (run_from f zero)) g
one_more f (suc n) s a b e g = go (f s) refl e (λ c h. one_more f n c a b h g)
  where
    go : (o : Next) → f s ≡ o → onward o (run_from f n) ≡ Continues a → ((c : State) → run_from f n c ≡ Continues a → run_from f (suc n) c ≡ Continues b) → onward (f s) (run_from f (suc n)) ≡ Continues b
    go (Continues c) h k again = ap (λ o. onward o (run_from f (suc n))) h ∙ again c k
    go (Over x) h k again = absurd (not_over x a k)

pub reached_kept : (m : Meaning) (t : Tree) (root : ℕ) → Kept (step m t) (RunReaches m t root)
reached_kept m t root = record { keeps = λ s r. go s r (step m t s) refl }
  where
    go : (s : State) → RunReaches m t root s → (o : Next) → step m t s ≡ o → IfGoes o (RunReaches m t root)
    go s r (Continues a) e = (r.0, r.1, suc r.2, one_more (step m t) r.2 (start root r.0 r.1) s a r.3 e)
    go s r (Over x) e = tt

pub reached_start : (m : Meaning) (t : Tree) (root : ℕ) (inputs world : List Datum) → RunReaches m t root (start root inputs world)
reached_start m t root inputs world = (inputs, world, zero, refl)

-- what holds at the start and is kept holds in each state that is reached
keeps_on : (f : State → Next) (P : State → Type 0) → Kept f P → (n : ℕ) (s a : State) → P s → run_from f n s ≡ Continues a → P a
keeps_on f P kept zero s a p e = subst P (goes_same s a e) p
keeps_on f P kept (suc n) s a p e = go (f s) (kept.keeps s p) e (λ c q h. keeps_on f P kept n c a q h)
  where
    go : (o : Next) → IfGoes o P → onward o (run_from f n) ≡ Continues a → ((c : State) → P c → run_from f n c ≡ Continues a → P a) → P a
    go (Continues c) q h again = again c q h
    go (Over x) q h again = absurd (not_over x a h)

pub reached_holds : (m : Meaning) (t : Tree) (root : ℕ) (P : State → Type 0) → Kept (step m t) P → ((inputs world : List Datum) → P (start root inputs world)) → (s : State) → RunReaches m t root s → P s
reached_holds m t root P kept begins s r = keeps_on (step m t) P kept r.2 (start root r.0 r.1) s (begins r.0 r.1) r.3
