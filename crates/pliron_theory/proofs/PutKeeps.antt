-- Putting operations that use nothing and give at once into blocks keeps what roots do.
use Rattle.std.proofs.Common.{◌≡◌, ℕ, ◌<◌, ◌≤◌, Bool, true, false, ◌∷◌, length, IsSome, refl, sym, ap, ◌∙◌, subst, arith}
use Rattle.pliron_core.specs.Tree.{Tree, In, operands_of}
use Rattle.pliron_core.specs.Invariant.{IsTree}
use Rattle.pliron_core.proofs.HoldingLemmas.{past_live}
use Rattle.pliron_laws.specs.Datum.{Datum, Meaning}
use Rattle.pliron_theory.specs.Keeps.{IsFit, KeepsRuns}
use Rattle.pliron_theory.specs.Sweeping.{IsSwept, AreAway, ArePut, GivesNow}
use Rattle.pliron_theory.specs.Renaming.{IsReadAs}
use Rattle.pliron_theory.proofs.Simulation.{agree_sym}
use Rattle.pliron_theory.proofs.Substitute.{put_one, placed_all}
use Rattle.pliron_theory.proofs.SweptLists.{place_if}
use Rattle.pliron_theory.proofs.SweptAgree.{swept_agree, swept_reached}
use Rattle.pliron_theory.proofs.PutStays.{no_block_dead, put_fit}

-- a value that a run reads as one datum in the first tree is read so in the second one
abbrev pub KeepsReads : Meaning → (t t' : Tree) → Type 0
KeepsReads m t t' = (root : ℕ) → IsFit m t root → (v : ℕ) (c : Datum) → IsReadAs m t v c root → IsReadAs m t' v c root

-- t' is before, and t after; the operations are made and put_one at once
module _ (m : Meaning) (t t' : Tree) (dead : ℕ → Bool) (w : IsTree t) (w' : IsTree t') (h : IsSwept t t' dead no_block_dead) (g : AreAway t' dead no_block_dead) (p : ArePut m t t' dead) (longer : length t'.operations ≤ length t.operations) (fresh : (k : ℕ) → dead k ≡ true → length t'.operations ≤ k) (gives : (k : ℕ) → dead k ≡ true → GivesNow m t k) where
  old : (k : ℕ) → k < length t'.operations → dead k ≡ false
  old k lt = go (dead k) refl
    where
      go : (b : Bool) → dead k ≡ b → dead k ≡ false
      go true d = let n = fresh k d in absurd (omega (arith, n, lt))
      go false d = d

  fit : (root : ℕ) → IsFit m t' root → IsFit m t root
  fit root f = put_fit m t t' dead w w' h g p root f (old root (past_live t' root f.live))

  pub put_keeps : KeepsRuns m t' t
  put_keeps = record {
    agrees = λ root f l.
        let f' = fit root f in
        agree_sym (swept_agree m t t' dead no_block_dead w w' h root f'.linked.edges f'.defined (λ k b i d e q. gives k d) (old root (past_live t' root f.live)) f'.live);
    heads = λ root f l. sym (ap (λ z. z.head) (h.rows root (old root (past_live t' root f.live))));
    stays = λ root f l. fit root f;
    grows = longer;
    fewer = λ root lt l. subst (λ z. IsSome z.head) (sym (h.rows root (old root lt))) l;
  }

  user_old : (k v : ℕ) → In v (operands_of t k) → dead k ≡ false
  user_old k v i = go (dead k) refl
    where
      go : (b : Bool) → dead k ≡ b → dead k ≡ false
      go true d = absurd (subst (In v) (p.operands k d) i)
      go false d = d

  pub put_reads : KeepsReads m t' t
  put_reads root f v c reads s k rest r e none i =
      let f' = fit root f in
      let lk = user_old k v i in
      let x = swept_reached m t t' dead no_block_dead w w' h root f'.linked.edges f'.defined (λ k b i d e q. gives k d) (old root (past_live t' root f.live)) f'.live s r in
      let at : x.0.rest ≡ k ∷ placed_all (λ z. place_if (dead z)) (λ z. z) rest = x.2.place.0 ∙ ap (placed_all (λ z. place_if (dead z)) (λ z. z)) e ∙ ap (λ b. put_one (λ z. z) (place_if b) k (placed_all (λ z. place_if (dead z)) (λ z. z) rest)) lk in
      x.2.environment v (h.values k v lk i) ∙ reads x.0 k _ x.1 at (sym x.2.answer ∙ none) (subst (In v) (sym (h.operands k lk)) i)
