-- Putting operations that use what they may use and give at once into blocks keeps what roots do.
use Rattle.std.proofs.Common.{◌≡◌, ℕ, ◌<◌, ◌≤◌, Bool, true, false, length, IsSome, refl, sym, ap, subst, arith}
use Rattle.pliron_core.specs.Tree.{Tree}
use Rattle.pliron_core.specs.Invariant.{IsTree}
use Rattle.pliron_core.proofs.HoldingLemmas.{past_live}
use Rattle.pliron_laws.specs.Datum.{Meaning}
use Rattle.pliron_theory.specs.Keeps.{IsFit, KeepsRuns}
use Rattle.pliron_theory.specs.Sweeping.{IsSwept, AreAway, GivesNow}
use Rattle.pliron_rewrite_equals.specs.Putting.{AreInserted, InsertingLaw}
use Rattle.pliron_theory.proofs.Simulation.{agree_sym}
use Rattle.pliron_theory.proofs.SweptAgree.{swept_agree}
use Rattle.pliron_rewrite_equals.proofs.PutStays.{no_block_dead, put_fit}

-- t' is before, and t after; the operations are made and put_one at once
module _ (m : Meaning) (t t' : Tree) (dead : ℕ → Bool) (w : IsTree t) (w' : IsTree t') (h : IsSwept t t' dead no_block_dead) (g : AreAway t' dead no_block_dead) (p : AreInserted m t t' dead) (longer : length t'.operations ≤ length t.operations) (fresh : (k : ℕ) → dead k ≡ true → length t'.operations ≤ k) (gives : (k : ℕ) → dead k ≡ true → GivesNow m t k) where
  old : (k : ℕ) → k < length t'.operations → dead k ≡ false
  old k lt = go (dead k) refl
    where
      go : (b : Bool) → dead k ≡ b → dead k ≡ false
      go true d = let n = fresh k d in absurd (omega (arith, n, lt))
      go false d = d

  fit : (root : ℕ) → IsFit m t' root → IsFit m t root
  fit root f = put_fit m t t' dead w w' h g p root f (old root (past_live t' root f.live))

  pub put_keeps : KeepsRuns m t' t
  put_keeps = record {
    agrees = λ root f l.
        let f' = fit root f in
        agree_sym (swept_agree m t t' dead no_block_dead w w' h root f'.linked.edges f'.defined (λ k b i d e q. gives k d) (old root (past_live t' root f.live)) f'.live);
    heads = λ root f l. sym (ap (λ z. z.head) (h.rows root (old root (past_live t' root f.live))));
    stays = λ root f l. fit root f;
    grows = longer;
    fewer = λ root lt l. subst (λ z. IsSome z.head) (sym (h.rows root (old root lt))) l;
  }

pub inserting : InsertingLaw
inserting m t t' new w w' h g p longer fresh gives = put_keeps m t' t new w' w h g p longer fresh gives
