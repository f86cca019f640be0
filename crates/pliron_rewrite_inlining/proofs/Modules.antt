-- The trees of a program of which one module changed.
use Rattle.std.proofs.Common.{◌≡◌, ℕ, if◌then◌else◌, ⊎_elim, refl, ap}
use Rattle.std.proofs.lemmas.Bool.Decides.{eqb_tells}
use Rattle.pliron_core.specs.Tree.{Tree}
use Rattle.pliron_pass_linked.specs.LinkedRuns.{Program}
use Rattle.pliron_pass_linked.specs.KeepsLinked.{with_module}

module _ (p : Program) (n : ℕ) (u : Tree) where
  pub here_tree : with_module p n u n ≡ u
  unfolding with_module
  here_tree = ⊎_elim (λ y. ap (λ o. if o then u else p n) y.0) (λ y. absurd (y.1 refl)) (eqb_tells n n)

  pub there_tree : (k : ℕ) → (k ≡ n → ⊥) → with_module p n u k ≡ p k
  unfolding with_module
  there_tree k ne = ⊎_elim (λ y. absurd (ne y.1)) (λ y. ap (λ o. if o then u else p k) y.0) (eqb_tells k n)
