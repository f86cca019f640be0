-- Changes that keep runs, one after the other.
use Rattle.std.proofs.Common.{ℕ, ◌<◌, length, refl, ◌∙◌, arith}
use Rattle.pliron_core.specs.Tree.{Tree, IsLive}
use Rattle.pliron_core.proofs.HoldingLemmas.{past_live}
use Rattle.pliron_laws.specs.Datum.{Meaning}
use Rattle.pliron_theory.specs.Keeps.{IsFit, KeepsRuns}
use Rattle.pliron_theory.proofs.Simulation.{agree_refl, agree_trans}

pub keeps_refl : (m : Meaning) (t : Tree) → KeepsRuns m t t
keeps_refl m t = record { agrees = λ root f l. agree_refl m t root; heads = λ root f l. refl; stays = λ root f l. f; grows = omega arith; fewer = λ root lt l. l }

pub keeps_trans : (m : Meaning) (t u v : Tree) → KeepsRuns m t u → KeepsRuns m u v → KeepsRuns m t v
keeps_trans m t u v a b = record {
  agrees = λ root f l. agree_trans (a.agrees root f (mid root f l)) (b.agrees root (a.stays root f (mid root f l)) l);
  heads = λ root f l. b.heads root (a.stays root f (mid root f l)) l ∙ a.heads root f (mid root f l);
  stays = λ root f l. b.stays root (a.stays root f (mid root f l)) l;
  grows = let x = a.grows in let y = b.grows in omega (arith, x, y);
  fewer = λ root lt l. a.fewer root lt (b.fewer root (more root lt) l);
}
  where
    more : (root : ℕ) → root < length t.operations → root < length u.operations
    more root lt = let x = a.grows in omega (arith, x, lt)

    mid : (root : ℕ) → IsFit m t root → IsLive v root → IsLive u root
    mid root f l = b.fewer root (more root (past_live t root f.live)) l
