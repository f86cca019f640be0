-- One region without its unreachable blocks.
use Rattle.std.specs.Prelude.{◌≡◌, ◌↔◌, ℕ, List}
use Rattle.pliron_core.specs.declared.attrs.IRStatus.{IRStatus}
use Rattle.pliron_core.specs.declared.attrs.IRStatus.TheVariants.{Changed, Unchanged}
use Rattle.pliron_core.specs.Tree.{Tree, In}
use Rattle.pliron_laws.specs.Datum.{Meaning}
use Rattle.pliron_theory.specs.Keeps.{KeepsAllRuns}
use Rattle.pliron_rewrite_blocks.specs.Cutting.{AreCut}
use Rattle.pliron_opt_cfg.specs.Visited.{IsCutOff}

-- exactly the blocks that the entry did not reach are erased, and there were some
pub record LosesCutOff (m : Meaning) (t v : Tree) (region : ℕ) : Type 0 where
  pub blocks : List ℕ
  pub exact : (b : ℕ) → In b blocks ↔ IsCutOff t region b
  pub one : ℕ
  pub listed : In one blocks
  pub cut : AreCut t v region blocks
  pub runs : KeepsAllRuns m t v

abbrev pub ClearsRegion : Meaning → (t v : Tree) → ℕ → IRStatus → Type 0
ClearsRegion m t v region Changed = LosesCutOff m t v region
ClearsRegion m t v region Unchanged = ((b : ℕ) → IsCutOff t region b → ⊥) × (v ≡ t)
