-- What the search for visited regions answers.
use Rattle.std.specs.Prelude.{◌↔◌, ℕ, List, IsTrue}
use Rattle.pliron_core.specs.Tree.{Tree, In}
use Rattle.pliron_core.specs.Reads.{has_ssa}
use Rattle.pliron_opt_cfg.specs.Visited.{IsVisited, IsReachedIn}

-- the visited regions with SSA dominance, and the blocks that their entries reach
pub record AreVisits (t : Tree) (Start : ℕ → Type 0) (rs bs : List ℕ) : Type 0 where
  pub regions : (r : ℕ) → In r rs ↔ (IsVisited t Start r × IsTrue (has_ssa t r))
  pub blocks : (b : ℕ) → In b bs ↔ ((r : ℕ) × IsVisited t Start r × IsTrue (has_ssa t r) × IsReachedIn t r b)
