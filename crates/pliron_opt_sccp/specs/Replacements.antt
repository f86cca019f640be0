-- What the search owes to the rewriting.
use Rattle.std.specs.Prelude.{ℕ, Bool}
use Rattle.pliron_core.specs.Tree.{Tree}
use Rattle.pliron_laws.specs.Datum.{Head}
use Rattle.pliron_opt_sccp.specs.declared.rewrite.Replacements.{Replacements}
use Rattle.pliron_theory.specs.LatticeValues.{LatticeValues, Says}
use Rattle.pliron_opt_sccp.specs.Precise.{AreMostPrecise, AreOwed}
use Rattle.pliron_opt_sccp.specs.Propagated.{CountsPops}
use Rattle.pliron_opt_sccp.specs.RewriteSteps.{IsFound}

-- some lattice values are closed, and the most precise ones where they are owed; these are their folds and
-- arguments, and the count is one for them
pub record HasFound (x : Says) (can_fold : Head → Bool) (t : Tree) (root : ℕ) (found : Replacements) (pops : ℕ) : Type 0 where
  pub facts : LatticeValues
  pub found_by : IsFound x can_fold t root facts found
  pub precise : AreOwed x t root → AreMostPrecise x t root facts
  pub count : CountsPops t root facts pops
