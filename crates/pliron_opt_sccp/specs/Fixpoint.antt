-- What the search finds.
use Rattle.std.specs.Prelude.{ℕ}
use Rattle.pliron_core.specs.Tree.{Tree}
use Rattle.pliron_theory.specs.LatticeValues.{Says, AreClosed, AreHeld}
use Rattle.pliron_opt_sccp.specs.declared.lattice_tables.Tables.{Tables}
use Rattle.pliron_opt_sccp.specs.LatticeTables.{lattice_values_of}
use Rattle.pliron_opt_sccp.specs.Precise.{AreMostPrecise, AreOwed}
use Rattle.pliron_opt_sccp.specs.Propagated.{CountsPops}

-- closed lattice values, the most precise ones where they are owed, and the count of what was popped off the
-- worklists
pub record IsSearched (x : Says) (t : Tree) (root : ℕ) (s : Tables) (pops : ℕ) : Type 0 where
  pub closed : AreClosed x t root (lattice_values_of s)
  pub held : AreHeld t root (lattice_values_of s)
  pub precise : AreOwed x t root → AreMostPrecise x t root (lattice_values_of s)
  pub count : CountsPops t root (lattice_values_of s) pops
