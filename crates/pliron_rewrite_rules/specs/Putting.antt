-- What is put before an operation for a term, and may be erased again.
use Rattle.std.specs.Prelude.{◌≡◌, ℕ, List, [], ◌∷◌, ◌++◌, IsSome}
use Rattle.pliron_core.specs.Invariant.{IsTree}
use Rattle.pliron_core.specs.Tree.{Tree, parent_of}
use Rattle.pliron_laws.specs.MaterialisedConstants.{IsRestored}
use Rattle.pliron_laws.specs.Outcomes.{next_op}
use Rattle.pliron_rewrite_rules.specs.Tables.{RuleTables}
use Rattle.pliron_rewrite_rules.specs.declared.term.Atom.{Atom}
use Rattle.pliron_rewrite_rules.specs.declared.term.Atom.TheVariants.{Named, Constant}
use Rattle.pliron_rewrite_rules.specs.Rewriting.{with_atom, with_atoms}
use Rattle.pliron_rewrite_rules.specs.RuleLaws.{IsAccepted}
use Rattle.pliron_rewrite_rules.specs.Views.{Each}

-- the operations that the constants of atoms are
abbrev pub atom_key : Tree → Atom → List ℕ
atom_key t (Named v) = []
atom_key t (Constant c) = next_op t ∷ []

abbrev pub atom_keys : RuleTables → Tree → ℕ → List Atom → List ℕ
atom_keys x t op [] = []
atom_keys x t op (atom ∷ atoms) = atom_key t atom ++ atom_keys x (with_atom x t op atom) op atoms

-- these were put before op for constants, and but for erased handles nothing else was changed
pub record AreErasable (x : RuleTables) (op : ℕ) (t : Tree) (made : List ℕ) (now : Tree) : Type 0 where
  pub tree : IsTree t
  pub placed : IsSome (parent_of t op)
  pub atoms : List Atom
  pub accepted : Each (IsAccepted x.accepts) atoms
  pub keys : made ≡ atom_keys x t op atoms
  pub back : IsRestored (with_atoms x t op atoms) now
