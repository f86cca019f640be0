-- Rules, and the equations that they owe.
use Rattle.std.specs.Prelude.{◌≡◌, ℕ, Bool, false, List, Option, Some, IsTrue, length}
use Rattle.pliron_core.specs.declared.attrs.AttrObj.{AttrObj}
use Rattle.pliron_core.specs.Tree.{In}
use Rattle.pliron_laws.specs.Datum.{Datum, Head, Meaning}
use Rattle.pliron_laws.specs.Laws.{Admitted}
use Rattle.pliron_laws.specs.States.{Environment}
use Rattle.pliron_rewrite_rules.specs.Insertions.{pure_shape}
use Rattle.pliron_rewrite_rules.specs.declared.view.View.{View}
use Rattle.pliron_rewrite_rules.specs.declared.term.Atom.{Atom}
use Rattle.pliron_rewrite_rules.specs.declared.term.Atom.TheVariants.{Named, Constant}
use Rattle.pliron_rewrite_rules.specs.declared.term.Term.{Term}
use Rattle.pliron_rewrite_rules.specs.declared.term.Term.TheVariants.{Atomic, Make}
use Rattle.pliron_rewrite_rules.specs.Views.{Each, Agrees, view_datum, term_datum, shown_in, named_in}

-- a dialect has operations with this head, so many operands and one result, which end no block and have no side effects
pub record IsPureHead (m : Meaning) (side_effects : Head → Option Bool) (head : Head) (operands : ℕ) : Type 0 where
  pub admitted : Admitted m (pure_shape head operands)
  pub no_terminator : m.is_terminator head ≡ false
  pub harmless : side_effects head ≡ Some false

-- the dialect makes each constant of the term, and has the operation
abbrev pub IsAccepted : (AttrObj → Bool) → Atom → Type 0
IsAccepted accepts (Named v) = Unit {0}
IsAccepted accepts (Constant c) = IsTrue (accepts c)

abbrev pub IsBuildable : Meaning → (Head → Option Bool) → (AttrObj → Bool) → Term → Type 0
IsBuildable m side_effects accepts (Atomic atom) = IsAccepted accepts atom
IsBuildable m side_effects accepts (Make head atoms) = IsPureHead m side_effects head (length atoms) × Each (IsAccepted accepts) atoms

-- the term may be built where the view is seen, and has the datum that the view has
pub record IsRule (m : Meaning) (side_effects : Head → Option Bool) (accepts : AttrObj → Bool) (view : View) (term : Term) : Type 0 where
  pub buildable : IsBuildable m side_effects accepts term
  pub shown : (v : ℕ) → In v (named_in term) → In v (shown_in view)
  pub equal : (env : Environment) (d : Datum) → Agrees m env view → view_datum m env view ≡ Some d → term_datum m env term ≡ Some d

-- each rule of a set does so: `rules` is the table of their clauses
abbrev pub RulesHold : Meaning → (Head → Option Bool) → (AttrObj → Bool) → (View → Option Term) → Type 0
RulesHold m side_effects accepts rules = (view : View) (term : Term) → rules view ≡ Some term → IsRule m side_effects accepts view term
