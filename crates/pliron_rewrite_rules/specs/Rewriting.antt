-- The tree in which a term has the uses of a result.
use Rattle.std.specs.Prelude.{◌≡◌, ℕ, List, [], ◌∷◌, Some, IsSome}
use Rattle.pliron_core.specs.Invariant.{IsTree}
use Rattle.pliron_core.specs.Tree.{Tree, IsLive, IsInside, parent_of, results_of}
use Rattle.pliron_core.specs.Writes.{after_replacing}
use Rattle.pliron_laws.specs.Linked.{IsWellLinked}
use Rattle.pliron_laws.specs.Outcomes.{next_value}
use Rattle.pliron_laws.specs.Tree.{Operation, op_at}
use Rattle.pliron_theory.specs.Change.{IsWholeChange}
use Rattle.pliron_theory.specs.Keeps.{KeepsAllRuns}
use Rattle.pliron_rewrite_rules.specs.Insertions.{with_operation}
use Rattle.pliron_rewrite_rules.specs.Tables.{RuleTables}
use Rattle.pliron_rewrite_rules.specs.declared.term.Atom.{Atom}
use Rattle.pliron_rewrite_rules.specs.declared.term.Atom.TheVariants.{Named, Constant}
use Rattle.pliron_rewrite_rules.specs.declared.term.Term.{Term}
use Rattle.pliron_rewrite_rules.specs.declared.term.Term.TheVariants.{Atomic, Make}
use Rattle.pliron_rewrite_rules.specs.RuleLaws.{IsRule}
use Rattle.pliron_rewrite_rules.specs.Seen.{pure_only, operation_view}

-- where the atom is a constant, a new operation for it is just before op
abbrev pub with_atom : RuleTables → Tree → ℕ → Atom → Tree
with_atom x t op (Named v) = t
with_atom x t op (Constant c) = with_operation t op (x.constant_head c) []

-- the value that stands for the atom then
abbrev pub atom_value : Tree → Atom → ℕ
atom_value t (Named v) = v
atom_value t (Constant c) = next_value t

-- the same of several atoms, in order
abbrev pub with_atoms : RuleTables → Tree → ℕ → List Atom → Tree
with_atoms x t op [] = t
with_atoms x t op (atom ∷ atoms) = with_atoms x (with_atom x t op atom) op atoms

abbrev pub atom_values : RuleTables → Tree → ℕ → List Atom → List ℕ
atom_values x t op [] = []
atom_values x t op (atom ∷ atoms) = atom_value t atom ∷ atom_values x (with_atom x t op atom) op atoms

-- what a term makes is just before op, and what it is there
abbrev pub with_term : RuleTables → Tree → ℕ → Term → Tree
with_term x t op (Atomic atom) = with_atom x t op atom
with_term x t op (Make head atoms) = with_operation (with_atoms x t op atoms) op head (atom_values x t op atoms)

abbrev pub term_value : RuleTables → Tree → ℕ → Term → ℕ
term_value x t op (Atomic atom) = atom_value t atom
term_value x t op (Make head atoms) = next_value (with_atoms x t op atoms)

-- and it has the uses of the value
abbrev pub after_rewriting : RuleTables → Tree → (op old : ℕ) → Term → Tree
after_rewriting x t op old term = after_replacing (with_term x t op term) old (term_value x t op term)

-- the term is that of a rule for what is seen of the pure operation op, whose result is old
pub record IsRuleFor (x : RuleTables) (t : Tree) (op old : ℕ) (term : Term) : Type 0 where
  pub placed : IsSome (parent_of t op)
  pub operation : Operation
  pub pure : pure_only x (op_at t op) ≡ Some operation
  pub result : results_of t op ≡ old ∷ []
  pub rule : IsRule x.meaning x.side_effects x.accepts (operation_view x t operation) term

-- such a rewrite keeps the runs of all roots, and is what a pass may do
pub record TermLaws (x : RuleTables) : Type 0 where
  pub runs : (t : Tree) (op old : ℕ) (term : Term) → IsTree t → IsRuleFor x t op old term → KeepsAllRuns x.meaning t (after_rewriting x t op old term)
  pub change : (t : Tree) (op old root : ℕ) (term : Term) → IsTree t → IsRuleFor x t op old term → IsLive t root → IsWellLinked x.meaning t root → IsInside t root op → IsWholeChange x.meaning t (after_rewriting x t op old term) root
