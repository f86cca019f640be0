-- Applying a set of rules to an operation.
use Rattle.std.specs.Prelude.{◌≡◌, ◌≢◌, ℕ, [], ◌∷◌, Option, Some, None}
use Rattle.pliron_core.specs.Tree.{Tree, In, IsInside, IsLive, operands_of, results_of}
use Rattle.pliron_laws.specs.Datum.{Meaning}
use Rattle.pliron_laws.specs.Linked.{IsWellLinked}
use Rattle.pliron_laws.specs.Tree.{Operation, op_at}
use Rattle.pliron_theory.specs.Change.{IsWholeChange}
use Rattle.pliron_theory.specs.Edges.{KeepsEdges}
use Rattle.pliron_theory.specs.Keeps.{KeepsAllRuns}
use Rattle.pliron_rewrite_rules.specs.Tables.{RuleTables}
use Rattle.pliron_rewrite_rules.specs.declared.view.View.{View}
use Rattle.pliron_rewrite_rules.specs.declared.term.Atom.TheVariants.{Named}
use Rattle.pliron_rewrite_rules.specs.declared.term.Term.{Term}
use Rattle.pliron_rewrite_rules.specs.declared.term.Term.TheVariants.{Atomic}
use Rattle.pliron_rewrite_rules.specs.Rewriting.{term_value, after_rewriting}
use Rattle.pliron_rewrite_rules.specs.Seen.{pure_only, operation_view}

-- the term that the rules answer for a pure operation
abbrev pub rule_answer : RuleTables → Tree → (View → Option Term) → Option Operation → Option Term
rule_answer x t rules None = None
rule_answer x t rules (Some o) = rules (operation_view x t o)

abbrev pub answered_term : RuleTables → Tree → (View → Option Term) → ℕ → Option Term
answered_term x t rules op = rule_answer x t rules (pure_only x (op_at t op))

-- the rules answer this term for the operation, whose result is used and isn't that term
pub record Applies (x : RuleTables) (rules : View → Option Term) (t : Tree) (op : ℕ) (term : Term) : Type 0 where
  pub old : ℕ
  pub result : results_of t op ≡ old ∷ []
  pub used : (user : ℕ) × In old (operands_of t user)
  pub answer : answered_term x t rules op ≡ Some term
  pub apart : term ≢ Atomic (Named old)

-- an answer for the operation is a term that applies, where there is one
abbrev pub IsRuleAnswer : RuleTables → (View → Option Term) → Tree → ℕ → Option Term → Type 0
IsRuleAnswer x rules t op None = (term : Term) → Applies x rules t op term → ⊥
IsRuleAnswer x rules t op (Some term) = Applies x rules t op term

-- a term that applies is before the operation, and its value has the uses of the result; or none applies
abbrev pub IsRewritten : RuleTables → (View → Option Term) → (t t' : Tree) → ℕ → Option ℕ → Type 0
IsRewritten x rules t t' op None = ((term : Term) → Applies x rules t op term → ⊥) × (t' ≡ t)
IsRewritten x rules t t' op (Some new) = (term : Term) × (is : Applies x rules t op term) × (t' ≡ after_rewriting x t op is.old term) × (new ≡ term_value x t op term)

-- runs of all roots, links and edges are kept, and for each root that has op inside it is what a pass may do
pub record IsLocalChange (m : Meaning) (t t' : Tree) (op : ℕ) : Type 0 where
  pub runs : KeepsAllRuns m t t'
  pub links : (root : ℕ) → IsWellLinked m t root → IsWellLinked m t' root
  pub edges : KeepsEdges t t'
  pub change : (root : ℕ) → IsLive t root → IsWellLinked m t root → IsInside t root op → IsWholeChange m t t' root
