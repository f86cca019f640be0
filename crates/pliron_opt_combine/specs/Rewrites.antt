-- Rewrites by rules, one after the other.
use Rattle.std.specs.Prelude.{◌≡◌, ◌≤◌, ℕ, List, [], ◌∷◌, Option, length}
use Rattle.pliron_core.specs.Changes.{IsSameTree}
use Rattle.pliron_core.specs.Tree.{Tree}
use Rattle.pliron_graph_order.specs.Seen.{IsSeen}
use Rattle.pliron_rewrite_rules.specs.Tables.{RuleTables}
use Rattle.pliron_rewrite_rules.specs.declared.term.Term.{Term}
use Rattle.pliron_rewrite_rules.specs.declared.view.View.{View}
use Rattle.pliron_rewrite_rules.specs.Rewriting.{after_rewriting}
use Rattle.pliron_rewrite_rules.specs.Applying.{Applies}

-- an operation, and the term that has the uses of its result
pub record Rewrite : Type 0 where
  pub op : ℕ
  pub term : Term

-- the operation is seen, and the term, which the rules answer for it, is before it and has the uses of its result
abbrev pub RewritesTo : RuleTables → (View → Option Term) → ℕ → Rewrite → (t t' : Tree) → Type 0
RewritesTo x rules root r t t' = IsSeen t root r.op × ((is : Applies x rules t r.op r.term) × (t' ≡ after_rewriting x t r.op is.old r.term))

-- these rewrites, one after the other
abbrev pub RewriteInTurn : RuleTables → (View → Option Term) → ℕ → List Rewrite → (t t' : Tree) → Type 0
RewriteInTurn x rules root [] t t' = t' ≡ t
RewriteInTurn x rules root (r ∷ rs) t t' = (u : Tree) × RewritesTo x rules root r t u × RewriteInTurn x rules root rs u t'

-- at most so many rewrites, and then handles may have been erased
pub record AreRewritten (x : RuleTables) (rules : View → Option Term) (root limit : ℕ) (rs : List Rewrite) (t t' : Tree) : Type 0 where
  pub before : Tree
  pub in_turn : RewriteInTurn x rules root rs t before
  pub same : IsSameTree before t'
  pub most : length rs ≤ limit

-- the rules apply to something that is seen
abbrev pub HasRewrites : RuleTables → (View → Option Term) → Tree → ℕ → Type 0
HasRewrites x rules t root = (r : Rewrite) × (u : Tree) × RewritesTo x rules root r t u
