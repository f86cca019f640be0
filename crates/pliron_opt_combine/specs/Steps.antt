-- One operation after the other.
use Rattle.std.specs.Prelude.{◌≡◌, ◌⊎◌, ◌<◌, ◌+◌, ℕ, List, Option, length}
use Rattle.pliron_core.specs.Tree.{Tree, In, IsLive, operands_of}
use Rattle.pliron_laws.specs.Datum.{Meaning}
use Rattle.pliron_laws.specs.Linked.{IsWellLinked}
use Rattle.pliron_theory.specs.Change.{IsWholeChange}
use Rattle.pliron_theory.specs.Edges.{KeepsEdges}
use Rattle.pliron_graph_order.specs.Seen.{IsSeen, IsUsed}
use Rattle.pliron_rewrite_rules.specs.Tables.{RuleTables}
use Rattle.pliron_rewrite_rules.specs.declared.term.Term.{Term}
use Rattle.pliron_rewrite_rules.specs.declared.view.View.{View}
use Rattle.pliron_rewrite_rules.specs.Applying.{Applies}
use Rattle.pliron_opt_combine.specs.Rewrites.{Rewrite, RewriteInTurn, AreRewritten}

abbrev pub AreSeen : Tree → ℕ → List ℕ → Type 0
AreSeen t root ops = (k : ℕ) → In k ops → IsSeen t root k

-- some value has lost its uses, and none has the first ones
pub record LosesUses (t t' : Tree) : Type 0 where
  pub fewer : (v : ℕ) → IsUsed t' v → IsUsed t v
  pub value : ℕ
  pub used : IsUsed t value
  pub lost : IsUsed t' value → ⊥

-- so the tree is another one: there are more operations, or fewer values are used
abbrev pub HasChanged : (t t' : Tree) → Type 0
HasChanged t t' = (length t.operations < length t'.operations) ⊎ ((length t'.operations ≡ length t.operations) × LosesUses t t')

-- what holds all the way from the tree t0
pub record IsOnSweep (m : Meaning) (t0 t : Tree) (root : ℕ) : Type 0 where
  pub change : IsWholeChange m t0 t root
  pub links : (r : ℕ) → IsWellLinked m t0 r → IsWellLinked m t r
  pub edges : KeepsEdges t0 t
  pub stays : (k : ℕ) → IsLive t0 k → IsLive t k

-- rewrites were made, of which so many were left before and after; or what is done isn't rewritten
pub record AreSwept (x : RuleTables) (rules : View → Option Term) (t0 t : Tree) (root left rest : ℕ) (Done : ℕ → Type 0) : Type 0 where
  pub way : IsOnSweep x.meaning t0 t root
  pub rewrites : List Rewrite
  pub in_turn : RewriteInTurn x rules root rewrites t0 t
  pub counted : left ≡ length rewrites + rest
  pub seen : (k : ℕ) → IsSeen t0 root k → IsSeen t root k
  pub changed : rest < left → HasChanged t0 t
  pub none : rest ≡ left → 0 < left → (k : ℕ) (term : Term) → Done k → Applies x rules t0 k term → ⊥

-- some rewrites were made, until allocation failed
pub record AreSweptPartly (x : RuleTables) (rules : View → Option Term) (t0 t : Tree) (root left : ℕ) : Type 0 where
  pub way : IsOnSweep x.meaning t0 t root
  pub rewritten : (rs : List Rewrite) × AreRewritten x rules root left rs t0 t
