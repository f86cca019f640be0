-- What a merge asks of two blocks, step by step.
use Rattle.std.specs.Prelude.{◌≡◌, ◌≢◌, ℕ, List, [], ◌∷◌, Some, None, length}
use Rattle.pliron_core.specs.Tree.{Tree, In, IsDefined, first_of, last_of, operands_of, arguments_of, body_of, layout_of, block_parent_operation_of}
use Rattle.pliron_core.specs.Edges.{succs_of, preds_of}
use Rattle.pliron_laws.specs.Datum.{Meaning}
use Rattle.pliron_laws.specs.Answers.{HeadPasses}
use Rattle.pliron_laws.specs.Linked.{IsWellLinked}
use Rattle.pliron_rewrite_blocks.specs.Pairs.{IsMergeable}

-- the branch `jump` ends a and leads to b alone, which is neither a nor an entry and has no other predecessor
pub record IsOnlyWay (m : Meaning) (t : Tree) (a b jump : ℕ) : Type 0 where
  pub goes : succs_of t a ≡ b ∷ []
  pub ends : last_of None (body_of t a) ≡ Some jump
  pub apart : b ≢ a
  pub no_entry : (r : ℕ) → first_of (layout_of t r) None ≢ Some b
  pub single : length (preds_of t b) ≡ 1
  pub branch : HeadPasses m.is_branch t jump

-- these values are live
abbrev pub AllDefined : Tree → List ℕ → Type 0
AllDefined t values = (v : ℕ) → In v values → IsDefined t v

-- a pair where the parent operation is well linked, and nothing uses an argument of the second block
pub record IsReadyToJoin (m : Meaning) (t : Tree) (a b jump : ℕ) : Type 0 where
  pub values : List ℕ
  pub pair : IsMergeable m t a b jump values
  pub linked : (holder : ℕ) → block_parent_operation_of t a ≡ Some holder → IsWellLinked m t holder
  pub unused : (k v : ℕ) → In v (operands_of t k) → In v (arguments_of t b) → ⊥
