-- The statements on pairs of blocks.
use Rattle.std.specs.Prelude.{◌≡◌, ◌≢◌, ℕ, List, Some, slice_get}
use Rattle.pliron_core.specs.Tree.{Tree, In, operands_of, arguments_of, block_parent_of, block_parent_operation_of}
use Rattle.pliron_core.specs.Invariant.{IsTree}
use Rattle.pliron_core.specs.Writes.{after_replacing}
use Rattle.pliron_laws.specs.Datum.{Meaning}
use Rattle.pliron_laws.specs.Linked.{EdgesLast}
use Rattle.pliron_theory.specs.Keeps.{KeepsAllRuns}
use Rattle.pliron_rewrite_blocks.specs.Forwarding.{LeadsAlone}
use Rattle.pliron_theory.specs.Splicing.{IsSpliced}
use Rattle.pliron_rewrite_blocks.specs.Pairs.{IsMergeable}

-- where edges are last in the blocks of the first block's parent operation, the jump of a mergeable pair alone
-- leads to the second
abbrev pub PairLeads : Type 0
PairLeads = (m : Meaning) (t : Tree) (holder a b jump : ℕ) (values : List ℕ) → IsTree t → EdgesLast t holder → block_parent_operation_of t a ≡ Some holder → IsMergeable m t a b jump values → (front : List ℕ) × LeadsAlone t a b jump front

-- the uses of an argument may become uses of the value that is forwarded to it; the pair stays one, the
-- argument has no use then, and another argument has no new one
pub record ReplacesOne (m : Meaning) (t : Tree) (a b jump p v : ℕ) (values : List ℕ) : Type 0 where
  pub runs : KeepsAllRuns m t (after_replacing t p v)
  pub pair : IsMergeable m (after_replacing t p v) a b jump values
  pub unused : (k : ℕ) → In p (operands_of (after_replacing t p v) k) → ⊥
  pub no_new : (k q : ℕ) → In q (arguments_of t b) → In q (operands_of (after_replacing t p v) k) → In q (operands_of t k)

abbrev pub ReplacingOne : Meaning → Type 0
ReplacingOne m = (t : Tree) (holder a b jump i p v : ℕ) (values : List ℕ) → IsTree t → EdgesLast t holder → block_parent_operation_of t a ≡ Some holder → IsMergeable m t a b jump values → slice_get (arguments_of t b) i ≡ Some p → slice_get values i ≡ Some v → ReplacesOne m t a b jump p v values

-- merging a pair makes no new pair with another first block, and neither does replacing an argument; that the
-- two blocks are in one region follows where edges are last
abbrev pub NoNewPair : Type 0
NoNewPair = (m : Meaning) (t t' : Tree) (a b jump c d j : ℕ) (front values : List ℕ) → IsTree t → IsTree t' → IsSpliced t t' a b jump front → c ≢ a → block_parent_of t' d ≡ block_parent_of t' c → IsMergeable m t' c d j values → IsMergeable m t c d j values

abbrev pub NoNewPairByUses : Type 0
NoNewPairByUses = (m : Meaning) (t : Tree) (holder a b jump i p v c d j : ℕ) (values others : List ℕ) → IsTree t → EdgesLast t holder → block_parent_operation_of t a ≡ Some holder → IsMergeable m t a b jump values → slice_get (arguments_of t b) i ≡ Some p → slice_get values i ≡ Some v → c ≢ a → block_parent_of t d ≡ block_parent_of t c → IsMergeable m (after_replacing t p v) c d j others → (vs : List ℕ) × IsMergeable m t c d j vs
