-- The operations inside an operation in dominance order.
use Rattle.std.specs.Prelude.{◌↔◌, ◌≡◌, ◌<◌, ℕ, List, length, get_or}
use Rattle.pliron_core.specs.Lists.{IsDistinct}
use Rattle.pliron_core.specs.Tree.{Tree, In}
use Rattle.pliron_rewrite_equals.specs.OperationDominance.{DominatesOperation}
use Rattle.pliron_graph_order.specs.Seen.{IsSeen}

-- The operations that are seen inside the root, each once, and for each the place behind all those that it dominates:
-- one dominates another exactly if the other's place is behind its own and in front of that end.
pub record IsOrder (t : Tree) (root : ℕ) (ops ends : List ℕ) : Type 0 where
  pub counted : length ends ≡ length ops
  pub distinct : IsDistinct ops
  pub each : (k : ℕ) → In k ops ↔ IsSeen t root k
  pub all_in_place : (i j : ℕ) → i < length ops → j < length ops → ((i < j) × (j < get_or ends i 0)) ↔ DominatesOperation t (get_or ops i 0) (get_or ops j 0)
