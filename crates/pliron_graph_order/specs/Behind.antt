-- What dominates a place in a block: from there on the operations that dominate one are found step by step.
use Rattle.std.specs.Prelude.{◌≡◌, ◌≢◌, ◌⊎◌, ◌↔◌, ℕ, List, [], ◌∷◌, ◌++◌, Some, None}
use Rattle.pliron_core.specs.declared.context.Def.TheVariants.{Result}
use Rattle.pliron_core.specs.Tree.{Tree, In, parent_of, body_of, block_parent_of, layout_of, region_parent_of, first_of}
use Rattle.pliron_core.specs.Invariant.{IsTree}
use Rattle.pliron_laws.specs.Paths.{Path}
use Rattle.pliron_laws.specs.Root.{HasPassed}
use Rattle.pliron_rewrite_equals.specs.OperationDominance.{DominatesOperation}
use Rattle.pliron_graph_order.specs.Seen.{IsOnPathIn}

-- x dominates the place behind the operations `done` in the block c: in its region r, or it dominates what holds r
abbrev pub IsBehind : Tree → (r c : ℕ) → List ℕ → ℕ → Type 0
IsBehind t r c done x = ((home : ℕ) × (parent_of t x ≡ Some home) × (block_parent_of t home ≡ Some r) × ((entry : ℕ) (before : List ℕ) → first_of (layout_of t r) None ≡ Some entry → Path t entry c before → HasPassed t (Some (Result x 0)) before c done)) ⊎ ((h : ℕ) × (region_parent_of t r ≡ Some h) × DominatesOperation t x h)

-- each path from the entry of the region to the block passes d
abbrev pub IsPassedBy : Tree → (r d b : ℕ) → Type 0
IsPassedBy t r d b = (entry : ℕ) (before : List ℕ) → first_of (layout_of t r) None ≡ Some entry → Path t entry b before → In d (b ∷ before)

-- d is another block that each path to c passes, and whatever else they all pass, all paths to d pass
pub record IsNearestBefore (t : Tree) (r d c : ℕ) : Type 0 where
  pub beside : block_parent_of t d ≡ Some r
  pub other : d ≢ c
  pub passed : IsPassedBy t r d c
  pub nearest : (y : ℕ) → y ≢ c → IsPassedBy t r y c → IsPassedBy t r y d

pub record BehindLaws : Type 0 where
  -- what dominates an operation is what dominates its place
  pub operation : (t : Tree) (r c b x : ℕ) (done rest : List ℕ) → IsTree t → block_parent_of t c ≡ Some r → body_of t c ≡ done ++ b ∷ rest → DominatesOperation t x b ↔ IsBehind t r c done x
  -- behind one more operation, that one too
  pub next : (t : Tree) (r c p x : ℕ) (done rest : List ℕ) → IsTree t → block_parent_of t c ≡ Some r → body_of t c ≡ done ++ p ∷ rest → IsBehind t r c (done ++ p ∷ []) x ↔ ((x ≡ p) ⊎ IsBehind t r c done x)
  -- at the start of a block that is reached, what dominates the end of its immediate dominator
  pub first : (t : Tree) (r c d x : ℕ) → IsTree t → IsOnPathIn t r c → IsNearestBefore t r d c → IsBehind t r c [] x ↔ IsBehind t r d (body_of t d) x
  -- at the start of an entry, what dominates the operation that holds it
  pub entry : (t : Tree) (r c h x : ℕ) → IsTree t → first_of (layout_of t r) None ≡ Some c → region_parent_of t r ≡ Some h → IsBehind t r c [] x ↔ DominatesOperation t x h
