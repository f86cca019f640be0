-- Edges that are feasible under some lattice values, and those that are kept.
use Rattle.std.specs.Prelude.{◌≡◌, ◌⊎◌, ℕ, Bool, true, false, nat_eq, ◌&&◌, Option, Some, None, slice_get, IsTrue}
use Rattle.std.specs.HashSet.{HashSet, contains}
use Rattle.indexmap.specs.IndexMap.{get}
use Rattle.pliron_core.specs.Tree.{Tree}
use Rattle.pliron_laws.specs.Tree.{Operation, op_at, is_one_key}
use Rattle.pliron_theory.specs.LatticeValues.{LatticeValues, Says, AreClosed, IsFeasibleEdge}
use Rattle.pliron_opt_sccp.specs.declared.feasible_edges.FeasibleEdges.{FeasibleEdges}

abbrev pub holds : {S : Type 0} → Option (HashSet ℕ S) → ℕ → Bool
holds None b = false
holds (Some blocks) b = contains nat_eq blocks b

-- whether the block is kept as one that the operation may go to
abbrev pub leads : FeasibleEdges → (k b : ℕ) → Bool
leads edges k b = holds (get is_one_key edges.blocks k) b

-- of one operation some of these blocks are kept, and no other is new
abbrev pub KeepsAmong : {S : Type 0} → ℕ → Option (HashSet ℕ S) → (edges edges' : FeasibleEdges) → Type 0
KeepsAmong k blocks edges edges' = (j b : ℕ) → leads edges' j b ≡ true → (leads edges j b ≡ true) ⊎ ((j ≡ k) × (holds blocks b ≡ true))

-- under these lattice values each edge of the operation to the block is feasible
abbrev pub MayGo : Says → Tree → LatticeValues → (k b : ℕ) → Type 0
MayGo x t f k b = (i : ℕ) (o : Operation) → op_at t k ≡ Some o → slice_get o.successors i ≡ Some b → IsFeasibleEdge x t f o i b

-- the operation may go to each of these blocks, if there are any
abbrev pub AreFound : {S : Type 0} → Says → Tree → LatticeValues → ℕ → Option (HashSet ℕ S) → Type 0
AreFound x t f k None = Unit {0}
AreFound x t f k (Some blocks) = (b : ℕ) → IsTrue (contains nat_eq blocks b) → MayGo x t f k b

-- of one operation blocks are kept that it may go to under these lattice values, and no other is new
abbrev pub KeepsFeasible : Says → Tree → LatticeValues → ℕ → (edges edges' : FeasibleEdges) → Type 0
KeepsFeasible x t f k edges edges' = (j b : ℕ) → leads edges' j b ≡ true → (leads edges j b ≡ true) ⊎ ((j ≡ k) × MayGo x t f k b)

-- each edge that is kept is feasible under all closed lattice values
abbrev pub AreSurelyFeasible : Says → Tree → ℕ → FeasibleEdges → Type 0
AreSurelyFeasible x t root edges = (k b : ℕ) → leads edges k b ≡ true → (g : LatticeValues) → AreClosed x t root g → MayGo x t g k b
