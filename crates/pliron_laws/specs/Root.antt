-- Isolated, well-defined roots.
use Rattle.std.specs.Prelude.{◌≡◌, ◌≢◌, ℕ, List, [], ◌∷◌, ◌++◌, Option, Some, None, ◌⊎◌, length, slice_get, IsTrue}
use Rattle.pliron_core.specs.declared.context.Def.{Def}
use Rattle.pliron_core.specs.declared.context.Def.TheVariants.{Result, Argument}
use Rattle.pliron_core.specs.Tree.{Tree, In, IsInside, IsWithin, head_of, operands_of, successors_of, results_of, regions_of, parent_of, body_of, arguments_of, block_parent_of, layout_of, definition_of, up_from, first_of, last_of}
use Rattle.pliron_core.specs.Changes.{IsDefinedInside}
use Rattle.pliron_core.specs.Reads.{has_ssa}
use Rattle.pliron_laws.specs.Datum.{Head, Meaning}
use Rattle.pliron_laws.specs.Tree.{Operation, op_at, shape_of}
use Rattle.pliron_laws.specs.Paths.{Path}

-- the block that a definition is in
abbrev pub defining_block : Tree → Option Def → Option ℕ
defining_block t None = None
defining_block t (Some (Result k i)) = parent_of t k
defining_block t (Some (Argument block i)) = Some block

-- what passed the blocks `before` to their ends, and then came in the block b behind the operations
-- `done`, passed the definition
abbrev pub HasPassed : Tree → Option Def → List ℕ → ℕ → List ℕ → Type 0
HasPassed t None before b done = ⊥
HasPassed t (Some (Argument d i)) before b done = In d (b ∷ before)
HasPassed t (Some (Result k i)) before b done = In k done ⊎ ((d : ℕ) × (parent_of t k ≡ Some d) × In d before)

-- the user of the value, or an operation that it is inside, is in the region that defines the value, and every
-- path from the entry of that region to it passes the definition first
pub record IsDominated (t : Tree) (user v : ℕ) : Type 0 where
  pub around : ℕ
  pub holds : IsWithin t around user
  pub block : ℕ
  pub region : ℕ
  pub in_block : parent_of t around ≡ Some block
  pub in_region : block_parent_of t block ≡ Some region
  pub defined : up_from (defining_block t (definition_of t v)) (λ d. block_parent_of t d) ≡ Some region
  pub passes : (entry : ℕ) (before done rest : List ℕ) → first_of (layout_of t region) None ≡ Some entry → Path t entry block before → body_of t block ≡ done ++ around ∷ rest → HasPassed t (definition_of t v) before block done

-- the root is isolated, and what is inside it is well defined
pub record WellDefined (m : Meaning) (t : Tree) (root : ℕ) : Type 0 where
  -- the root has no successors, and operations inside it use only values that are defined inside it
  pub no_successors : successors_of t root ≡ []
  pub own_values : (k v : ℕ) → IsInside t root k → In v (operands_of t k) → IsDefinedInside t root v
  -- the regions of the root, and of the operations inside it, have SSA dominance
  pub dominance : (k r : ℕ) → IsWithin t root k → In r (regions_of t k) → IsTrue (has_ssa t r)
  -- each edge of a branch forwards as many values as its target has arguments
  pub forwards : (k i b : ℕ) (o : Operation) → IsInside t root k → op_at t k ≡ Some o → IsTrue (m.is_branch o.head) → slice_get o.successors i ≡ Some b → length (m.forwarded (shape_of m t o) i) ≡ length (arguments_of t b)
  -- terminators are last in their blocks, and a result of an operation with successors has no use
  pub terminators : (k b : ℕ) (h : Head) → IsInside t root k → head_of t k ≡ Some h → IsTrue (m.is_terminator h) → parent_of t k ≡ Some b → last_of None (body_of t b) ≡ Some k
  pub unused : (k v user : ℕ) → IsInside t root k → successors_of t k ≢ [] → In v (results_of t k) → In v (operands_of t user) → ⊥
  -- each use of a value that is defined inside comes behind the definition
  pub dominated : (user v : ℕ) → In v (operands_of t user) → IsDefinedInside t root v → IsDominated t user v
