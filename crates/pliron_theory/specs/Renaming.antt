-- Trees that differ in the values that operands name.
use Rattle.std.specs.Prelude.{◌≡◌, ◌≢◌, ℕ, List, [], ◌∷◌, Some, None, map}
use Rattle.pliron_core.specs.Changes.{IsDefiningOperationInside}
use Rattle.pliron_core.specs.Tree.{Tree, In, IsInside, row_of, operands_of, successors_of, results_of, regions_of, parent_of, body_of, arguments_of, block_parent_of, layout_of, slot_of, definition_of}
use Rattle.pliron_laws.specs.Datum.{Datum, Empty, Meaning, Give}
use Rattle.pliron_laws.specs.Tree.{Operation, op_at, shape_of}
use Rattle.pliron_laws.specs.Machine.{State, Continues, run}
use Rattle.pliron_laws.specs.Root.{IsDominated}

-- each operand is renamed, and all else is as before
pub record IsRenamed (t t' : Tree) (rename : ℕ → ℕ) : Type 0 where
  pub operands : (k : ℕ) → operands_of t' k ≡ map rename (operands_of t k)
  pub rows : (k : ℕ) → row_of t' k ≡ row_of t k
  pub successors : (k : ℕ) → successors_of t' k ≡ successors_of t k
  pub parents : (k : ℕ) → parent_of t' k ≡ parent_of t k
  pub bodies : (b : ℕ) → body_of t' b ≡ body_of t b
  pub arguments : (b : ℕ) → arguments_of t' b ≡ arguments_of t b
  pub block_parents : (b : ℕ) → block_parent_of t' b ≡ block_parent_of t b
  pub layouts : (r : ℕ) → layout_of t' r ≡ layout_of t r
  pub slots : (r : ℕ) → slot_of t' r ≡ slot_of t r
  pub definitions : (v : ℕ) → definition_of t' v ≡ definition_of t v

-- the user may name the value, as far as the root is concerned
pub record MayUse (t : Tree) (root user v : ℕ) : Type 0 where
  pub own : IsInside t root user → IsDefiningOperationInside t root (definition_of t v)
  pub no_jumper : (k : ℕ) → IsInside t root k → successors_of t k ≢ [] → In v (results_of t k) → ⊥
  pub dominated : IsDefiningOperationInside t root (definition_of t v) → IsDominated t user v

-- some run of the root comes to this state
abbrev pub RunReaches : Meaning → Tree → ℕ → State → Type 0
RunReaches m t root s = (inputs world : List Datum) × (n : ℕ) × (run m t root inputs world n ≡ Continues s)

-- wherever an operation reads its operands, each has the same datum as the value that it is renamed to
abbrev pub HaveSameData : Meaning → (t t' : Tree) → (ℕ → ℕ) → ℕ → Type 0
HaveSameData m t t' rename root = (s s' : State) (k v : ℕ) (rest : List ℕ) → RunReaches m t root s → RunReaches m t' root s' → ((x : ℕ) → s.environment x ≡ s'.environment x) → s.rest ≡ k ∷ rest → s'.rest ≡ k ∷ rest → s.answer ≡ None → s'.answer ≡ None → In v (operands_of t k) → s.environment v ≡ s.environment (rename v)

-- wherever an operation reads the one value, the other one has the same datum
abbrev pub HasSameDatum : Meaning → (t t' : Tree) → (old new : ℕ) → ℕ → Type 0
HasSameDatum m t t' old new root = (s s' : State) (k : ℕ) (rest : List ℕ) → RunReaches m t root s → RunReaches m t' root s' → ((x : ℕ) → s.environment x ≡ s'.environment x) → s.rest ≡ k ∷ rest → s'.rest ≡ k ∷ rest → s.answer ≡ None → s'.answer ≡ None → In old (operands_of t k) → s.environment old ≡ s.environment new

-- the operation has this one result and neither operands nor regions, and gives this datum at once
pub record GivesConstant (m : Meaning) (t : Tree) (n v : ℕ) (c : Datum) : Type 0 where
  pub results : results_of t n ≡ v ∷ []
  pub operands : operands_of t n ≡ []
  pub regions : regions_of t n ≡ []
  pub gives : (o : Operation) → op_at t n ≡ Some o → m.act (shape_of m t o) Empty [] ≡ Give (c ∷ [])

-- wherever an operation reads the value, it has this datum
abbrev pub IsReadAs : Meaning → Tree → (v : ℕ) → Datum → ℕ → Type 0
IsReadAs m t v c root = (s : State) (k : ℕ) (rest : List ℕ) → RunReaches m t root s → s.rest ≡ k ∷ rest → s.answer ≡ None → In v (operands_of t k) → s.environment v ≡ Some c
