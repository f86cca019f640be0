-- Trees in which a block was merged into the end of its only predecessor.
use Rattle.std.specs.Prelude.{◌≡◌, ◌≢◌, ℕ, List, [], ◌∷◌, ◌++◌, Some, None, length}
use Rattle.pliron_core.specs.Tree.{Tree, In, without, first_of, row_of, head_of, operands_of, successors_of, results_of, regions_of, parent_of, body_of, arguments_of, block_parent_of, layout_of}
use Rattle.pliron_laws.specs.Datum.{Datum, Empty, Meaning, Goto}
use Rattle.pliron_laws.specs.Tree.{Operation, op_at, shape_of}

-- the operations of the block b were appended to the block a, whose last operation `jump` led to b alone, as
-- nothing else did; `jump` and b are erased, and all else is as before
pub record IsSpliced (t t' : Tree) (a b jump : ℕ) (front : List ℕ) : Type 0 where
  pub apart : a ≢ b
  pub split : body_of t a ≡ front ++ jump ∷ []
  pub goes : successors_of t jump ≡ b ∷ []
  pub beside : block_parent_of t b ≡ block_parent_of t a
  pub childless : regions_of t jump ≡ []
  pub no_results : results_of t jump ≡ []
  pub only : (k : ℕ) → In b (successors_of t k) → k ≡ jump
  pub no_entry : (r : ℕ) → first_of (layout_of t r) None ≢ Some b
  pub unused : (k v : ℕ) → In v (operands_of t k) → In v (arguments_of t b) → ⊥
  pub joined : body_of t' a ≡ front ++ body_of t b
  pub bodies : (c : ℕ) → c ≢ a → c ≢ b → body_of t' c ≡ body_of t c
  pub arguments : (c : ℕ) → c ≢ b → arguments_of t' c ≡ arguments_of t c
  pub block_parents : (c : ℕ) → c ≢ b → block_parent_of t' c ≡ block_parent_of t c
  pub rows : (k : ℕ) → k ≢ jump → row_of t' k ≡ row_of t k
  pub operands : (k : ℕ) → k ≢ jump → operands_of t' k ≡ operands_of t k
  pub successors : (k : ℕ) → k ≢ jump → successors_of t' k ≡ successors_of t k
  pub moved : (k : ℕ) → parent_of t k ≡ Some b → parent_of t' k ≡ Some a
  pub parents : (k : ℕ) → k ≢ jump → parent_of t k ≢ Some b → parent_of t' k ≡ parent_of t k
  pub layouts : (r : ℕ) → layout_of t' r ≡ without b (layout_of t r)
  pub deleted : head_of t' jump ≡ None
  pub detached_block : block_parent_of t' b ≡ None

-- the operation jumps to its only successor at once, with as many values as the block has arguments
abbrev pub JumpsNow : Meaning → Tree → (jump b : ℕ) → Type 0
JumpsNow m t jump b = (o : Operation) → op_at t jump ≡ Some o → (ds : List Datum) → length ds ≡ length o.operands → (values : List Datum) × (m.act (shape_of m t o) Empty ds ≡ Goto 0 values) × (length values ≡ length (arguments_of t b))
