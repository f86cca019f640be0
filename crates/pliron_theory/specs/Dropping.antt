-- Trees without an argument of a block and without the operands that were forwarded to it.
use Rattle.std.specs.Prelude.{◌≡◌, ◌≢◌, ◌<◌, ◌↔◌, ℕ, Bool, false, List, [], ◌∷◌, Option, Some, None, ◌⊎◌, length, map, slice_get, remove, IsTrue}
use Rattle.pliron_core.specs.Tree.{Tree, In, IsLive, first_of, row_of, operands_of, successors_of, results_of, regions_of, parent_of, body_of, arguments_of, block_parent_of, layout_of, slot_of}
use Rattle.pliron_core.specs.declared.uses.Use.{Use}
use Rattle.pliron_laws.specs.Datum.{Datum, Head, Shape, Meaning}
use Rattle.pliron_laws.specs.Tree.{Operation, op_at, shape_of}
use Rattle.pliron_laws.specs.Acting.{ActAlike, PassesSame, JumpsSame, pick}
use Rattle.pliron_laws.specs.Answers.{HasPlace, HeadPasses, LosesForwarded}
use Rattle.pliron_laws.specs.Linked.{IsAdmitted}
use Rattle.pliron_theory.specs.Rebranching.{FitsInPlace}

-- the second tree is the first one without the value v, the argument of the block at this index, which
-- nothing uses any more; an operation that leads to the block keeps its operands at `kept` alone, and
-- may have another head
pub record IsArgumentDropped (t t' : Tree) (block index v : ℕ) (kept : ℕ → List ℕ) : Type 0 where
  pub argument : slice_get (arguments_of t block) index ≡ Some v
  pub dropped : arguments_of t' block ≡ remove (arguments_of t block) index
  pub unused : (k : ℕ) → In v (operands_of t' k) → ⊥
  pub left : (k : ℕ) → In block (successors_of t k) → map Some (operands_of t' k) ≡ pick (kept k) (operands_of t k)
  pub all_in_place : (k : ℕ) → In block (successors_of t k) → IsLive t' k
  pub rows : (k : ℕ) → (In block (successors_of t k) → ⊥) → row_of t' k ≡ row_of t k
  pub operands : (k : ℕ) → (In block (successors_of t k) → ⊥) → operands_of t' k ≡ operands_of t k
  pub results : (k : ℕ) → results_of t' k ≡ results_of t k
  pub regions : (k : ℕ) → regions_of t' k ≡ regions_of t k
  pub successors : (k : ℕ) → successors_of t' k ≡ successors_of t k
  pub parents : (k : ℕ) → parent_of t' k ≡ parent_of t k
  pub bodies : (b : ℕ) → body_of t' b ≡ body_of t b
  pub arguments : (b : ℕ) → b ≢ block → arguments_of t' b ≡ arguments_of t b
  pub block_parents : (b : ℕ) → block_parent_of t' b ≡ block_parent_of t b
  pub layouts : (r : ℕ) → layout_of t' r ≡ layout_of t r
  pub slots : (r : ℕ) → slot_of t' r ≡ slot_of t r

-- what is passed to the block is one value for each of its `count` arguments, without the one at this index;
-- what is passed elsewhere is the same
abbrev pub PassesWithout : (block index count : ℕ) → Option ℕ → List Datum → List Datum → Type 0
PassesWithout block index count target ds es = ((target ≡ Some block) × (length ds ≡ count) × (es ≡ remove ds index)) ⊎ ((target ≢ Some block) × (es ≡ ds))

-- the block at which an invocation of the region begins
abbrev pub entry_key : Tree → Option ℕ → Option ℕ
entry_key t None = None
entry_key t (Some r) = first_of (layout_of t r) None

-- whatever the data of its operands are, the operation acts alike on those at `kept`, but for the value
-- that its jumps to the block lose
abbrev pub ActsWithoutOperands : Meaning → (t t' : Tree) → (block index : ℕ) → (kept : List ℕ) → ℕ → Type 0
ActsWithoutOperands m t t' block index kept k = (o o' : Operation) → op_at t k ≡ Some o → op_at t' k ≡ Some o' → (first first' : List Datum) → length first ≡ length o.operands → map Some first' ≡ pick kept first → ActAlike m.act PassesSame (λ i ds j es. (j ≡ i) × PassesWithout block index (length (arguments_of t block)) (slice_get o.successors i) ds es) (shape_of m t o) (shape_of m t' o') first first'

-- an operation that leads to the block has no regions, fits there with the operands that are left, and
-- acts alike on them
pub record LeadsWithout (m : Meaning) (t t' : Tree) (block index : ℕ) (kept : List ℕ) (k : ℕ) : Type 0 where
  pub childless : regions_of t k ≡ []
  pub fits : FitsInPlace m t' k
  pub acts : ActsWithoutOperands m t t' block index kept k

-- whatever its first input is, the operation acts alike, but for the value that its invocations of the block
-- lose
abbrev pub VisitsWithout : Meaning → (t t' : Tree) → (block index : ℕ) → ℕ → Type 0
VisitsWithout m t t' block index k = (o o' : Operation) → op_at t k ≡ Some o → op_at t' k ≡ Some o' → (first : List Datum) → ActAlike m.act (λ i ds es. PassesWithout block index (length (arguments_of t block)) (entry_key t (slice_get o.regions i)) ds es) JumpsSame (shape_of m t o) (shape_of m t' o') first first

-- an operation with the block as the entry of a region is no branch, and acts alike
pub record HoldsWithout (m : Meaning) (t t' : Tree) (block index k : ℕ) : Type 0 where
  pub no_branch : (o : Operation) → op_at t k ≡ Some o → m.is_branch o.head ≡ false
  pub acts : VisitsWithout m t t' block index k

-- these are the edges to the block, each once: the operation, and the index of the edge
pub record AreEdgesTo (t : Tree) (block : ℕ) (edges : List Use) : Type 0 where
  pub listed : (n : ℕ) (e : Use) → slice_get edges n ≡ Some e → slice_get (successors_of t e.user) e.place ≡ Some block
  pub once : (n l : ℕ) (e : Use) → slice_get edges n ≡ Some e → slice_get edges l ≡ Some e → n ≡ l
  pub complete : (k i : ℕ) → slice_get (successors_of t k) i ≡ Some block → (n : ℕ) × (slice_get edges n ≡ Some (record { user = k; place = i }))

-- the edge lost the operand that it forwarded at place j; one without such a place, or of no branch,
-- lost none
pub data EdgeLoses (m : Meaning) (shortened : Shape → ℕ → ℕ → Head) (j : ℕ) (e : Use) (t t' : Tree) : Type 0 where
  Loses : (v : ℕ) → HasPlace m t e.user e.place j → LosesForwarded m shortened t t' e.user e.place j v → EdgeLoses m shortened j e t t'
  Lacks : ((o : Operation) → op_at t e.user ≡ Some o → IsTrue (m.is_branch o.head) → slice_get (m.forwarded (shape_of m t o) e.place) j ≡ None) → t' ≡ t → EdgeLoses m shortened j e t t'

-- each of these edges did so in turn
abbrev pub EdgesLose : Meaning → (Shape → ℕ → ℕ → Head) → ℕ → List Use → (t t' : Tree) → Type 0
EdgesLose m shortened j [] t t' = t' ≡ t
EdgesLose m shortened j (e ∷ es) t t' = (u : Tree) × EdgeLoses m shortened j e t u × EdgesLose m shortened j es u t'

-- these edges are of branches that the dialect admits
abbrev pub AreOfBranches : Meaning → Tree → List Use → Type 0
AreOfBranches m t edges = (n : ℕ) (e : Use) → slice_get edges n ≡ Some e → IsAdmitted m t e.user × HeadPasses m.is_branch t e.user

-- for each edge, whether it forwards an operand at place j
abbrev pub GivePlaces : Meaning → Tree → ℕ → List Use → List Bool → Type 0
GivePlaces m t j edges places = (n : ℕ) (e : Use) (b : Bool) (o : Operation) → slice_get edges n ≡ Some e → slice_get places n ≡ Some b → op_at t e.user ≡ Some o → IsTrue b ↔ (j < length (m.forwarded (shape_of m t o) e.place))
