-- What a tree has of a text that is built in it.
use Rattle.std.specs.Prelude.{◌≡◌, ◌≢◌, ◌⊎◌, ℕ, ◌+◌, ◌<◌, ◌≤◌, List, [], length, Option, Some, None, slice_get}
use Rattle.std.specs.List.{range_with_len}
use Rattle.pliron_core.specs.declared.context.OperationEntry.{OperationEntry}
use Rattle.pliron_core.specs.Tree.{Tree, In, last_of, row_of, operands_of, successors_of, parent_of, body_of, block_parent_of}
use Rattle.pliron_text.specs.declared.build.BuiltTree.{BuiltTree}
use Rattle.pliron_text.specs.declared.syntax.OperationText.{OperationText}
use Rattle.pliron_text.specs.declared.syntax.BlockText.{BlockText}
use Rattle.pliron_text.specs.declared.syntax.Syntax.{Syntax}
use Rattle.pliron_core.specs.Invariant.{IsTree}
use Rattle.pliron_core.specs.Writes.{after_creating}
use Rattle.pliron_text.specs.Notation.{head_of_text}
use Rattle.pliron_text.specs.Building.{HasAllMade}

-- the whole text's operation has the head and the counts that the text asks for
pub record IsWhole (row : OperationEntry) (o : OperationText) : Type 0 where
  pub head : row.head ≡ Some (head_of_text o)
  pub results : length row.results ≡ o.results
  pub regions : length row.regions ≡ o.regions

-- u is t and the new operation of a whole text, with nothing inside it
pub record IsBegun (t : Tree) (o : OperationText) (u : Tree) (root : ℕ) : Type 0 where
  pub before : IsTree t
  pub fresh : root ≡ length t.operations
  pub made : u ≡ after_creating t (head_of_text o) o.results o.regions

-- an operation inside it has the head, the counts and the block that its text asks for, where the blocks of the text
-- have the handles from `base` on
pub record IsMadeAs (row : OperationEntry) (place : Option ℕ) (base : ℕ) (o : OperationText) : Type 0 where
  pub head : row.head ≡ Some (head_of_text o)
  pub results : length row.results ≡ o.results
  pub regions : length row.regions ≡ o.regions
  pub in_block : place ≡ Some (base + o.block)

-- it has as many operands and successors as its text, and the successors are blocks that this names
pub record HasUsesAs (operands successors : List ℕ) (base : ℕ) (o : OperationText) : Type 0 where
  pub operand_count : length operands ≡ length o.operands.items
  pub successor_count : length successors ≡ length o.successors.items
  pub named : (x : ℕ) → In x successors → (j : ℕ) × In j o.successors.items × (x ≡ base + j)

pub record HasNoUses (operands successors : List ℕ) : Type 0 where
  pub no_operands : operands ≡ []
  pub no_successors : successors ≡ []

-- of the first operations of the text, so many, none is in this one's block and after it
abbrev pub IsLastOf : Syntax → (count n : ℕ) → OperationText → Type 0
IsLastOf s count n o = (m : ℕ) (p : OperationText) → n < m → m < count → slice_get s.operations.items m ≡ Some p → p.block ≢ o.block

-- what is built of the text is in the tree, the operations from the handle after the root's on and the blocks from
-- `base` on; the first operations, so many as `wired`, have their operands and successors, and the root has so many
-- operands as `passed`
pub record IsLaid (s : Syntax) (root base wired passed : ℕ) (u : Tree) (built : BuiltTree) : Type 0 where
  pub whole : IsWhole (row_of u root) s.root
  pub operations : built.operations.items ≡ range_with_len (root + 1) (length built.operations.items)
  pub operation_count : length u.operations ≡ root + 1 + length built.operations.items
  pub blocks : built.blocks.items ≡ range_with_len base (length built.blocks.items)
  pub block_count : length u.bodies ≡ base + length built.blocks.items
  pub made : (n : ℕ) (o : OperationText) → slice_get s.operations.items n ≡ Some o → n < length built.operations.items → IsMadeAs (row_of u (root + 1 + n)) (parent_of u (root + 1 + n)) base o
  pub placed : (j : ℕ) (b : BlockText) → slice_get s.blocks.items j ≡ Some b → j < length built.blocks.items → (r : ℕ) × (slice_get built.regions.items b.region ≡ Some r) × (block_parent_of u (base + j) ≡ Some r)
  pub last : (n : ℕ) (o : OperationText) → slice_get s.operations.items n ≡ Some o → n < length built.operations.items → IsLastOf s (length built.operations.items) n o → last_of None (body_of u (base + o.block)) ≡ Some (root + 1 + n)
  pub used : (n : ℕ) (o : OperationText) → slice_get s.operations.items n ≡ Some o → n < wired → HasUsesAs (operands_of u (root + 1 + n)) (successors_of u (root + 1 + n)) base o
  pub root_operands : length (operands_of u root) ≡ passed
  pub root_successors : successors_of u root ≡ []
  pub unused : (k : ℕ) → root + 1 + wired ≤ k → HasNoUses (operands_of u k) (successors_of u k)

-- from u to v more is laid, and no operands and successors
abbrev pub LaysOn : Syntax → (u : Tree) (built : BuiltTree) (v : Tree) (more : BuiltTree) → Type 0
LaysOn s u built v more = (root base : ℕ) → IsLaid s root base 0 0 u built → IsLaid s root base 0 0 v more

-- this is so wherever this is the text of the next operation, or of the next block
abbrev pub LaysOperation : OperationText → (u : Tree) (built : BuiltTree) (v : Tree) (more : BuiltTree) → Type 0
LaysOperation o u built v more = (s : Syntax) → slice_get s.operations.items (length built.operations.items) ≡ Some o → LaysOn s u built v more

abbrev pub LaysBlock : BlockText → (u : Tree) (built : BuiltTree) (v : Tree) (more : BuiltTree) → Type 0
LaysBlock b u built v more = (s : Syntax) → slice_get s.blocks.items (length built.blocks.items) ≡ Some b → LaysOn s u built v more

-- from u to v the operations of the text from this number up to that one get their operands and
-- successors
abbrev pub Wires : Syntax → (from to : ℕ) → (u v : Tree) (built : BuiltTree) → Type 0
Wires s from to u v built = (root base : ℕ) → IsLaid s root base from 0 u built → IsLaid s root base to 0 v built

-- v is u, but the operation has so many more operands
pub record HasMoreOperands (u v : Tree) (op count : ℕ) : Type 0 where
  pub rest : v ≡ record u { operands = v.operands }
  pub others : (k : ℕ) → k ≢ op → operands_of v k ≡ operands_of u k
  pub total : length (operands_of v op) ≡ length (operands_of u op) + count

-- v is u, but the operation has so many more successors, which are among the blocks with these numbers
pub record HasMoreSuccessors (built : BuiltTree) (u v : Tree) (op count : ℕ) (numbers : List ℕ) : Type 0 where
  pub rest : v ≡ record u { successors = v.successors }
  pub others : (k : ℕ) → k ≢ op → successors_of v k ≡ successors_of u k
  pub total : length (successors_of v op) ≡ length (successors_of u op) + count
  pub named : (x : ℕ) → In x (successors_of v op) → In x (successors_of u op) ⊎ ((j : ℕ) × In j numbers × (slice_get built.blocks.items j ≡ Some x))

-- all of the text is laid in the tree, behind what t has
abbrev pub IsAllLaid : Syntax → (t u : Tree) → (root : ℕ) → Type 0
IsAllLaid s t u root = (built : BuiltTree) × HasAllMade s built × IsLaid s root (length t.bodies) (length s.operations.items) (length s.root.operands.items) u built
