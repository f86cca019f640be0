-- A block gets one argument more, and each edge to it forwards one value more.
--
--     before:   ^a: branch ^b(x) ..       ^b(p): ..
--     after:    ^a: branch ^b(x, y) ..    ^b(p, q): ..       nothing uses q yet
use Rattle.std.specs.Prelude.{◌≡◌, ◌≢◌, ℕ, List, Some, None, length, remove, slice_get}
use Rattle.pliron_core.specs.declared.uses.Use.{Use}
use Rattle.pliron_core.specs.Tree.{Tree, In, IsInside, first_of, row_of, operands_of, successors_of, parent_of, body_of, arguments_of, block_parent_of, layout_of, slot_of}
use Rattle.pliron_core.specs.Invariant.{IsTree}
use Rattle.pliron_laws.specs.Datum.{Head, Shape, Meaning}
use Rattle.pliron_laws.specs.Answers.{HeadPasses}
use Rattle.pliron_theory.specs.Keeps.{IsFit, KeepsRuns}
use Rattle.pliron_theory.specs.Rebranching.{FitsInPlace}
use Rattle.pliron_theory.specs.Dropping.{AreEdgesTo, EdgesLose}
use Rattle.pliron_rewrite_copies.specs.Adding.{MayNameMore}

-- t is the tree s without the argument of the block at this index
pub record LacksArgument (s t : Tree) (block index : ℕ) : Type 0 where
  pub count : length t.operations ≡ length s.operations
  pub left : arguments_of t block ≡ remove (arguments_of s block) index
  pub arguments : (b : ℕ) → b ≢ block → arguments_of t b ≡ arguments_of s b
  pub rows : (k : ℕ) → row_of t k ≡ row_of s k
  pub operands : (k : ℕ) → operands_of t k ≡ operands_of s k
  pub successors : (k : ℕ) → successors_of t k ≡ successors_of s k
  pub parents : (k : ℕ) → parent_of t k ≡ parent_of s k
  pub bodies : (b : ℕ) → body_of t b ≡ body_of s b
  pub block_parents : (b : ℕ) → block_parent_of t b ≡ block_parent_of s b
  pub layouts : (r : ℕ) → layout_of t r ≡ layout_of s r
  pub slots : (r : ℕ) → slot_of t r ≡ slot_of s r

-- the block, which is no entry, has the argument v at this index in u, and branches alone lead to it; where each edge to it
-- lost what it forwards there, nothing uses the argument, and t is that tree without it
pub record IsForwardedMore (m : Meaning) (shortened : Shape → ℕ → ℕ → Head) (t u : Tree) (block index v : ℕ) : Type 0 where
  pub edges : List Use
  pub shorter : Tree
  pub argument : slice_get (arguments_of u block) index ≡ Some v
  pub to : AreEdgesTo u block edges
  pub lose : EdgesLose m shortened index edges u shorter
  pub without : LacksArgument shorter t block index
  pub unused : (k : ℕ) → In v (operands_of shorter k) → ⊥
  pub branches : (k : ℕ) → In block (successors_of u k) → HeadPasses m.is_branch u k
  pub no_entry : (r : ℕ) → block_parent_of u block ≡ Some r → first_of (layout_of u r) None ≢ Some block

-- the argument may be added with what is forwarded to it, and go again: each operation that leads to the block is
-- admitted with the operands that it has more, forwards as many values as there are arguments, and may name those values
abbrev pub ForwardedLaw : Meaning → (Shape → ℕ → ℕ → Head) → Type 0
ForwardedLaw m shortened = (t u : Tree) (block index v : ℕ) → IsTree t → IsTree u → IsForwardedMore m shortened t u block index v → ((root : ℕ) → IsFit m t root → (k : ℕ) → In block (successors_of t k) → MayNameMore t u root k) → ((root : ℕ) → IsFit m t root → (k : ℕ) → IsInside t root k → In block (successors_of t k) → FitsInPlace m u k) → KeepsRuns m t u × KeepsRuns m u t
