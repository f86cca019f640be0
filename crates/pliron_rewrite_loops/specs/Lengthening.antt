-- An edge of a branch forwards one value more.
--
--     before:   branch ^b(x) ^d           after:   branch ^b(x, y) ^d
use Rattle.std.specs.Prelude.{◌≡◌, ℕ, List, [], ◌∷◌, Some, IsTrue, length, slice_set}
use Rattle.std.specs.List.{insert}
use Rattle.pliron_core.specs.declared.uses.Use.{Use}
use Rattle.pliron_core.specs.Tree.{Tree, operands_of}
use Rattle.pliron_laws.specs.Datum.{Head, Shape, Meaning}
use Rattle.pliron_laws.specs.Tree.{Operation, op_at, shape_of}
use Rattle.pliron_laws.specs.Answers.{with_head}
use Rattle.pliron_theory.specs.Dropping.{EdgeLoses, EdgesLose}
use Rattle.pliron_dialect_edges.specs.Lengthened.{IsLengthened}

-- the operation has this head, and y at this place: its operands from there on stand one further
abbrev pub lengthened_at : Tree → (op place y : ℕ) → Head → Tree
lengthened_at t op place y head = with_head (record t { operands = slice_set t.operands op (insert (operands_of t op) place y) }) op head

-- the branch of this edge forwarded as many values along it as the index says, and forwards this one too in u, as the dialect
-- says
pub record EdgeLengthened (m : Meaning) (shortened : Shape → ℕ → ℕ → Head) (index value : ℕ) (e : Use) (t u : Tree) : Type 0 where
  pub rows : length t.operands ≡ length t.operations
  pub operation : Operation
  pub stands : op_at t e.user ≡ Some operation
  pub branch : IsTrue (m.is_branch operation.head)
  pub count : length (m.forwarded (shape_of m t operation) e.place) ≡ index
  pub place : ℕ
  pub head : Head
  pub longer : IsLengthened m shortened (shape_of m t operation) e.place place head
  pub is : u ≡ lengthened_at t e.user place value head

-- each of these edges was lengthened in turn, the first of the list last
abbrev pub EdgesLengthened : Meaning → (Shape → ℕ → ℕ → Head) → (index value : ℕ) → List Use → (t u : Tree) → Type 0
EdgesLengthened m shortened index value [] t u = u ≡ t
EdgesLengthened m shortened index value (e ∷ es) t u = (s : Tree) × EdgesLengthened m shortened index value es t s × EdgeLengthened m shortened index value e s u

pub record LengtheningLaw (m : Meaning) (shortened : Shape → ℕ → ℕ → Head) : Type 0 where
  -- a branch that was lengthened, and loses what it forwards last along that edge, is as it was
  pub one : (index value : ℕ) (e : Use) (t u : Tree) → EdgeLengthened m shortened index value e t u → EdgeLoses m shortened index e u t
  -- and so are all, where each loses it in turn
  pub all : (index value : ℕ) (edges : List Use) (t u : Tree) → EdgesLengthened m shortened index value edges t u → EdgesLose m shortened index edges u t
