-- A block gets one argument more, to which each edge forwards a value.
--
--     before:   ^a: branch ^b(x) ..       ^b(p): ..
--     after:    ^a: branch ^b(x, y) ..    ^b(p, q): ..       nothing uses q yet
use Rattle.std.specs.Prelude.{◌≡◌, ℕ, Bool, true, false, List, Some, length, IsTrue}
use Rattle.pliron_core.specs.declared.uses.Use.{Use}
use Rattle.pliron_core.specs.Tree.{Tree, arguments_of}
use Rattle.pliron_core.specs.Writes.{argument_pushed}
use Rattle.pliron_laws.specs.Datum.{Head, Shape, Meaning}
use Rattle.pliron_laws.specs.Tree.{Operation, op_at, shape_of}
use Rattle.pliron_theory.specs.Dropping.{AreEdgesTo}
use Rattle.pliron_rewrite_loops.specs.Lengthening.{EdgeLengthened, EdgesLengthened}

-- the edge is of a branch, and forwards so many values
abbrev pub ForwardsSoMany : Meaning → Tree → (op edge count : ℕ) → Type 0
ForwardsSoMany m t op edge count = (o : Operation) → op_at t op ≡ Some o → IsTrue (m.is_branch o.head) × (length (m.forwarded (shape_of m t o) edge) ≡ count)

-- the edge was lengthened, if the answer says so, and else nothing changed
abbrev pub LengthensEdge : Meaning → (Shape → ℕ → ℕ → Head) → (index value : ℕ) → Use → (t u : Tree) → Bool → Type 0
LengthensEdge m shortened index value e t u true = EdgeLengthened m shortened index value e t u
LengthensEdge m shortened index value e t u false = u ≡ t

-- and so for all of them
abbrev pub LengthensEdges : Meaning → (Shape → ℕ → ℕ → Head) → (index value : ℕ) → List Use → (t u : Tree) → Bool → Type 0
LengthensEdges m shortened index value edges t u true = EdgesLengthened m shortened index value edges t u
LengthensEdges m shortened index value edges t u false = u ≡ t

-- each edge to the block forwards the value too, behind what it forwarded, which was one value for each argument; and the
-- block has one argument more, a new value
pub record IsArgumentAdded (m : Meaning) (shortened : Shape → ℕ → ℕ → Head) (t u : Tree) (block value argument : ℕ) : Type 0 where
  pub edges : List Use
  pub longer : Tree
  pub to : AreEdgesTo t block edges
  pub lengthened : EdgesLengthened m shortened (length (arguments_of t block)) value edges t longer
  pub pushed : u ≡ argument_pushed longer block
  pub new : argument ≡ length t.definitions
