-- What an inliner asks of operations.
use Rattle.std.specs.Prelude.{◌≡◌, ◌≢◌, ℕ, List, Some, length, IsTrue}
use Rattle.pliron_core.specs.declared.attrs.Head.{Head}
use Rattle.pliron_core.specs.Tree.{Tree}
use Rattle.pliron_laws.specs.Datum.{Datum, Empty, Shape, Meaning, Goto, Leave}
use Rattle.pliron_laws.specs.Tree.{Operation, op_at, shape_of}
use Rattle.pliron_laws.specs.Laws.{Admitted}
use Rattle.pliron_laws.specs.Replacing.{branch_shape}

-- an operation with this head, so many operands and one successor is a branch that the dialect admits, and goes there at once
-- with its operands
pub record IsJumpHead (m : Meaning) (operands : ℕ) (h : Head) : Type 0 where
  pub admitted : Admitted m (branch_shape h operands 1)
  pub branch : IsTrue (m.is_branch h)
  pub goes : (s : Shape) → s.head ≡ h → s.operands ≡ operands → s.results ≡ 0 → s.successors ≡ 1 → (ds : List Datum) → length ds ≡ operands → m.act s Empty ds ≡ Goto 0 ds
  pub forwards : (s : Shape) → s.head ≡ h → s.operands ≡ operands → s.successors ≡ 1 → length (m.forwarded s 0) ≡ operands

-- the operation never leaves its function
abbrev pub NeverLeaves : Meaning → Tree → ℕ → Type 0
NeverLeaves m t k = (o : Operation) → op_at t k ≡ Some o → (memo : Datum) (input ds : List Datum) → m.act (shape_of m t o) memo input ≢ Leave ds
