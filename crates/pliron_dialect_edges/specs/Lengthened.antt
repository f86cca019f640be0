-- A branch that forwards one value more along an edge.
--
--     before:   branch ^b(x) ^d           after:   branch ^b(x, y) ^d
use Rattle.std.specs.Prelude.{◌≡◌, ◌+◌, ℕ, Some, IsTrue, length, slice_get}
use Rattle.pliron_laws.specs.Datum.{Head, Shape, Meaning}
use Rattle.pliron_laws.specs.Laws.{Admitted}

-- the shape of the branch with this head and one operand more
abbrev pub one_more : Shape → Head → Shape
one_more s head = record s { head = head; operands = s.operands + 1 }

-- a branch that has this head, where an operand more stands at place p, is admitted and forwards that one last along edge
-- i; once it loses that, it has the head that it had
pub record IsLengthened (m : Meaning) (shortened : Shape → ℕ → ℕ → Head) (s : Shape) (i p : ℕ) (head : Head) : Type 0 where
  pub admitted : Admitted m (one_more s head)
  pub branch : IsTrue (m.is_branch head)
  pub last : slice_get (m.forwarded (one_more s head) i) (length (m.forwarded s i)) ≡ Some p
  pub back : shortened (one_more s head) i (length (m.forwarded s i)) ≡ s.head
