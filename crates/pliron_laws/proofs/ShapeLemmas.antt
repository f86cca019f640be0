-- What is read of an operation as one record.
use Rattle.std.proofs.Common.{◌≡◌, ℕ, Option, Some, None, IsSome, ap, sym, refl, arith}
use Rattle.std.proofs.lemmas.Option.{same_Some}
use Rattle.pliron_core.specs.Tree.{Tree, IsLive, head_of, operands_of}
use Rattle.pliron_laws.specs.Datum.{Head, Meaning}
use Rattle.pliron_laws.specs.Tree.{Operation, op_at, op_with, shape_of}

head_with : (t : Tree) (k : ℕ) (o : Operation) (h : Option Head) → op_with t k h ≡ Some o → h ≡ Some o.head
head_with t k o None e = grind arith
head_with t k o (Some h) e = ap Some (ap (λ z. z.head) (same_Some _ o e))

pub head_at : (t : Tree) (k : ℕ) (o : Operation) → op_at t k ≡ Some o → head_of t k ≡ Some o.head
unfolding op_at
head_at t k o e = head_with t k o (head_of t k) e

operands_with : (t : Tree) (k : ℕ) (o : Operation) (h : Option Head) → op_with t k h ≡ Some o → o.operands ≡ operands_of t k
operands_with t k o None e = grind arith
operands_with t k o (Some h) e = sym (ap (λ z. z.operands) (same_Some _ o e))

pub operands_at : (t : Tree) (k : ℕ) (o : Operation) → op_at t k ≡ Some o → o.operands ≡ operands_of t k
unfolding op_at
operands_at t k o e = operands_with t k o (head_of t k) e

live_with : (t : Tree) (k : ℕ) (h : Option Head) → IsSome h → (o : Operation) × (op_with t k h ≡ Some o)
live_with t k None s = absurd (cc)
live_with t k (Some h) s = (_, refl)

-- what stands can be read
pub live_at : (t : Tree) (k : ℕ) → IsLive t k → (o : Operation) × (op_at t k ≡ Some o)
unfolding op_at
live_at t k live = live_with t k (head_of t k) live

pub shape_head : (m : Meaning) (t : Tree) (o : Operation) → (shape_of m t o).head ≡ o.head
unfolding shape_of
shape_head m t o = refl
