-- The steps of a loop over the edges to a block, which are lengthened, or lose what they got.
use Rattle.std.proofs.Common.{◌≡◌, ℕ, zero, suc, ◌+◌, ◌-◌, ◌<◌, ◌≤◌, Bool, List, [], ◌∷◌, drop, length, Some, slice_get, refl, sym, ap, ◌∙◌, subst, arith}
use Rattle.pliron_core.specs.declared.uses.Use.{Use}
use Rattle.pliron_core.specs.Tree.{Tree, IsLive, uses_of, head_of, operands_of}
use Rattle.pliron_core.specs.Invariant.{IsTree}
use Rattle.pliron_core.specs.Writes.{operand_inserted, head_replaced}
use Rattle.pliron_core.proofs.HoldingLemmas.{some_of}
use Rattle.pliron_laws.specs.Datum.{Head, Shape, Meaning}
use Rattle.pliron_laws.specs.Tree.{Operation, op_at, shape_of}
use Rattle.pliron_laws.specs.Laws.{ForwardsOperands}
use Rattle.pliron_laws.specs.Answers.{HeadPasses, HasPlace, LosesForwarded}
use Rattle.pliron_laws.proofs.Records.{operation_of, make_op}
use Rattle.pliron_dialect_edges.specs.Lengthened.{IsLengthened}
use Rattle.pliron_rewrite_loops.specs.Lengthening.{EdgeLengthened, EdgesLengthened}
use Rattle.pliron_rewrite_loops.specs.Added.{ForwardsSoMany}
use Rattle.pliron_rewrite_loops.proofs.LengthenedBack.{place_fits, loses_again}
use Rattle.pliron_rewrite_loops.proofs.Longer.{stands_there, branch_there}

-- the item at an index stands before those behind it
pub drop_at : {A : Type 0} (xs : List A) (i : ℕ) (x : A) → slice_get xs i ≡ Some x → drop i xs ≡ x ∷ drop (suc i) xs
drop_at [] i x e = absurd (grind (arith, e))
drop_at (y ∷ ys) zero x e = let q : y ≡ x = cc in ap (λ z. z ∷ ys) q
drop_at (y ∷ ys) (suc i) x e = drop_at ys i x e

pub none_behind : {A : Type 0} (xs : List A) (i : ℕ) → length xs ≤ i → drop i xs ≡ []
none_behind [] zero h = refl
none_behind [] (suc i) h = refl
none_behind (x ∷ xs) zero h = absurd (omega (arith, h))
none_behind (x ∷ xs) (suc i) h = none_behind xs i (omega (arith, h))

module _ (m : Meaning) (can_fold : Head → Bool) (SameTests : Head → Head → Type 0) (shortened : Shape → ℕ → ℕ → Head) (law : ForwardsOperands m can_fold SameTests shortened) where
  -- one edge, as it is lengthened
  module _ (t : Tree) (op edge place : ℕ) (head : Head) (live : IsLive t op) (longer : (o : Operation) → op_at t op ≡ Some o → IsLengthened m shortened (shape_of m t o) edge place head) where
    here : (h : Head) × (head_of t op ≡ Some h)
    here = some_of (head_of t op) live

    pub place_within : place ≤ length (operands_of t op)
    place_within = let p = place_fits m can_fold SameTests shortened law t edge place head (operation_of t op here.0) (longer (operation_of t op here.0) (make_op t op here.0 here.1)) in omega (arith, p)

    pub edge_lengthened : (count value : ℕ) (s u : Tree) → IsTree t → ForwardsSoMany m t op edge count → s ≡ operand_inserted t op place value → u ≡ head_replaced s op head → EdgeLengthened m shortened count value (record { user = op; place = edge }) t u
    edge_lengthened count value s u w many inserted replaced =
        let oe = make_op t op here.0 here.1 in
        record {
          rows = w.keys.operands;
          operation = operation_of t op here.0;
          stands = oe;
          branch = (many (operation_of t op here.0) oe).0;
          count = (many (operation_of t op here.0) oe).1;
          place = place;
          head = head;
          longer = longer (operation_of t op here.0) oe;
          is = replaced ∙ ap (λ z. head_replaced z op head) inserted;
        }

  -- an edge that was lengthened loses what it got
  module _ (index value : ℕ) (e : Use) (s x : Tree) (l : EdgeLengthened m shortened index value e s x) where
    pub is_branch : HeadPasses m.is_branch x e.user
    is_branch = branch_there m can_fold SameTests shortened law index value e s x l

    pub has_place : HasPlace m x e.user e.place index
    has_place = (loses_again m can_fold SameTests shortened law index value e s x l).0

    pub shortened_back : (u : Tree) (v : ℕ) → LosesForwarded m shortened x u e.user e.place index v → u ≡ s
    shortened_back u v loses =
        let oe = stands_there m can_fold SameTests shortened law index value e s x l in
        let p = has_place (operation_of x e.user l.head) oe in
        (loses (operation_of x e.user l.head) p.0 oe p.1).1 ∙ sym ((loses_again m can_fold SameTests shortened law index value e s x l).1 (operation_of x e.user l.head) p.0 oe p.1).1

-- the first of these edges was lengthened last
pub first_edge : (m : Meaning) (shortened : Shape → ℕ → ℕ → Head) (index value : ℕ) (uses : List Use) (i : ℕ) (e : Use) (t x : Tree) → slice_get uses i ≡ Some e → EdgesLengthened m shortened index value (drop i uses) t x → EdgesLengthened m shortened index value (e ∷ drop (i + 1) uses) t x
first_edge m shortened index value uses i e t x at l = let n : suc i ≡ i + 1 = omega arith in subst (λ z. EdgesLengthened m shortened index value z t x) (drop_at uses i e at ∙ ap (λ z. e ∷ drop z uses) n) l

-- one more edge
pub one_more_edge : (m : Meaning) (shortened : Shape → ℕ → ℕ → Head) (index value : ℕ) (uses : List Use) (i : ℕ) (e : Use) (t s x : Tree) → 0 < i → slice_get uses (i - 1) ≡ Some e → EdgesLengthened m shortened index value (drop i uses) t s → EdgeLengthened m shortened index value e s x → EdgesLengthened m shortened index value (drop (i - 1) uses) t x
one_more_edge m shortened index value uses i e t s x some at before l =
    let n : suc (i - 1) ≡ i = omega (arith, some) in
    subst (λ z. EdgesLengthened m shortened index value z t x) (sym (drop_at uses (i - 1) e at ∙ ap (λ z. e ∷ drop z uses) n)) (s, before, l)

-- the same edges, of tables and trees that are equal
pub same_edges : (m : Meaning) (shortened : Shape → ℕ → ℕ → Head) (index value : ℕ) (block_uses block_uses' : List (List Use)) (block i : ℕ) (t x x' : Tree) → block_uses' ≡ block_uses → x' ≡ x → EdgesLengthened m shortened index value (drop i (uses_of block_uses block)) t x → EdgesLengthened m shortened index value (drop i (uses_of block_uses' block)) t x'
same_edges m shortened index value block_uses block_uses' block i t x x' p q l = subst (λ z. EdgesLengthened m shortened index value (drop i (uses_of z block)) t x') (sym p) (subst (λ z. EdgesLengthened m shortened index value (drop i (uses_of block_uses block)) t z) (sym q) l)
