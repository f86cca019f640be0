-- A branch that was lengthened is as it was once it loses that operand.
use Rattle.std.proofs.Common.{◌≡◌, ℕ, zero, suc, ◌+◌, ◌<◌, ◌≤◌, Bool, true, false, List, [], ◌∷◌, length, map, Some, None, IsSome, IsTrue, slice_get, slice_set, remove, refl, sym, ap, ap₂, ◌∙◌, subst, arith}
use Rattle.std.specs.List.{insert}
use Rattle.std.proofs.lemmas.List.{get_or-set_same, set-set, set-get_or}
use Rattle.std.proofs.lemmas.List.Edits.{length-insert}
use Rattle.pliron_core.specs.declared.uses.Use.{Use}
use Rattle.pliron_core.specs.Tree.{Tree, no_entry, row_of, head_of, operands_of, successors_of, results_of, regions_of}
use Rattle.pliron_core.specs.Writes.{operand_removed}
use Rattle.pliron_core.proofs.HoldingLemmas.{some_is, in_slice}
use Rattle.pliron_core.proofs.TreeLemmas.{live-within}
use Rattle.pliron_laws.specs.Datum.{Head, Shape, Meaning}
use Rattle.pliron_laws.specs.Tree.{Operation, op_at, block_at, region_at, entry_block, count_arguments, unless, shape_of}
use Rattle.pliron_laws.specs.Laws.{ForwardsOperands}
use Rattle.pliron_laws.specs.Answers.{with_head, HasPlace, LosesForwarded}
use Rattle.pliron_laws.proofs.Records.{op_shows, operation_of, make_op}
use Rattle.pliron_laws.proofs.ShapeLemmas.{shape_head}
use Rattle.pliron_theory.specs.Dropping.{EdgeLoses, Loses, EdgesLose}
use Rattle.pliron_theory.proofs.ShortenedBranches.{shape_operands}
use Rattle.pliron_dialect_edges.specs.Lengthened.{one_more, IsLengthened}
use Rattle.pliron_rewrite_loops.specs.Lengthening.{lengthened_at, EdgeLengthened, EdgesLengthened, LengtheningLaw}

-- what was inserted is there, and goes again
pub insert_there : {A : Type 0} (xs : List A) (i : ℕ) (y : A) → i ≤ length xs → slice_get (insert xs i y) i ≡ Some y
insert_there xs zero y h = refl
insert_there [] (suc i) y h = absurd (omega (arith, h))
insert_there (x ∷ xs) (suc i) y h = insert_there xs i y (omega (arith, h))

pub remove_insert : {A : Type 0} (xs : List A) (i : ℕ) (y : A) → i ≤ length xs → remove (insert xs i y) i ≡ xs
remove_insert xs zero y h = refl
remove_insert [] (suc i) y h = absurd (omega (arith, h))
remove_insert (x ∷ xs) (suc i) y h = ap (λ l. x ∷ l) (remove_insert xs i y (omega (arith, h)))

module _ (t : Tree) (op p y : ℕ) (h : Head) (lt : op < length t.operations) (lt' : op < length t.operands) (le : p ≤ length (operands_of t op)) where
  abbrev u : Tree
  u = lengthened_at t op p y h

  pub row_at : row_of u op ≡ record (row_of t op) { head = Some h }
  row_at = get_or-set_same t.operations op _ no_entry lt

  pub operands_at : operands_of u op ≡ insert (operands_of t op) p y
  operands_at = get_or-set_same t.operands op _ [] lt'

  pub stands : op_at u op ≡ Some (operation_of u op h)
  stands = make_op u op h (ap (λ z. z.head) row_at)

  -- the tree before
  back : (h0 : Head) → head_of t op ≡ Some h0 → t ≡ with_head (operand_removed u op p) op h0
  back h0 e = sym (ap₂ (λ a b. record t { operations = a; operands = b }) rows operands)
    where
      rows : slice_set (slice_set t.operations op (record (row_of t op) { head = Some h })) op (record (row_of u op) { head = Some h0 }) ≡ t.operations
      rows =
          ap (λ r. slice_set (slice_set t.operations op (record (row_of t op) { head = Some h })) op (record r { head = Some h0 })) row_at
          ∙ set-set t.operations op _ _
          ∙ ap (λ z. slice_set t.operations op (record (row_of t op) { head = z })) (sym e)
          ∙ set-get_or t.operations op no_entry

      operands : slice_set (slice_set t.operands op (insert (operands_of t op) p y)) op (remove (operands_of u op) p) ≡ t.operands
      operands =
          ap (λ xs. slice_set (slice_set t.operands op (insert (operands_of t op) p y)) op (remove xs p)) operands_at
          ∙ set-set t.operands op _ _
          ∙ ap (slice_set t.operands op) (remove_insert (operands_of t op) p y le)
          ∙ set-get_or t.operands op []

  pub shape_longer : (m : Meaning) (o : Operation) → op_at t op ≡ Some o → IsTrue (m.is_branch o.head) → IsTrue (m.is_branch h) → shape_of m u (operation_of u op h) ≡ one_more (shape_of m t o) h
  unfolding shape_of block_at region_at
  shape_longer m o e b b' =
      let s = op_shows t op o e in
      let operands : length (operands_of u op) ≡ length o.operands + 1 = ap length operands_at ∙ length-insert (operands_of t op) p y le ∙ ap (λ xs. length xs + 1) s.operands in
      let results : results_of u op ≡ o.results = ap (λ z. z.results) row_at ∙ s.results in
      let regions : regions_of u op ≡ o.regions = ap (λ z. z.regions) row_at ∙ s.regions in
      let successors : successors_of t op ≡ o.successors = s.successors in
      ap₂ (λ n rs. record { head = h; operands = n; results = length rs; successors = length (successors_of t op); entry_arguments = map (λ r. count_arguments (entry_block t r)) (regions_of u op); target_arguments = unless (m.is_branch h) (map (λ b. count_arguments (block_at t b)) (successors_of t op)) }) operands results
      ∙ ap₂ (λ cs rs. record { head = h; operands = length o.operands + 1; results = length o.results; successors = length cs; entry_arguments = map (λ r. count_arguments (entry_block t r)) rs; target_arguments = unless (m.is_branch h) (map (λ b. count_arguments (block_at t b)) cs) }) successors regions
      ∙ ap (λ z. record { head = h; operands = length o.operands + 1; results = length o.results; successors = length o.successors; entry_arguments = map (λ r. count_arguments (entry_block t r)) o.regions; target_arguments = z }) (aimless (m.is_branch h) _ b' ∙ sym (aimless (m.is_branch o.head) _ b))
    where
      aimless : (b : Bool) (xs : List ℕ) → IsTrue b → unless b xs ≡ None
      aimless true xs z = refl
      aimless false xs z = absurd (cc)

module _ (m : Meaning) (can_fold : Head → Bool) (SameTests : Head → Head → Type 0) (shortened : Shape → ℕ → ℕ → Head) (law : ForwardsOperands m can_fold SameTests shortened) where
  -- the place is among the operands, or behind them
  pub place_fits : (t : Tree) (edge place : ℕ) (head : Head) (o : Operation) → IsLengthened m shortened (shape_of m t o) edge place head → place < length o.operands + 1
  place_fits t edge place head o longer =
      let s = one_more (shape_of m t o) head in
      let below : place < (shape_of m t o).operands + 1 = law.places s longer.admitted longer.branch edge place (in_slice (m.forwarded s edge) (length (m.forwarded (shape_of m t o) edge)) place longer.last) in
      subst (λ n. place < n + 1) (shape_operands m t o) below

  lengthened_loses : (t : Tree) (op edge place y : ℕ) (head : Head) (o : Operation) → length t.operands ≡ length t.operations → op_at t op ≡ Some o → IsTrue (m.is_branch o.head) → IsLengthened m shortened (shape_of m t o) edge place head → HasPlace m (lengthened_at t op place y head) op edge (length (m.forwarded (shape_of m t o) edge)) × LosesForwarded m shortened (lengthened_at t op place y head) t op edge (length (m.forwarded (shape_of m t o) edge)) y
  lengthened_loses t op edge place y head o w e branch longer = (has, loses)
    where
      before : Shape
      before = shape_of m t o

      last : ℕ
      last = length (m.forwarded before edge)

      head_is : head_of t op ≡ Some o.head
      head_is = (op_shows t op o e).head

      lt : op < length t.operations
      lt = live-within t op (subst IsSome (sym head_is) refl)

      lt' : op < length t.operands
      lt' = omega (arith, lt, w)

      fits : place < length o.operands + 1
      fits = place_fits t edge place head o longer

      le : place ≤ length (operands_of t op)
      le = let n = ap length (op_shows t op o e).operands in omega (arith, fits, n)

      after : Tree
      after = lengthened_at t op place y head

      now : Operation
      now = operation_of after op head

      stands_now : op_at after op ≡ Some now
      stands_now = stands t op place y head lt lt' le

      shape_is : shape_of m after now ≡ one_more before head
      shape_is = shape_longer t op place y head lt lt' le m o e branch longer.branch

      there : slice_get (m.forwarded (shape_of m after now) edge) last ≡ Some place
      there = ap (λ z. slice_get (m.forwarded z edge) last) shape_is ∙ longer.last

      many : length now.operands ≡ length (operands_of t op) + 1
      many = ap length (operands_at t op place y head lt lt' le) ∙ length-insert (operands_of t op) place y le

      here : (place : ℕ) × (slice_get (m.forwarded (shape_of m after now) edge) last ≡ Some place) × (place < length now.operands)
      here = (place, there, omega (arith, le, many))

      has : HasPlace m after op edge last
      has z ze = subst (λ a. (p : ℕ) × (slice_get (m.forwarded (shape_of m after a) edge) last ≡ Some p) × (p < length a.operands)) (some_is (sym stands_now ∙ ze)) here

      loses_now : (p : ℕ) → slice_get (m.forwarded (shape_of m after now) edge) last ≡ Some p → (slice_get now.operands p ≡ Some y) × (t ≡ with_head (operand_removed after op p) op (shortened (shape_of m after now) edge last))
      loses_now p q =
          let same : place ≡ p = some_is (sym there ∙ q) in
          let short : shortened (shape_of m after now) edge last ≡ o.head = ap (λ z. shortened z edge last) shape_is ∙ longer.back ∙ shape_head m t o in
          subst (λ n. (slice_get now.operands n ≡ Some y) × (t ≡ with_head (operand_removed after op n) op (shortened (shape_of m after now) edge last))) same (
            ap (λ xs. slice_get xs place) (operands_at t op place y head lt lt' le) ∙ insert_there (operands_of t op) place y le,
            back t op place y head lt lt' le o.head head_is ∙ ap (λ z. with_head (operand_removed after op place) op z) (sym short),
          )

      loses : LosesForwarded m shortened after t op edge last y
      loses z p ze q = subst (λ a. slice_get (m.forwarded (shape_of m after a) edge) last ≡ Some p → (slice_get a.operands p ≡ Some y) × (t ≡ with_head (operand_removed after op p) op (shortened (shape_of m after a) edge last))) (some_is (sym stands_now ∙ ze)) (loses_now p) q

  -- it has the place, and is as it was once it loses that
  pub loses_again : (index value : ℕ) (e : Use) (t u : Tree) → EdgeLengthened m shortened index value e t u → HasPlace m u e.user e.place index × LosesForwarded m shortened u t e.user e.place index value
  loses_again index value e t u x =
      subst (λ z. HasPlace m z e.user e.place index × LosesForwarded m shortened z t e.user e.place index value) (sym x.is)
      (subst (λ n. HasPlace m (lengthened_at t e.user x.place value x.head) e.user e.place n × LosesForwarded m shortened (lengthened_at t e.user x.place value x.head) t e.user e.place n value) x.count (lengthened_loses t e.user e.place x.place value x.head x.operation x.rows x.stands x.branch x.longer))

  one : (index value : ℕ) (e : Use) (t u : Tree) → EdgeLengthened m shortened index value e t u → EdgeLoses m shortened index e u t
  one index value e t u x = let r = loses_again index value e t u x in Loses value r.0 r.1

  all : (index value : ℕ) (edges : List Use) (t u : Tree) → EdgesLengthened m shortened index value edges t u → EdgesLose m shortened index edges u t
  all index value [] t u e = sym e
  all index value (e ∷ es) t u x = (x.0, one index value e x.0 u x.2, all index value es t x.0 x.1)

  pub lengthening : LengtheningLaw m shortened
  lengthening = record { one = one; all = all }
