-- Each edge that forwards one value more forwards it at its index.
use Rattle.std.proofs.Common.{◌≡◌, ◌≢◌, ⊎_elim, ℕ, zero, suc, ◌<◌, ◌≤◌, Bool, List, [], ◌∷◌, length, map, Some, slice_get, slice_index_or, refl, sym, ap, ◌∙◌, subst, arith, tests}
use Rattle.std.specs.List.{insert}
use Rattle.std.specs.Option.{option_map}
use Rattle.std.proofs.lemmas.Bool.{cases_eq}
use Rattle.std.proofs.lemmas.Option.{slice_get-map}
use Rattle.pliron_core.specs.declared.uses.Use.{Use}
use Rattle.pliron_core.specs.Tree.{Tree, In, row_of, operands_of, successors_of}
use Rattle.pliron_core.proofs.HoldingLemmas.{some_is, not_none, in_slice}
use Rattle.pliron_core.proofs.TreeLemmas.{cases_lt}
use Rattle.pliron_laws.specs.Datum.{Head, Shape, Meaning}
use Rattle.pliron_laws.specs.Tree.{Operation, op_at, shape_of}
use Rattle.pliron_laws.specs.Answers.{IsForwardedAt}
use Rattle.pliron_laws.specs.Laws.{moved_up, ForwardsOperands}
use Rattle.pliron_laws.specs.PlaceLaws.{stays}
use Rattle.pliron_laws.proofs.Records.{op_shows, operation_of}
use Rattle.pliron_theory.proofs.ShortenedBranches.{Among}
use Rattle.pliron_dialect_edges.specs.Lengthened.{one_more}
use Rattle.pliron_rewrite_loops.specs.Lengthening.{EdgeLengthened, EdgesLengthened}
use Rattle.pliron_rewrite_loops.proofs.LengthenedBack.{insert_there}
use Rattle.pliron_rewrite_loops.proofs.Longer.{same_successors, framed, operands_there, stands_there, shape_there, op_other, shape_other, le, places_other, operands_other, row_other}

-- what stood behind the place stands one further, what stood before it stays
behind_inserted : {A : Type 0} (xs : List A) (i : ℕ) (y : A) (p : ℕ) → i ≤ length xs → i ≤ p → slice_get (insert xs i y) (suc p) ≡ slice_get xs p
behind_inserted xs zero y p le h = refl
behind_inserted [] (suc i) y p le h = absurd (omega (arith, le))
behind_inserted (x ∷ xs) (suc i) y zero le h = absurd (omega (arith, h))
behind_inserted (x ∷ xs) (suc i) y (suc p) le h = behind_inserted xs i y p (omega (arith, le)) (omega (arith, h))

before_inserted : {A : Type 0} (xs : List A) (i : ℕ) (y : A) (p : ℕ) → i ≤ length xs → p < i → slice_get (insert xs i y) p ≡ slice_get xs p
before_inserted xs zero y p le h = absurd (omega (arith, h))
before_inserted [] (suc i) y p le h = absurd (omega (arith, le))
before_inserted (x ∷ xs) (suc i) y zero le h = refl
before_inserted (x ∷ xs) (suc i) y (suc p) le h = before_inserted xs i y p (omega (arith, le)) (omega (arith, h))

-- what stands at another place than the item that was inserted stood at that place, moved up
beside_inserted : {A : Type 0} (xs : List A) (i : ℕ) (y : A) (p : ℕ) → i ≤ length xs → p ≢ i → slice_get (insert xs i y) p ≡ slice_get xs (moved_up i p)
beside_inserted xs i y p le ne = ⊎_elim
    (λ h. before_inserted xs i y p le h ∙ ap (slice_get xs) (sym (stays i p (omega (arith, h)))))
    (λ h. behind p h ne)
    (cases_lt p i)
  where
    behind : (p : ℕ) → i ≤ p → p ≢ i → slice_get (insert xs i y) p ≡ slice_get xs (moved_up i p)
    behind zero h ne = absurd (ne (omega (arith, h)))
    behind (suc p) h ne =
        let less : i < suc p = omega (arith, h, ne) in
        let up : moved_up i (suc p) ≡ p = grind (arith, tests, less) in
        behind_inserted xs i y p le (omega (arith, less)) ∙ ap (slice_get xs) (sym up)

-- what is mapped to an item is one
pub mapped_from : {A B : Type 0} (f : A → B) (xs : List A) (i : ℕ) (b : B) → slice_get (map f xs) i ≡ Some b → (a : A) × (slice_get xs i ≡ Some a) × (f a ≡ b)
mapped_from f [] i b e = absurd (not_none e)
mapped_from f (x ∷ xs) zero b e = (x, refl, some_is e)
mapped_from f (x ∷ xs) (suc i) b e = mapped_from f xs i b e

-- the edge forwards the value at this index, which stands at a place among the operands
abbrev pub ForwardsThere : Meaning → Tree → (k i index value : ℕ) → Type 0
ForwardsThere m t k i index value = (o : Operation) → op_at t k ≡ Some o → (p : ℕ) × (slice_get (m.forwarded (shape_of m t o) i) index ≡ Some p) × (slice_get o.operands p ≡ Some value)

pub forwarded_at : (m : Meaning) (t : Tree) (k i index value : ℕ) → ForwardsThere m t k i index value → IsForwardedAt m t k i index (Some value)
forwarded_at m t k i index value f o e =
    let x = f o e in
    sym (slice_get-map (λ p. slice_get o.operands p) (m.forwarded (shape_of m t o) i) index ∙ ap (option_map (λ p. slice_get o.operands p)) x.1 ∙ ap Some x.2)

module _ (m : Meaning) (can_fold : Head → Bool) (SameTests : Head → Head → Type 0) (shortened : Shape → ℕ → ℕ → Head) (law : ForwardsOperands m can_fold SameTests shortened) (index value : ℕ) where
  module _ (e : Use) (t u : Tree) (x : EdgeLengthened m shortened index value e t u) where
    abbrev new : Shape
    new = one_more (shape_of m t x.operation) x.head

    abbrev after : Operation
    after = operation_of u e.user x.head

    is_after : (o : Operation) → op_at u e.user ≡ Some o → after ≡ o
    is_after o q = some_is (sym (stands_there m can_fold SameTests shortened law index value e t u x) ∙ q)

    -- the edge that was lengthened
    there : ForwardsThere m u e.user e.place index value
    there o q = subst (λ z. (p : ℕ) × (slice_get (m.forwarded (shape_of m u z) e.place) index ≡ Some p) × (slice_get z.operands p ≡ Some value)) (is_after o q) (
      x.place,
      ap (λ z. slice_get (m.forwarded z e.place) index) (shape_there m can_fold SameTests shortened law index value e t u x) ∙ ap (slice_get (m.forwarded new e.place)) (sym x.count) ∙ x.longer.last,
      ap (λ xs. slice_get xs x.place) (operands_there m can_fold SameTests shortened law index value e t u x) ∙ insert_there (operands_of t e.user) x.place value (le m can_fold SameTests shortened law index value e t u x),
    )

    -- another edge of the same operation
    beside : (block i : ℕ) → slice_get (successors_of t e.user) e.place ≡ Some block → i ≢ e.place → ForwardsThere m t e.user i index value → ForwardsThere m u e.user i index value
    beside block i listed ne f o q = subst (λ z. (p : ℕ) × (slice_get (m.forwarded (shape_of m u z) i) index ≡ Some p) × (slice_get z.operands p ≡ Some value)) (is_after o q) (
      from.0,
      ap (λ z. slice_get (m.forwarded z i) index) (shape_there m can_fold SameTests shortened law index value e t u x) ∙ from.1,
      ap (λ xs. slice_get xs from.0) (operands_there m can_fold SameTests shortened law index value e t u x)
          ∙ beside_inserted (operands_of t e.user) x.place value from.0 (le m can_fold SameTests shortened law index value e t u x) apart
          ∙ ap (slice_get (operands_of t e.user)) from.2
          ∙ ap (λ xs. slice_get xs before.0) (op_shows t e.user x.operation x.stands).operands
          ∙ before.2,
    )
      where
        before : (p : ℕ) × (slice_get (m.forwarded (shape_of m t x.operation) i) index ≡ Some p) × (slice_get x.operation.operands p ≡ Some value)
        before = f x.operation x.stands

        from : (p : ℕ) × (slice_get (m.forwarded new i) index ≡ Some p) × (moved_up x.place p ≡ before.0)
        from = mapped_from (moved_up x.place) (m.forwarded new i) index before.0 (ap (λ z. slice_get z index) (sym (places_other m can_fold SameTests shortened law index value e t u x block listed i ne)) ∙ before.1)

        apart : from.0 ≢ x.place
        apart q = ne (law.distinct new x.longer.admitted x.longer.branch i e.place index (length (m.forwarded (shape_of m t x.operation) e.place)) from.0 from.1 (x.longer.last ∙ ap Some (sym q))).0

    -- an edge of another operation
    elsewhere : (k i : ℕ) → k ≢ e.user → ForwardsThere m t k i index value → ForwardsThere m u k i index value
    elsewhere k i ne f o q =
        let y = f o (sym (op_other m can_fold SameTests shortened law index value e t u x k ne) ∙ q) in
        (y.0, ap (λ z. slice_get (m.forwarded z i) index) (shape_other m can_fold SameTests shortened law index value e t u x o) ∙ y.1, y.2)

  -- each of them
  pub each_forwards : (block : ℕ) (edges : List Use) (t u : Tree) → ((n : ℕ) (e : Use) → slice_get edges n ≡ Some e → slice_get (successors_of t e.user) e.place ≡ Some block) → EdgesLengthened m shortened index value edges t u → (k i : ℕ) → Among k i edges → ForwardsThere m u k i index value
  each_forwards block [] t u listed x k i (n, a) = absurd (not_none a)
  each_forwards block (e ∷ es) t u listed x k i a =
      let before : Among k i es → ForwardsThere m x.0 k i index value = each_forwards block es t x.0 (λ n. listed (suc n)) x.1 k i in
      ⊎_elim
      (λ q. ⊎_elim
      (λ r. subst (λ z. ForwardsThere m u z i index value) (sym q) (subst (λ z. ForwardsThere m u e.user z index value) (sym r) (there e x.0 u x.2)))
      (λ ne. subst (λ z. ForwardsThere m u z i index value) (sym q) (beside e x.0 u x.2 block i here ne (subst (λ z. ForwardsThere m x.0 z i index value) q (before (behind (λ b. ne (sym (ap (λ z. z.place) b))) a)))))
      (cases_eq i e.place))
      (λ ne. elsewhere e x.0 u x.2 k i ne (before (behind (λ b. ne (sym (ap (λ z. z.user) b))) a)))
      (cases_eq k e.user)
    where
      here : slice_get (successors_of x.0 e.user) e.place ≡ Some block
      here = ap (λ z. slice_get (slice_index_or z e.user []) e.place) (same_successors t x.0 (framed m can_fold SameTests shortened law index value es t x.0 x.1)) ∙ listed zero e refl

      behind : ((e ≡ record { user = k; place = i }) → ⊥) → Among k i (e ∷ es) → Among k i es
      behind ne (zero, r) = absurd (ne (some_is r))
      behind ne (suc n, r) = (n, r)

  -- what doesn't lead to the block has the operands that it had
  pub untouched : (block : ℕ) (edges : List Use) (t u : Tree) → ((n : ℕ) (e : Use) → slice_get edges n ≡ Some e → slice_get (successors_of t e.user) e.place ≡ Some block) → EdgesLengthened m shortened index value edges t u → (k : ℕ) → (In block (successors_of t k) → ⊥) → operands_of u k ≡ operands_of t k
  untouched block [] t u listed x k out = ap (λ z. operands_of z k) x
  untouched block (e ∷ es) t u listed x k out =
      operands_other m can_fold SameTests shortened law index value e x.0 u x.2 k (λ q. out (subst (λ z. In block (successors_of t z)) (sym q) (in_slice (successors_of t e.user) e.place block (listed zero e refl))))
      ∙ untouched block es t x.0 (λ n. listed (suc n)) x.1 k out

  pub untouched_row : (block : ℕ) (edges : List Use) (t u : Tree) → ((n : ℕ) (e : Use) → slice_get edges n ≡ Some e → slice_get (successors_of t e.user) e.place ≡ Some block) → EdgesLengthened m shortened index value edges t u → (k : ℕ) → (In block (successors_of t k) → ⊥) → row_of u k ≡ row_of t k
  untouched_row block [] t u listed x k out = ap (λ z. row_of z k) x
  untouched_row block (e ∷ es) t u listed x k out =
      row_other m can_fold SameTests shortened law index value e x.0 u x.2 k (λ q. out (subst (λ z. In block (successors_of t z)) (sym q) (in_slice (successors_of t e.user) e.place block (listed zero e refl))))
      ∙ untouched_row block es t x.0 (λ n. listed (suc n)) x.1 k out
