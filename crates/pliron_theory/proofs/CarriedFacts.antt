-- Facts that stay sound while constants are put for values.
use Rattle.std.proofs.Common.{◌≡◌, ◌⊎◌, inl, inr, ⊎_elim, ℕ, zero, suc, List, [], ◌∷◌, map, length, Option, Some, None, slice_get, refl, sym, ap, ap₂, ◌∙◌, subst, IsTrue}
use Rattle.pliron_core.specs.declared.attrs.AttrObj.{AttrObj}
use Rattle.pliron_core.specs.Tree.{Tree, In, IsInside, HoldsBlock, no_entry, row_of, head_of, operands_of, successors_of, results_of, regions_of, parent_of, arguments_of, block_parent_of, layout_of, first_of, region_parent_of, block_parent_operation_of, parent_operation_of, up_from, op_of_slot}
use Rattle.pliron_core.specs.Invariant.{IsTree}
use Rattle.pliron_core.proofs.HoldingLemmas.{some_is, not_none, in_slice, slice_in, slot_is, holder_is, holder_by, inside_more, within_more, inside_block}
use Rattle.pliron_core.proofs.UsedLemmas.{length_map}
use Rattle.pliron_laws.specs.Datum.{Empty, datum_of, Meaning}
use Rattle.pliron_laws.specs.Tree.{Operation, op_at, block_at, block_with, and_block, entry_block, count_arguments, shape_of}
use Rattle.pliron_theory.specs.Renaming.{GivesConstant}
use Rattle.pliron_laws.proofs.Records.{ShowsOperation, operation_of, op_shows, make_op, region_entry}
use Rattle.pliron_theory.proofs.Alike.{shape_same}
use Rattle.pliron_theory.proofs.KnownData.{picked_at}
use Rattle.pliron_theory.specs.LatticeValues.{LatticeValue, Constant, NotAConstant, AtMost, lattice_constant, value_of_answer, LatticeValues, Says, operand_constants, answers_of, IsInExecutableBlock, IsFeasibleEdge, Forwards, IsBelowNamed, AreBelowNamed}
use Rattle.pliron_theory.specs.Sound.{AreSound, IsRightResult}
use Rattle.pliron_theory.proofs.FactLattice.{picked_in}

-- the second tree is the first one with operands renamed and with new operations that give constants, and the facts
-- about it say the same
pub record IsCarried (x : Says) (t t' : Tree) (f f' : LatticeValues) (read read' : ℕ → LatticeValue) (rename : ℕ → ℕ) (New : ℕ → Type 0) : Type 0 where
  pub decides : (k : ℕ) → New k ⊎ (New k → ⊥)
  pub rows : (k : ℕ) → (New k → ⊥) → row_of t' k ≡ row_of t k
  pub operands : (k : ℕ) → (New k → ⊥) → operands_of t' k ≡ map rename (operands_of t k)
  pub successors : (k : ℕ) → (New k → ⊥) → successors_of t' k ≡ successors_of t k
  pub parents : (k : ℕ) → (New k → ⊥) → parent_of t' k ≡ parent_of t k
  pub arguments : (b : ℕ) → arguments_of t' b ≡ arguments_of t b
  pub block_parents : (b : ℕ) → block_parent_of t' b ≡ block_parent_of t b
  pub layouts : (r : ℕ) → layout_of t' r ≡ layout_of t r
  pub fresh : (k : ℕ) → New k → (row_of t k ≡ no_entry) × (parent_of t k ≡ None)
  pub childless : (k : ℕ) → New k → regions_of t' k ≡ []
  pub edgeless : (k : ℕ) → New k → successors_of t' k ≡ []
  pub placed : (k : ℕ) → New k → IsInExecutableBlock t' f' k
  pub gives : (k : ℕ) → New k → (v : ℕ) × (c : AttrObj) × GivesConstant x.meaning t' k v (datum_of c) × (read' v ≡ Constant c)
  pub is_executable : (b : ℕ) → f'.is_executable b ≡ f.is_executable b
  pub used : (k v : ℕ) → In v (operands_of t k) → (f'.lattice_value (rename v) ≡ f.lattice_value v) × (read' (rename v) ≡ read v)
  pub listed_results : (k v : ℕ) → In v (results_of t k) → read' v ≡ read v
  pub listed_arguments : (b v : ℕ) → In v (arguments_of t b) → read' v ≡ read v
  pub finer : (v : ℕ) → AtMost (f'.lattice_value v) (read' v)

shape_longer : (m : Meaning) (t : Tree) (o : Operation) (xs : List ℕ) → length o.operands ≡ length xs → shape_of m t o ≡ shape_of m t (record o { operands = xs })
unfolding shape_of
shape_longer m t o xs e = ap (λ n. record (shape_of m t o) { operands = n }) e

no_item : (i b : ℕ) (xs : List ℕ) → xs ≡ [] → slice_get xs i ≡ Some b → ⊥
no_item i b xs none e = not_none (sym (ap (λ z. slice_get z i) none) ∙ e)

not_in : (b : ℕ) (xs : List ℕ) → xs ≡ [] → In b xs → ⊥
not_in b xs none i = subst (In b) none i

only_item : (xs : List ℕ) (v w i : ℕ) → xs ≡ v ∷ [] → slice_get xs i ≡ Some w → w ≡ v
only_item xs v w i one e = go i (ap (λ z. slice_get z i) (sym one) ∙ e)
  where
    go : (i : ℕ) → slice_get (v ∷ []) i ≡ Some w → w ≡ v
    go zero e = sym (some_is e)
    go (suc i) e = absurd (not_none e)

mapped : (f : ℕ → ℕ) (xs : List ℕ) (i y : ℕ) → slice_get (map f xs) i ≡ Some y → (x : ℕ) × (slice_get xs i ≡ Some x) × (y ≡ f x)
mapped f [] i y e = absurd (not_none e)
mapped f (x ∷ xs) zero y e = (x, refl, sym (some_is e))
mapped f (x ∷ xs) (suc i) y e = mapped f xs i y e

map_twice : {B : Type 0} (g h : ℕ → B) (f : ℕ → ℕ) (xs : List ℕ) → ((v : ℕ) → In v xs → g (f v) ≡ h v) → map g (map f xs) ≡ map h xs
map_twice g h f [] e = refl
map_twice g h f (x ∷ xs) e = ap₂ (λ y ys. y ∷ ys) (e x (inl refl)) (map_twice g h f xs (λ v i. e v (inr i)))

module _ (x : Says) (t t' : Tree) (root : ℕ) (f f' : LatticeValues) (read read' : ℕ → LatticeValue) (rename : ℕ → ℕ) (New : ℕ → Type 0) (w : IsTree t) (w' : IsTree t') (c : IsCarried x t t' f f' read read' rename New) (sound : AreSound x t root f read) where
  -- places
  old_slot : (r k i : ℕ) → slice_get (regions_of t k) i ≡ Some r → slice_get (regions_of t' k) i ≡ Some r
  old_slot r k i e = ⊎_elim
      (λ n. absurd (no_item i r (regions_of t k) (ap (λ z. z.regions) (c.fresh k n).0) e))
      (λ n. ap (λ z. slice_get z.regions i) (c.rows k n) ∙ e)
      (c.decides k)

  pub block_holders : (b : ℕ) → block_parent_operation_of t' b ≡ block_parent_operation_of t b
  block_holders b = ap (λ o. up_from o (λ r. region_parent_of t' r)) (c.block_parents b) ∙ go (block_parent_of t b) refl
    where
      go : (o : Option ℕ) → block_parent_of t b ≡ o → up_from o (λ r. region_parent_of t' r) ≡ up_from o (λ r. region_parent_of t r)
      go None e = refl
      go (Some r) e =
          let s = slot_is t r (w.joined.placed b r e) in
          ap op_of_slot (w'.joined.regions s.0.op s.0.index r (old_slot r s.0.op s.0.index s.2) ∙ sym s.1)

  not_new : (k b : ℕ) → parent_of t k ≡ Some b → New k → ⊥
  not_new k b e n = not_none (sym (c.fresh k n).1 ∙ e)

  holders : (k p : ℕ) → parent_operation_of t k ≡ Some p → parent_operation_of t' k ≡ Some p
  holders k p e =
      let h = holder_is t k p e in
      holder_by t' k h.0 p (c.parents k (not_new k h.0 h.1) ∙ h.1) (block_holders h.0 ∙ h.2)

  pub inside_too : (op k : ℕ) → IsInside t op k → IsInside t' op k
  inside_too op k i = inside_more t t' holders i

  pub holds_too : (op b : ℕ) → HoldsBlock t op b → HoldsBlock t' op b
  holds_too op b (k, e, within) = (k, block_holders b ∙ e, within_more t t' holders within)

  stands_too : (k : ℕ) → IsInExecutableBlock t f k → IsInExecutableBlock t' f' k
  stands_too k (b, p, r) = (b, c.parents k (not_new k b p) ∙ p, c.is_executable b ∙ r)

  stands_back : (k : ℕ) → (New k → ⊥) → IsInExecutableBlock t' f' k → IsInExecutableBlock t f k
  stands_back k n (b, p, r) = (b, sym (c.parents k n) ∙ p, sym (c.is_executable b) ∙ r)

  -- shapes
  count_block : (b : ℕ) → count_arguments (block_at t b) ≡ count_arguments (block_at t' b)
  unfolding block_at
  count_block b = go (block_parent_of t b) ∙ ap (λ o. count_arguments (block_with t' b o)) (sym (c.block_parents b))
    where
      go : (o : Option ℕ) → count_arguments (block_with t b o) ≡ count_arguments (block_with t' b o)
      go None = refl
      go (Some r) = ap length (sym (c.arguments b))

  count_entry : (k i r : ℕ) → slice_get (regions_of t k) i ≡ Some r → count_arguments (entry_block t r) ≡ count_arguments (entry_block t' r)
  count_entry k i r e =
      ap count_arguments (region_entry t r k (ap op_of_slot (w.joined.regions k i r e)))
      ∙ go (first_of (layout_of t r) None)
      ∙ ap (λ z. count_arguments (and_block t' (first_of z None))) (sym (c.layouts r))
      ∙ ap count_arguments (sym (region_entry t' r k (ap op_of_slot (w'.joined.regions k i r (old_slot r k i e)))))
    where
      go : (o : Option ℕ) → count_arguments (and_block t o) ≡ count_arguments (and_block t' o)
      go None = refl
      go (Some b) = count_block b

  -- the operation as it was before
  pub record WasBefore (k : ℕ) (o' : Operation) : Type 0 where
    pub operation : Operation
    pub liveness : op_at t k ≡ Some operation
    pub head : o'.head ≡ operation.head
    pub operands : o'.operands ≡ map rename operation.operands
    pub was : operation.operands ≡ operands_of t k
    pub results : o'.results ≡ operation.results
    pub successors : o'.successors ≡ operation.successors
    pub regions : o'.regions ≡ operation.regions
    pub shape : shape_of x.meaning t' o' ≡ shape_of x.meaning t operation

  pub before : (k : ℕ) → (New k → ⊥) → (o' : Operation) → op_at t' k ≡ Some o' → WasBefore k o'
  before k n o' e = record {
    operation = record o' { operands = operands_of t k };
    liveness = make_op t k o'.head head_was ∙ ap Some same;
    head = refl;
    operands = sym s.operands ∙ c.operands k n;
    was = refl;
    results = refl;
    successors = refl;
    regions = refl;
    shape = sym (shape_same x.meaning t t' o' entries (λ b i. count_block b)) ∙ shape_longer x.meaning t o' (operands_of t k) (ap length (sym s.operands ∙ c.operands k n) ∙ length_map rename (operands_of t k));
  }
    where
      s : ShowsOperation t' k o'
      s = op_shows t' k o' e

      head_was : head_of t k ≡ Some o'.head
      head_was = sym (ap (λ z. z.head) (c.rows k n)) ∙ s.head

      regions_were : regions_of t k ≡ o'.regions
      regions_were = sym (ap (λ z. z.regions) (c.rows k n)) ∙ s.regions

      same : operation_of t k o'.head ≡ record o' { operands = operands_of t k }
      same =
          let a : results_of t k ≡ o'.results = sym (ap (λ z. z.results) (c.rows k n)) ∙ s.results in
          let b : successors_of t k ≡ o'.successors = sym (c.successors k n) ∙ s.successors in
          let d : regions_of t k ≡ o'.regions = regions_were in
          let g : parent_of t k ≡ o'.parent = sym (c.parents k n) ∙ s.parent in
          cc

      entries : (r : ℕ) → In r o'.regions → count_arguments (entry_block t r) ≡ count_arguments (entry_block t' r)
      entries r i = let at = slice_in o'.regions r i in count_entry k at.0 r (ap (λ z. slice_get z at.0) regions_were ∙ at.1)

  -- what is handed to folds, and what they answer
  pub handed_same : (k : ℕ) (o' : Operation) (b : WasBefore k o') → operand_constants f' o'.operands ≡ operand_constants f b.operation.operands
  handed_same k o' b =
      ap (operand_constants f') b.operands
      ∙ map_twice (λ v. lattice_constant (f'.lattice_value v)) (λ v. lattice_constant (f.lattice_value v)) rename b.operation.operands (λ v i. ap lattice_constant (c.used k v (subst (In v) b.was i)).0)

  pub answers_same : (k : ℕ) (o' : Operation) (b : WasBefore k o') → answers_of x t' f' o' ≡ answers_of x t f b.operation
  answers_same k o' b = ap₂ (λ s ks. x.constants s ks) b.shape (handed_same k o' b)

  forwards_back : (k i j y : ℕ) (o' : Operation) (b : WasBefore k o') → Forwards x t' o' i j y → (u : ℕ) × Forwards x t b.operation i j u × (read' y ≡ read u)
  forwards_back k i j y o' b g =
      let p = picked_at (x.meaning.forwarded (shape_of x.meaning t' o') i) o'.operands j (Some y) g in
      let q = mapped rename b.operation.operands p.0 y (ap (λ z. slice_get z p.0) (sym b.operands) ∙ p.2) in
      let place = ap (λ s. slice_get (x.meaning.forwarded s i) j) (sym b.shape) ∙ p.1 in
      (q.0, picked_in (x.meaning.forwarded (shape_of x.meaning t b.operation) i) b.operation.operands j p.0 q.0 place q.1, ap read' q.2 ∙ (c.used k q.0 (subst (In q.0) b.was (in_slice b.operation.operands p.0 q.0 q.1))).1)

  no_results : (k v : ℕ) → (IsInside t' root k → ⊥) → In v (results_of t' k) → read' v ≡ NotAConstant
  no_results k v never i = ⊎_elim
      (λ n. let p = c.placed k n in absurd (never (inside_block p.0 p.1 (holds_too root p.0 (sound.inside p.0 (sym (c.is_executable p.0) ∙ p.2))))))
      (λ n. let j = subst (In v) (ap (λ z. z.results) (c.rows k n)) i in c.listed_results k v j ∙ sound.no_results k v (λ inside. never (inside_too root k inside)) j)
      (c.decides k)

  no_arguments : (b v : ℕ) → (HoldsBlock t' root b → ⊥) → In v (arguments_of t' b) → read' v ≡ NotAConstant
  no_arguments b v never i = let j = subst (In v) (c.arguments b) i in c.listed_arguments b v j ∙ sound.no_arguments b v (λ h. never (holds_too root b h)) j

  held : (b k : ℕ) → IsTrue (f'.is_executable b) → block_parent_operation_of t' b ≡ Some k → (k ≡ root) ⊎ IsInExecutableBlock t' f' k
  held b k r e = ⊎_elim (λ s. inl s) (λ s. inr (stands_too k s)) (sound.held b k (sym (c.is_executable b) ∙ r) (sym (block_holders b) ∙ e))

  root_entries : (r b : ℕ) → In r (regions_of t' root) → first_of (layout_of t' r) None ≡ Some b → IsTrue (f'.is_executable b) × ((v : ℕ) → In v (arguments_of t' b) → read' v ≡ NotAConstant)
  root_entries r b i e = ⊎_elim
      (λ n. absurd (not_in r (regions_of t' root) (c.childless root n) i))
      (λ n.
      let y = sound.root_entries r b (subst (In r) (ap (λ z. z.regions) (c.rows root n)) i) (ap (λ z. first_of z None) (sym (c.layouts r)) ∙ e) in
      (c.is_executable b ∙ y.0, λ v j. let u = subst (In v) (c.arguments b) j in c.listed_arguments b v u ∙ y.1 v u))
      (c.decides root)

  entries : (k i r b : ℕ) (o : Operation) → IsInExecutableBlock t' f' k → op_at t' k ≡ Some o → slice_get o.regions i ≡ Some r → first_of (layout_of t' r) None ≡ Some b → IsTrue (f'.is_executable b) × AreBelowNamed x t' read' read' o i b
  entries k i r b o' liveness at there e = by (c.decides k)
    where
      by : New k ⊎ (New k → ⊥) → IsTrue (f'.is_executable b) × AreBelowNamed x t' read' read' o' i b
      by (inl n) = absurd (no_item i r o'.regions (sym (op_shows t' k o' at).regions ∙ c.childless k n) there)
      by (inr n) = (c.is_executable b ∙ old.0, arguments)
        where
          b4 : WasBefore k o'
          b4 = before k n o' at

          old : IsTrue (f.is_executable b) × AreBelowNamed x t read read b4.operation i b
          old = sound.entries k i r b b4.operation (stands_back k n liveness) b4.liveness (ap (λ z. slice_get z i) (sym b4.regions) ∙ there) (ap (λ z. first_of z None) (sym (c.layouts r)) ∙ e)

          below : (v : ℕ) → read' v ≡ read v → (a : Option ℕ) → IsBelowNamed read read b4.operation.operands a v → IsBelowNamed read' read' o'.operands a v
          below v same None q = same ∙ q
          below v same (Some p) q = λ u g.
              let was = mapped rename b4.operation.operands p u (ap (λ z. slice_get z p) (sym b4.operands) ∙ g) in
              let still : read' u ≡ read was.0 = ap read' was.2 ∙ (c.used k was.0 (subst (In was.0) b4.was (in_slice b4.operation.operands p was.0 was.1))).1 in
              subst (λ z. AtMost z (read' u)) (sym same) (subst (AtMost (read v)) (sym still) (q was.0 was.1))

          arguments : AreBelowNamed x t' read' read' o' i b
          arguments j v a =
              let at_old : slice_get (arguments_of t b) j ≡ Some v = ap (λ z. slice_get z j) (sym (c.arguments b)) ∙ a in
              let same = c.listed_arguments b v (in_slice (arguments_of t b) j v at_old) in
              subst (λ s. IsBelowNamed read' read' o'.operands (x.entry_operands s i j) v) (sym b4.shape)
              (below v same (x.entry_operands (shape_of x.meaning t b4.operation) i j) (old.1 j v at_old))

  jumps : (k i b : ℕ) (o : Operation) → IsInExecutableBlock t' f' k → op_at t' k ≡ Some o → IsFeasibleEdge x t' f' o i b → IsTrue (f'.is_executable b) × ((j v : ℕ) → slice_get (arguments_of t' b) j ≡ Some v → (read' v ≡ NotAConstant) ⊎ (IsTrue (x.meaning.is_branch o.head) × ((y : ℕ) → Forwards x t' o i j y → AtMost (read' v) (read' y))))
  jumps k i b o' liveness at go = by (c.decides k)
    where
      by : New k ⊎ (New k → ⊥) → IsTrue (f'.is_executable b) × ((j v : ℕ) → slice_get (arguments_of t' b) j ≡ Some v → (read' v ≡ NotAConstant) ⊎ (IsTrue (x.meaning.is_branch o'.head) × ((y : ℕ) → Forwards x t' o' i j y → AtMost (read' v) (read' y))))
      by (inl n) = absurd (no_item i b o'.successors (sym (op_shows t' k o' at).successors ∙ c.edgeless k n) go.0)
      by (inr n) = (c.is_executable b ∙ old.0, arguments)
        where
          b4 : WasBefore k o'
          b4 = before k n o' at

          went : IsFeasibleEdge x t f b4.operation i b
          went = (ap (λ z. slice_get z i) (sym b4.successors) ∙ go.0, λ folds. feasible_was (go.1 (ap x.can_fold_branch b4.head ∙ folds)))
            where
              feasible_was : In b (x.feasible (shape_of x.meaning t' o') o'.successors (operand_constants f' o'.operands)) → In b (x.feasible (shape_of x.meaning t b4.operation) b4.operation.successors (operand_constants f b4.operation.operands))
              feasible_was j =
                  subst (λ z. In b (x.feasible (shape_of x.meaning t b4.operation) b4.operation.successors z)) (handed_same k o' b4)
                  (subst (λ z. In b (x.feasible z b4.operation.successors (operand_constants f' o'.operands))) b4.shape
                  (subst (λ z. In b (x.feasible (shape_of x.meaning t' o') z (operand_constants f' o'.operands))) b4.successors j))

          old : IsTrue (f.is_executable b) × ((j v : ℕ) → slice_get (arguments_of t b) j ≡ Some v → (read v ≡ NotAConstant) ⊎ (IsTrue (x.meaning.is_branch b4.operation.head) × ((y : ℕ) → Forwards x t b4.operation i j y → AtMost (read v) (read y))))
          old = sound.jumps k i b b4.operation (stands_back k n liveness) b4.liveness went

          arguments : (j v : ℕ) → slice_get (arguments_of t' b) j ≡ Some v → (read' v ≡ NotAConstant) ⊎ (IsTrue (x.meaning.is_branch o'.head) × ((y : ℕ) → Forwards x t' o' i j y → AtMost (read' v) (read' y)))
          arguments j v e = ⊎_elim
              (λ z. inl (same ∙ z))
              (λ z. inr (
                ap x.meaning.is_branch b4.head ∙ z.0,
                λ y g.
                    let u = forwards_back k i j y o' b4 g in
                    subst (λ q. AtMost q (read' y)) (sym same) (subst (AtMost (read v)) (sym u.2) (z.1 u.0 u.1)),
              ))
              (old.1 j v at_old)
            where
              at_old : slice_get (arguments_of t b) j ≡ Some v
              at_old = ap (λ z. slice_get z j) (sym (c.arguments b)) ∙ e

              same : read' v ≡ read v
              same = c.listed_arguments b v (in_slice (arguments_of t b) j v at_old)

  results : (k i v : ℕ) (o : Operation) → IsInExecutableBlock t' f' k → op_at t' k ≡ Some o → slice_get o.results i ≡ Some v → IsRightResult x t' f' read' k i v o
  results k i v o' liveness at listed = by (c.decides k)
    where
      by : New k ⊎ (New k → ⊥) → IsRightResult x t' f' read' k i v o'
      by (inl n) =
          let g = c.gives k n in
          let one : v ≡ g.0 = only_item o'.results g.0 v i (sym (op_shows t' k o' at).results ∙ g.2.results) listed in
          inr (inr (g.1, subst (λ z. GivesConstant x.meaning t' k z (datum_of g.1)) (sym one) g.2, ap read' one ∙ g.3))
      by (inr n) = right (sound.results k i v b4.operation (stands_back k n liveness) b4.liveness listed_old)
        where
          b4 : WasBefore k o'
          b4 = before k n o' at

          listed_old : slice_get b4.operation.results i ≡ Some v
          listed_old = ap (λ z. slice_get z i) (sym b4.results) ∙ listed

          same : read' v ≡ read v
          same = c.listed_results k v (in_slice (results_of t k) i v (ap (λ z. slice_get z i) (op_shows t k b4.operation b4.liveness).results ∙ listed_old))

          still : (d : AttrObj) → GivesConstant x.meaning t k v (datum_of d) → GivesConstant x.meaning t' k v (datum_of d)
          still d g = record {
            results = ap (λ z. z.results) (c.rows k n) ∙ g.results;
            operands = c.operands k n ∙ ap (map rename) g.operands;
            regions = ap (λ z. z.regions) (c.rows k n) ∙ g.regions;
            gives = λ o e. let b = before k n o e in ap (λ s. x.meaning.act s Empty []) b.shape ∙ g.gives b.operation b.liveness;
          }

          right : IsRightResult x t f read k i v b4.operation → IsRightResult x t' f' read' k i v o'
          right (inl z) = inl (same ∙ z)
          right (inr (inl (folds, below))) = inr (inl (ap x.can_fold b4.head ∙ folds, λ a e. subst (λ q. AtMost q (value_of_answer a)) (sym same) (below a (ap (λ z. slice_get z i) (sym (answers_same k o' b4)) ∙ e))))
          right (inr (inr (d, g, z))) = inr (inr (d, still d g, same ∙ z))

  pub carried_sound : AreSound x t' root f' read'
  carried_sound = record {
    finer = c.finer;
    inside = λ b r. holds_too root b (sound.inside b (sym (c.is_executable b) ∙ r));
    held = held;
    no_results = no_results;
    no_arguments = no_arguments;
    root_entries = root_entries;
    entries = entries;
    jumps = jumps;
    results = results;
  }
