-- Making a constant before an operation, or first in a block, keeps what roots do.
use Rattle.std.proofs.Common.{◌≡◌, ℕ, ◌<◌, ◌≤◌, ◌⊎◌, inl, inr, false, true≢false, nat_eq, List, [], ◌∷◌, length, map, Some, None, IsSome, IsTrue, refl, sym, ap, ◌∙◌, subst, arith}
use Rattle.std.proofs.lemmas.Bool.{eq-eqb}
use Rattle.std.proofs.lemmas.List.{get_or_past}
use Rattle.pliron_core.specs.declared.attrs.Head.{Head}
use Rattle.pliron_core.specs.declared.attrs.AttrObj.{AttrObj}
use Rattle.pliron_core.specs.Lists.{In, last_of, put_before}
use Rattle.pliron_core.specs.Tree.{Tree, IsBlock, no_entry, row_of, head_of, operands_of, successors_of, results_of, regions_of, parent_of, body_of, block_parent_of}
use Rattle.pliron_core.specs.Invariant.{IsTree}
use Rattle.pliron_core.specs.Writes.{after_creating, after_placing, put_first, put_next_to}
use Rattle.pliron_core.proofs.BesideLemmas.{IsBeside, created_beside}
use Rattle.pliron_core.proofs.GrownLemmas.{get_grown, get_last_same}
use Rattle.pliron_core.proofs.HoldingLemmas.{some_is}
use Rattle.pliron_core.proofs.NeighbourLemmas.{last_of-In}
use Rattle.pliron_laws.specs.Datum.{Datum, Empty, datum_of, Meaning}
use Rattle.pliron_laws.specs.Tree.{Operation, block_at, entry_block, count_arguments, unless, shape_of}
use Rattle.pliron_laws.specs.Folding.{constant_shape, MakesConstant}
use Rattle.pliron_laws.specs.Linked.{IsAdmitted}
use Rattle.pliron_theory.specs.Keeps.{KeepsRuns}
use Rattle.pliron_theory.specs.Sweeping.{keep, swept, GivesNow}
use Rattle.pliron_laws.proofs.Records.{op_shows}
use Rattle.pliron_theory.proofs.PutKeeps.{KeepsReads}
use Rattle.pliron_theory.proofs.SweptLists.{swept_all}
use Rattle.pliron_theory.proofs.MadeKeeps.{swept_put, put_not_last, not_it, made_keeps, made_reads}

-- an operation without operands, successors and regions and with one result has a constant's shape
pub shape_plain : (m : Meaning) (t : Tree) (o : Operation) (head : Head) → m.is_branch head ≡ false → o.head ≡ head → o.operands ≡ [] → length o.results ≡ 1 → o.successors ≡ [] → o.regions ≡ [] → shape_of m t o ≡ constant_shape head
unfolding shape_of
shape_plain m t o head plain h a b c d =
    ap (λ x. record (shape_of m t o) { head = x; target_arguments = unless (m.is_branch x) (map (λ k. count_arguments (block_at t k)) o.successors) }) h
    ∙ ap (λ x. record (shape_of m t o) { head = head; target_arguments = unless x (map (λ k. count_arguments (block_at t k)) o.successors) }) plain
    ∙ ap (λ x. record (shape_of m t o) { head = head; operands = length x; target_arguments = Some (map (λ k. count_arguments (block_at t k)) o.successors) }) a
    ∙ ap (λ x. record (shape_of m t o) { head = head; operands = 0; results = x; target_arguments = Some (map (λ k. count_arguments (block_at t k)) o.successors) }) b
    ∙ ap (λ x. record (shape_of m t o) { head = head; operands = 0; results = 1; successors = length x; target_arguments = Some (map (λ k. count_arguments (block_at t k)) x) }) c
    ∙ ap (λ x. record (constant_shape head) { entry_arguments = map (λ r. count_arguments (entry_block t r)) x }) d

pub no_data : (ds : List Datum) → length ds ≡ 0 → ds ≡ []
no_data [] e = refl
no_data (d ∷ ds) e = grind arith

module _ (m : Meaning) (t : Tree) (head : Head) (attr : AttrObj) (w : IsTree t) (makes : MakesConstant m attr head) (plain : m.is_branch head ≡ false) where
  abbrev n : ℕ
  n = length t.operations

  abbrev d : Tree
  d = after_creating t head 1 0

  pub row : row_of (after_creating t head 1 0) (length t.operations) ≡ record { head = Some head; results = length t.definitions ∷ []; regions = [] }
  row = get_last_same t.operations _ no_entry

  pub no_operands : operands_of (after_creating t head 1 0) (length t.operations) ≡ []
  no_operands = get_grown t.operands [] (length t.operations) ∙ get_or_past t.operands (length t.operations) [] (omega (arith, w.keys.operands))

  pub no_successors : successors_of (after_creating t head 1 0) (length t.operations) ≡ []
  no_successors = get_grown t.successors [] (length t.operations) ∙ get_or_past t.successors (length t.operations) [] (omega (arith, w.keys.successors))

  module _ (block : ℕ) (body : List ℕ) where
    abbrev u : Tree
    u = after_placing (after_creating t head 1 0) (length t.operations) block body

    admitted : IsAdmitted m (after_placing (after_creating t head 1 0) (length t.operations) block body) (length t.operations)
    admitted x e =
        let same : x ≡ head = some_is (sym e ∙ ap (λ z. z.head) row) in
        subst (λ h. IsTrue (m.admits h (length (operands_of (after_creating t head 1 0) (length t.operations))) (length (results_of (after_creating t head 1 0) (length t.operations))) (length (successors_of (after_creating t head 1 0) (length t.operations))) (length (regions_of (after_creating t head 1 0) (length t.operations))))) (sym same)
        (subst (λ a. IsTrue (m.admits head (length a) (length (results_of (after_creating t head 1 0) (length t.operations))) (length (successors_of (after_creating t head 1 0) (length t.operations))) (length (regions_of (after_creating t head 1 0) (length t.operations))))) (sym no_operands)
        (subst (λ a. IsTrue (m.admits head 0 (length a.results) (length (successors_of (after_creating t head 1 0) (length t.operations))) (length a.regions))) (sym row)
        (subst (λ a. IsTrue (m.admits head 0 1 (length a) 0)) (sym no_successors) makes.admitted)))

    gives : GivesNow m (after_placing (after_creating t head 1 0) (length t.operations) block body) (length t.operations)
    gives o e ds len =
        let s = op_shows (after_placing (after_creating t head 1 0) (length t.operations) block body) (length t.operations) o e in
        let h : o.head ≡ head = some_is (sym s.head ∙ ap (λ z. z.head) row) in
        let a : o.operands ≡ [] = sym s.operands ∙ no_operands in
        let b : length o.results ≡ 1 = ap length (sym s.results ∙ ap (λ z. z.results) row) in
        let c : o.successors ≡ [] = sym s.successors ∙ no_successors in
        let r : o.regions ≡ [] = sym s.regions ∙ ap (λ z. z.regions) row in
        let none : ds ≡ [] = no_data ds (len ∙ ap length a) in
        (datum_of attr ∷ [], ap (λ z. m.act z Empty ds) (shape_plain m (after_placing (after_creating t head 1 0) (length t.operations) block body) o head plain h a b c r) ∙ ap (m.act (constant_shape head) Empty) none ∙ makes.gives, sym b)

    module _ (w' : IsTree (after_placing (after_creating t head 1 0) (length t.operations) block body)) (range : block < length t.bodies) (is : swept (nat_eq (length t.operations)) body ≡ body_of t block) (last : last_of None body ≡ Some (length t.operations) → body_of t block ≡ []) where
      s : IsBeside t (after_creating t head 1 0) (length t.operations)
      s = created_beside t head 1 0 w

      no_terminator : (x : Head) → head_of (after_creating t head 1 0) (length t.operations) ≡ Some x → m.is_terminator x ≡ false
      no_terminator x e = ap m.is_terminator (some_is (sym e ∙ ap (λ z. z.head) row)) ∙ makes.no_terminator

      longer : length t.operations ≤ length (after_creating t head 1 0).operations
      longer = let k = s.key in omega (arith, k)

      put_well : KeepsRuns m t (after_placing (after_creating t head 1 0) (length t.operations) block body) × KeepsReads m t (after_placing (after_creating t head 1 0) (length t.operations) block body)
      put_well = (
        made_keeps m t (after_creating t head 1 0) (length t.operations) block body w w' s range is last no_operands no_successors (ap (λ z. z.regions) row) admitted no_terminator gives (omega arith) longer,
        made_reads m t (after_creating t head 1 0) (length t.operations) block body w w' s range is last no_operands no_successors (ap (λ z. z.regions) row) admitted no_terminator gives (omega arith) longer,
      )

  fresh : (b : ℕ) → In (length t.operations) (body_of t b) → ⊥
  fresh b i =
      let none = (created_beside t head 1 0 w).no_parent in
      let f : None ≡ Some b = sym none ∙ w.bodies.owned (length t.operations) b i in
      absurd (cc)

  pub range_of : (b x : ℕ) → In x (body_of t b) → b < length t.bodies
  range_of b x i = go (cases b (length t.bodies))
    where
      cases : (a c : ℕ) → (a < c) ⊎ (c ≤ a)
      cases a c = grind arith

      go : (b < length t.bodies) ⊎ (length t.bodies ≤ b) → b < length t.bodies
      go (inl lt) = lt
      go (inr le) = absurd (subst (In x) (get_or_past t.bodies b [] le) i)

  -- before an operation that stands in a block
  pub before_well : (at block : ℕ) → parent_of t at ≡ Some block → IsTree (put_next_to (after_creating t head 1 0) (length t.operations) at (Some block)) → KeepsRuns m t (put_next_to (after_creating t head 1 0) (length t.operations) at (Some block)) × KeepsReads m t (put_next_to (after_creating t head 1 0) (length t.operations) at (Some block))
  before_well at block e w' =
      let i = w.bodies.listed at block e in
      put_well block (put_before at (length t.operations) (body_of t block)) w' (range_of block at i) (swept_put at (length t.operations) (body_of t block) (fresh block) i)
      (λ f. absurd (put_not_last at (length t.operations) (body_of t block) None (fresh block) (λ g. let x : None ≡ Some (length t.operations) = g in absurd (cc)) f))

  -- first in a block
  pub first_well : (block : ℕ) → IsBlock t block → IsTree (put_first (after_creating t head 1 0) (length t.operations) block) → KeepsRuns m t (put_first (after_creating t head 1 0) (length t.operations) block) × KeepsReads m t (put_first (after_creating t head 1 0) (length t.operations) block)
  first_well block is w' =
      put_well block (length t.operations ∷ body_of t block) w' range
      (ap (λ b. keep b (length t.operations) (swept (nat_eq (length t.operations)) (body_of t block))) (eq-eqb (length t.operations) (length t.operations) refl) ∙ swept_all (nat_eq (length t.operations)) (body_of t block) (λ k i. not_it (length t.operations) k (λ e. fresh block (subst (λ z. In z (body_of t block)) e i))))
      (λ f. ends (body_of t block) refl f)
    where
      range : block < length t.bodies
      range = go (cases block (length t.bodies))
        where
          cases : (a c : ℕ) → (a < c) ⊎ (c ≤ a)
          cases a c = grind arith

          go : (block < length t.bodies) ⊎ (length t.bodies ≤ block) → block < length t.bodies
          go (inl lt) = lt
          go (inr le) =
              let none : block_parent_of t block ≡ None = get_or_past t.block_parents block None (omega (arith, le, w.keys.block_parents)) in
              absurd (true≢false (sym (subst IsSome none is)))

      ends : (xs : List ℕ) → body_of t block ≡ xs → last_of (Some (length t.operations)) xs ≡ Some (length t.operations) → body_of t block ≡ []
      ends [] q f = q
      ends (x ∷ xs) q f = absurd (fresh block (subst (In (length t.operations)) (sym q) (last_of-In (length t.operations) (x ∷ xs) f)))
