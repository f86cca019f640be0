-- No operand of an operation that is visited is undetermined.
use Rattle.std.proofs.Common.{◌≡◌, ◌≢◌, inl, inr, ⊎_elim, ℕ, Bool, List, [], ◌∷◌, ◌++◌, Some, None, refl, sym, ap, ◌∙◌, subst, IsTrue}
use Rattle.pliron_core.specs.declared.context.Def.{Def}
use Rattle.pliron_core.specs.declared.context.Def.TheVariants.{Result, Argument}
use Rattle.pliron_core.specs.Lists.{In}
use Rattle.pliron_core.specs.Changes.{IsDefinedInside}
use Rattle.pliron_core.specs.Tree.{Tree, IsInside, IsWithin, IsMadeBy, first_of, layout_of, parent_of, operands_of, results_of, arguments_of, body_of, block_parent_of, block_parent_operation_of, region_parent_of, parent_operation_of, definition_of, up_from}
use Rattle.pliron_core.specs.Tree.IsInside.{Directly, Deeper}
use Rattle.pliron_core.specs.Invariant.{IsTree}
use Rattle.pliron_core.proofs.HoldingLemmas.{some_is, in_slice, holder_by, maker_is, inside_by, deeper, not_itself, block_held}
use Rattle.pliron_laws.specs.Root.{HasPassed, IsDominated}
use Rattle.pliron_laws.specs.Paths.{Path}
use Rattle.pliron_theory.proofs.Bound.{made_within}
use Rattle.pliron_theory.specs.LatticeValues.{Undetermined, LatticeValues}
use Rattle.pliron_opt_sccp.specs.Visiting.{IsGrounded, AreDetermined}

split_at : (u : ℕ) (xs : List ℕ) → In u xs → (done rest : List ℕ) × (xs ≡ done ++ u ∷ rest)
split_at u [] i = absurd i
split_at u (x ∷ xs) (inl e) = ([], xs, ap (λ z. z ∷ xs) (sym e))
split_at u (x ∷ xs) (inr i) = let s = split_at u xs i in (x ∷ s.0, s.1, ap (λ z. x ∷ z) s.2)

in_front : (x u : ℕ) (done rest : List ℕ) → In x done → In x (done ++ u ∷ rest)
in_front x u [] rest i = absurd i
in_front x u (d ∷ done) rest (inl e) = inl e
in_front x u (d ∷ done) rest (inr i) = inr (in_front x u done rest i)

-- `f` and `visited` are those from before the block of the operation was taken, `now` are the facts so far
module _ (t : Tree) (root : ℕ) (w : IsTree t) (f now : LatticeValues) (visited : ℕ → Bool) (grounded : IsGrounded t root f visited) (ready : AreDetermined t f visited) (lowered : (v : ℕ) → f.lattice_value v ≢ Undetermined → now.lattice_value v ≢ Undetermined) where
  holder_up : (k c h : ℕ) → parent_of t k ≡ Some c → parent_operation_of t k ≡ Some h → block_parent_operation_of t c ≡ Some h
  holder_up k c h p e = sym (ap (λ o. up_from o (λ b. block_parent_operation_of t b)) p) ∙ e

  -- what stands around an operation in a block that is reached stands in a block that was visited
  around_visited : (u : ℕ) → IsInside t root u → (k c : ℕ) → IsInside t u k → parent_of t k ≡ Some c → IsTrue (f.is_executable c) → (b : ℕ) × (parent_of t u ≡ Some b) × IsTrue (visited b)
  around_visited u inner k c (Directly e) p reached = ⊎_elim
      (λ s. absurd (not_itself w.joined.rooted (subst (IsInside t root) s inner)))
      (λ x. x)
      (grounded.held c u reached (holder_up k c u p e))
  around_visited u inner k c (Deeper h e i) p reached = ⊎_elim
      (λ s. absurd (not_itself w.joined.rooted (deeper inner (subst (IsInside t u) s i))))
      (λ x. around_visited u inner h x.0 i x.1 (grounded.reached x.0 x.2))
      (grounded.held c h reached (holder_up k c h p e))

  -- a definition that was passed is determined
  passed_determined : (v b : ℕ) (before done : List ℕ) (d : Def) → definition_of t v ≡ Some d → IsMadeBy t v (Some d) → IsTrue (f.is_executable b) → ((x : ℕ) → In x before → IsTrue (visited x)) → ((k : ℕ) → In k done → In v (results_of t k) → now.lattice_value v ≢ Undetermined) → HasPassed t (Some d) before b done → now.lattice_value v ≢ Undetermined
  passed_determined v b before done (Argument e i) def made reached all front (inl s) =
      lowered v (ready.arguments e v (subst (λ z. IsTrue (f.is_executable z)) (sym s) reached) (in_slice (arguments_of t e) i v made))
  passed_determined v b before done (Argument e i) def made reached all front (inr j) =
      lowered v (ready.arguments e v (grounded.reached e (all e j)) (in_slice (arguments_of t e) i v made))
  passed_determined v b before done (Result k i) def made reached all front (inl j) = front k j (in_slice (results_of t k) i v made)
  passed_determined v b before done (Result k i) def made reached all front (inr (e, p, j)) =
      lowered v (ready.results e k v (all e j) p (in_slice (results_of t k) i v made))

  -- the operation k of a block c that is reached, behind the operations `done`, whose results are determined
  pub operand_determined : (k v c : ℕ) (done rest : List ℕ) → parent_of t k ≡ Some c → IsTrue (f.is_executable c) → body_of t c ≡ done ++ k ∷ rest → ((q : ℕ) → In q done → In v (results_of t q) → now.lattice_value v ≢ Undetermined) → In v (operands_of t k) → IsDefinedInside t root v → IsDominated t k v → now.lattice_value v ≢ Undetermined
  operand_determined k v c done rest p reached body front i inside d = by d.holds
    where
      made : (m : Def) × (definition_of t v ≡ Some m) × IsMadeBy t v (Some m)
      made = maker_is t v (w.joined.operands k v i)

      from_way : (b : ℕ) → b ≡ d.block → IsTrue (f.is_executable b) → (front : List ℕ) (after : List ℕ) → body_of t d.block ≡ front ++ d.around ∷ after → ((q : ℕ) → In q front → In v (results_of t q) → now.lattice_value v ≢ Undetermined) → now.lattice_value v ≢ Undetermined
      from_way b same r front after split ready_front =
          let way = grounded.ways b r in
          let region : way.region ≡ d.region = some_is (sym way.in_region ∙ ap (block_parent_of t) same ∙ d.in_region) in
          let first = ap (λ z. first_of (layout_of t z) None) (sym region) ∙ way.entry_first in
          let passed = d.passes way.entry way.before front after first (subst (λ z. Path t way.entry z way.before) same way.path) split in
          passed_determined v d.block way.before front made.0 made.1 made.2 (subst (λ z. IsTrue (f.is_executable z)) same r) way.all_visited ready_front (subst (λ z. HasPassed t z way.before d.block front) made.1 passed)

      by : IsWithin t d.around k → now.lattice_value v ≢ Undetermined
      by (inl e) =
          let same : c ≡ d.block = some_is (sym p ∙ ap (parent_of t) e ∙ d.in_block) in
          from_way c same reached done rest (ap (body_of t) (sym same) ∙ body ∙ ap (λ z. done ++ z ∷ rest) e) front
      by (inr j) =
          let held = block_held t d.block w.joined (w.joined.all_in_place d.around d.block d.in_block).1 in
          let same_region : held.0 ≡ d.region = some_is (sym held.2 ∙ d.in_region) in
          let up : region_parent_of t d.region ≡ Some held.1 = ap (λ r. region_parent_of t r) (sym same_region) ∙ held.4 in
          let within = made_within t root d.region held.1 (definition_of t v) up d.defined inside in
          let inner : IsInside t root d.around = inside_by held.1 (holder_by t d.around d.block held.1 d.in_block held.5) within in
          let x = around_visited d.around inner k c j p reached in
          let same : x.0 ≡ d.block = some_is (sym x.1 ∙ d.in_block) in
          let seen : IsTrue (visited d.block) = subst (λ z. IsTrue (visited z)) same x.2 in
          let s = split_at d.around (body_of t d.block) (w.bodies.listed d.around d.block d.in_block) in
          from_way d.block refl (grounded.reached d.block seen) s.0 s.1 s.2
          (λ q y z. lowered v (ready.results d.block q v seen (w.bodies.owned q d.block (subst (In q) (sym s.2) (in_front q d.around s.0 s.1 y))) z))
