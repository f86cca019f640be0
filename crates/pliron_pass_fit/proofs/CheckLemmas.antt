-- What the checks of blocks and operations come to.
use Rattle.std.proofs.Common.{◌≡◌, ◌≢◌, ◌⊎◌, ℕ, ◌+◌, ◌<◌, ◌≤◌, List, [], ◌∷◌, length, Option, Some, None, IsTrue, refl, sym, ap, ◌∙◌, subst, inl, inr, slice_get, arith, true, is_some}
use Rattle.std.proofs.lemmas.List.{length-map}
use Rattle.std.proofs.lemmas.Option.{same_Some, slice_get_within}
use Rattle.std.proofs.lemmas.Bool.{true≢false}
use Rattle.pliron_core.specs.declared.uses.Use.{Use}
use Rattle.pliron_core.specs.Tree.{Tree, In, IsInside, IsWithin, HoldsBlock, successors_of, results_of, regions_of, arguments_of, block_parent_of, region_parent_of, op_of_slot, up_from, head_of, IsLive}
use Rattle.pliron_core.specs.Changes.{IsDefinedInside, IsDefiningOperationInside}
use Rattle.pliron_core.specs.Invariant.{IsTree}
use Rattle.pliron_core.proofs.FlatLemmas.{slice_get-In}
use Rattle.pliron_laws.specs.Datum.{Head, Meaning}
use Rattle.pliron_laws.specs.Tree.{Operation, op_at, op_with, shape_of}
use Rattle.pliron_laws.specs.Linked.{EndsBlock}
use Rattle.pliron_laws.specs.EdgeChecks.{EndsBlockIf, region_around}
use Rattle.pliron_laws.specs.Answers.{AreForwarded}
use Rattle.pliron_laws.proofs.ShapeLemmas.{head_at, live_at}
use Rattle.pliron_pass_fit.specs.Violation.{ForwardsAt}

-- what holds at each index of a list holds of its members
pub at_each : (P : ℕ → Type 0) (xs : List ℕ) (n : ℕ) → length xs ≤ n → ((j x : ℕ) → j < n → slice_get xs j ≡ Some x → P x) → (x : ℕ) → In x xs → P x
at_each P xs n whole all x i = let at = slice_get-In x xs i in all at.0 x (omega (arith, whole, slice_get_within xs at.0 x at.1)) at.1

-- one index more
pub one_more_at : (P : ℕ → Type 0) (xs : List ℕ) (n y : ℕ) → slice_get xs n ≡ Some y → P y → ((j x : ℕ) → j < n → slice_get xs j ≡ Some x → P x) → (j x : ℕ) → j < n + 1 → slice_get xs j ≡ Some x → P x
one_more_at P xs n y at p all j x l e = elim (cases j n l) [ inl lt ↦ all j x lt e | inr same ↦ subst P (same_Some y x (sym at ∙ ap (slice_get xs) (sym same) ∙ e)) p ]
  where
    cases : (j n : ℕ) → j < n + 1 → (j < n) ⊎ (j ≡ n)
    cases j n l = grind arith

-- who has an edge to the block from elsewhere doesn't end its block
pub edge_from_elsewhere : (t : Tree) (user block region : ℕ) → In block (successors_of t user) → block_parent_of t block ≡ Some region → (region_around t user ≡ Some region → ⊥) → EndsBlock t user → ⊥
edge_from_elsewhere t user block region i e out ends =
    out (ap (λ o. up_from o (λ b. block_parent_of t b)) ends.in_block ∙ sym (ends.own_region block i) ∙ e)

-- an argument of a block that the root holds is defined inside it, and so are the results of what is inside
pub argument_inside : (t : Tree) (w : IsTree t) (root block i v : ℕ) → HoldsBlock t root block → slice_get (arguments_of t block) i ≡ Some v → IsDefinedInside t root v
argument_inside t w root block i v held at = subst (IsDefiningOperationInside t root) (sym (w.joined.arguments block i v at)) held

pub result_inside : (t : Tree) (w : IsTree t) (root op i v : ℕ) → IsInside t root op → slice_get (results_of t op) i ≡ Some v → IsDefinedInside t root v
result_inside t w root op i v u at = subst (IsDefiningOperationInside t root) (sym (w.joined.results op i v at)) u

-- the block of a region of what is within the root
pub block_held : (t : Tree) (w : IsTree t) (root holder region block : ℕ) → IsWithin t root holder → In region (regions_of t holder) → block_parent_of t block ≡ Some region → HoldsBlock t root block
block_held t w root holder region block u i e =
    let at = slice_get-In region (regions_of t holder) i in
    (holder, ap (λ o. up_from o (λ x. region_parent_of t x)) e ∙ ap op_of_slot (w.joined.regions holder at.0 region at.1), u)

-- a fault of the edges of an operation
pub edge_fault : (t : Tree) (op : ℕ) → (EndsBlockIf t op → ⊥) → (s : ℕ) × In s (successors_of t op) × (EndsBlock t op → ⊥)
edge_fault t op out = go (successors_of t op) refl
  where
    go : (xs : List ℕ) → successors_of t op ≡ xs → (s : ℕ) × In s (successors_of t op) × (EndsBlock t op → ⊥)
    go [] e = absurd (out (λ s i. absurd (subst (In s) e i)))
    go (x ∷ xs) e = (x, subst (In x) (sym e) (inl refl), λ ends. out (λ s i. ends))

-- a list of some length has a first one
pub first_use : (uses : List Use) → (length uses ≡ 0 → ⊥) → (u : Use) × (slice_get uses 0 ≡ Some u)
first_use [] n = absurd (n refl)
first_use (u ∷ us) n = (u, refl)

pub no_use : {A : Type 0} (uses : List A) (i : ℕ) (u : A) → length uses ≡ 0 → slice_get uses i ≡ Some u → ⊥
no_use uses i u none at = omega (arith, none, slice_get_within uses i u at)

pub not_empty : (xs : List ℕ) → (length xs ≡ 0 → ⊥) → xs ≢ []
not_empty xs n e = n (ap length e)

pub is_empty : (xs : List ℕ) → length xs ≡ 0 → xs ≡ []
is_empty [] e = refl
is_empty (x ∷ xs) e = absurd (omega (arith, e))

-- what stands has a head
pub its_head : (o : Option Head) → is_some o ≡ true → (h : Head) × (o ≡ Some h)
its_head None e = absurd (true≢false (sym e))
its_head (Some h) e = (h, refl)

successors_with : (t : Tree) (k : ℕ) (o : Operation) (h : Option Head) → op_with t k h ≡ Some o → o.successors ≡ successors_of t k
successors_with t k o None e = grind arith
successors_with t k o (Some h) e = sym (ap (λ z. z.successors) (same_Some _ o e))

pub successors_at : (t : Tree) (k : ℕ) (o : Operation) → op_at t k ≡ Some o → o.successors ≡ successors_of t k
unfolding op_at
successors_at t k o e = successors_with t k o (head_of t k) e

-- what an edge forwards, by what the dialect answers
pub equal_edge : (m : Meaning) (t : Tree) (k i target : ℕ) (values : List ℕ) → slice_get (successors_of t k) i ≡ Some target → AreForwarded m t k i values → length values ≡ length (arguments_of t target) → ForwardsAt m t k i
equal_edge m t k i target values at forwarded same b o is branch e =
    let one : target ≡ b = same_Some target b (sym at ∙ ap (λ z. slice_get z i) (sym (successors_at t k o is)) ∙ e) in
    sym (length-map (m.forwarded (shape_of m t o) i) (λ p. slice_get o.operands p)) ∙ ap length (sym (forwarded o is)) ∙ length-map values Some ∙ same ∙ ap (λ z. length (arguments_of t z)) one

pub unequal_edge : (m : Meaning) (t : Tree) (k i target : ℕ) (values : List ℕ) → IsLive t k → ((h : Head) → head_of t k ≡ Some h → IsTrue (m.is_branch h)) → slice_get (successors_of t k) i ≡ Some target → AreForwarded m t k i values → (length values ≡ length (arguments_of t target) → ⊥) → ForwardsAt m t k i → ⊥
unequal_edge m t k i target values live branch at forwarded differ forwards =
    let o = live_at t k live in
    let e : slice_get o.0.successors i ≡ Some target = ap (λ z. slice_get z i) (successors_at t k o.0 o.1) ∙ at in
    differ (sym (length-map values Some) ∙ ap length (forwarded o.0 o.1) ∙ length-map (m.forwarded (shape_of m t o.0) i) (λ p. slice_get o.0.operands p) ∙ forwards target o.0 o.1 (branch o.0.head (head_at t k o.0 o.1)) e)

-- an index more
pub index_more : (P : ℕ → Type 0) (n : ℕ) → P n → ((j : ℕ) → j < n → P j) → (j : ℕ) → j < n + 1 → P j
index_more P n p all j l = elim (cases j n l) [ inl lt ↦ all j lt | inr same ↦ subst P (sym same) p ]
  where
    cases : (j n : ℕ) → j < n + 1 → (j < n) ⊎ (j ≡ n)
    cases j n l = grind arith

-- all indices: there is no edge past the last
pub all_edges : (m : Meaning) (t : Tree) (k n : ℕ) → length (successors_of t k) ≤ n → ((j : ℕ) → j < n → ForwardsAt m t k j) → (i : ℕ) → ForwardsAt m t k i
all_edges m t k n whole all i b o is branch e =
    let at : slice_get (successors_of t k) i ≡ Some b = ap (λ z. slice_get z i) (sym (successors_at t k o is)) ∙ e in
    all i (omega (arith, whole, slice_get_within (successors_of t k) i b at)) b o is branch e
