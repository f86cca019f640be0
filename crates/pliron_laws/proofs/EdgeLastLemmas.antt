-- What the parts of the check of edges come to.
use Rattle.std.proofs.Common.{◌≡◌, ◌≢◌, ◌⊎◌, inl, inr, ℕ, ◌<◌, List, [], ◌∷◌, length, Option, Some, None, sym, ◌∙◌, ap, subst, refl, arith}
use Rattle.std.proofs.lemmas.Option.{same_Some}
use Rattle.pliron_core.specs.declared.context.RegionSlot.{RegionSlot}
use Rattle.pliron_core.specs.Lists.{next_in, first_of, last_of}
use Rattle.pliron_core.specs.Reads.{next_block_of}
use Rattle.pliron_core.specs.WalkSteps.{rest_from}
use Rattle.pliron_core.specs.Tree.{Tree, In, IsInside, IsWithin, HoldsBlock, IsListedBy, op_of_slot, successors_of, regions_of, parent_of, block_parent_of, region_parent_of, parent_operation_of, block_parent_operation_of, up_from, slot_of, body_of, layout_of}
use Rattle.pliron_core.specs.Invariant.{IsTree}
use Rattle.pliron_core.proofs.WalkLemmas.{inside_from, not_inside-itself, In-preorder, distinct-preorder}
use Rattle.pliron_core.proofs.WalkStepLemmas.{walk_step}
use Rattle.pliron_core.specs.Walks.{preorder}
use Rattle.pliron_core.proofs.FlatLemmas.{In-slice_get, slice_get-In}
use Rattle.pliron_core.proofs.NextLemmas.{next_in-member, rest_from-step}
use Rattle.pliron_laws.proofs.PassedLemmas.{ArePassed, passed_step}
use Rattle.pliron_laws.specs.Linked.{EndsBlock, EdgesLast}
use Rattle.pliron_laws.specs.EdgeChecks.{HasOwnSuccessors, OpHasOwnUsers, EndsBlockIf, HasLawfulEdges}

pub around_holder : (t : Tree) (o : Option ℕ) → up_from o (λ b. block_parent_operation_of t b) ≡ up_from (up_from o (λ b. block_parent_of t b)) (λ r. region_parent_of t r)
around_holder t None = refl
around_holder t (Some b) = refl

pub region_held : (t : Tree) (s h : ℕ) (o : Option ℕ) → block_parent_of t s ≡ o → up_from o (λ r. region_parent_of t r) ≡ Some h → (r : ℕ) × (block_parent_of t s ≡ Some r) × (region_parent_of t r ≡ Some h)
region_held t s h None e f = grind arith
region_held t s h (Some r) e f = (r, e, f)

pub listed : (t : Tree) (r h : ℕ) (o : Option RegionSlot) → IsListedBy t r o → op_of_slot o ≡ Some h → In r (regions_of t h)
listed t r h None l e = elim l [ ]
listed t r h (Some slot) l e = subst (λ k. In r (regions_of t k)) (same_Some slot.op h e) (In-slice_get (regions_of t slot.op) slot.index r l)

strictly : (t : Tree) (root k : ℕ) → IsWithin t root k → k ≢ root → IsInside t root k
strictly t root k (inl e) n = absurd (n e)
strictly t root k (inr i) n = i

module _ (t : Tree) (w : IsTree t) (root : ℕ) where
  edges_at : ((k : ℕ) → IsWithin t root k → HasLawfulEdges t root k) → (k s : ℕ) → In s (successors_of t k) → IsInside t root k ⊎ HoldsBlock t root s → EndsBlock t k
  edges_at fit k s i (inl u) = (fit k (inr u)).ends (λ e. not_inside-itself t w root (subst (λ x. IsInside t root x) e u)) s i
  edges_at fit k s i (inr held) =
      let r = region_held t s held.0 (block_parent_of t s) refl held.1 in
      let own = (fit held.0 held.2).users r.0 (listed t r.0 held.0 (slot_of t r.0) (w.joined.placed s r.0 r.1) r.2) s r.1 k i in
      let up : parent_operation_of t k ≡ Some held.0 = around_holder t (parent_of t k) ∙ ap (λ o. up_from o (λ x. region_parent_of t x)) own ∙ held.1 in
      let u = inside_from t root k held.0 up held.2 in
      (fit k (inr u)).ends (λ e. not_inside-itself t w root (subst (λ x. IsInside t root x) e u)) s i

  -- where all operations within the root are fit, edges stand last
  pub edges_of : ((k : ℕ) → IsWithin t root k → HasLawfulEdges t root k) → EdgesLast t root
  edges_of fit = λ k s i held. edges_at fit k s i held

  ends_of : EdgesLast t root → (k : ℕ) → IsWithin t root k → k ≢ root → EndsBlockIf t k
  ends_of edges k within n = λ s i. edges k s i (inl (strictly t root k within n))

  users_of : EdgesLast t root → (k : ℕ) → IsWithin t root k → OpHasOwnUsers t k
  users_of edges k within = λ r i b e u j.
      let at = slice_get-In r (regions_of t k) i in
      let up : block_parent_operation_of t b ≡ Some k = ap (λ o. up_from o (λ x. region_parent_of t x)) e ∙ ap op_of_slot (w.joined.regions k at.0 r at.1) in
      let ends = edges u b j (inr (k, up, within)) in
      ap (λ o. up_from o (λ x. block_parent_of t x)) ends.in_block ∙ sym (ends.own_region b j)

-- an operation with successors that ends a block ends the one that has it
first_one : (xs : List ℕ) → 0 < length xs → (s : ℕ) × In s xs
first_one [] lt = absurd (omega (arith, lt))
first_one (x ∷ xs) lt = (x, inl refl)

at_end : (t : Tree) (op : ℕ) → 0 < length (successors_of t op) → EndsBlockIf t op → EndsBlock t op
at_end t op some ends = let s = first_one (successors_of t op) some in ends s.0 s.1

block_same : (t : Tree) (op b : ℕ) → parent_of t op ≡ Some b → (e : EndsBlock t op) → e.block ≡ b
block_same t op b p e = same_Some e.block b (sym e.in_block ∙ p)

pub last_in : (t : Tree) (op b : ℕ) → parent_of t op ≡ Some b → 0 < length (successors_of t op) → EndsBlockIf t op → last_of None (body_of t b) ≡ Some op
last_in t op b p some ends =
    let e = at_end t op some ends in subst (λ z. last_of None (body_of t z) ≡ Some op) (block_same t op b p e) e.last

pub own_successors : (t : Tree) (op b : ℕ) → parent_of t op ≡ Some b → 0 < length (successors_of t op) → EndsBlockIf t op → HasOwnSuccessors t op b
own_successors t op b p some ends =
    let e = at_end t op some ends in subst (λ z. HasOwnSuccessors t op z) (block_same t op b p e) e.own_region

no_block : (o : Option ℕ) (b : ℕ) → o ≡ None → o ≡ Some b → ⊥
no_block o b e f = let g : None ≡ Some b = sym e ∙ f in grind arith

pub is_placed : (t : Tree) (op : ℕ) → parent_of t op ≡ None → 0 < length (successors_of t op) → EndsBlockIf t op → ⊥
is_placed t op p some ends = let e = at_end t op some ends in no_block (parent_of t op) e.block p e.in_block

member_of_next : (x z : ℕ) (xs : List ℕ) → next_in x xs ≡ Some z → In z xs
member_of_next x z [] e = absurd (cc)
member_of_next x z (y ∷ ys) e = inr (next_in-member x y z ys e)

-- the blocks of a region, one after the other
module _ (t : Tree) (w : IsTree t) where
  next_in_layout : (r b : ℕ) (o : Option ℕ) → block_parent_of t b ≡ Some r → o ≡ next_block_of t b → o ≡ next_in b (layout_of t r)
  next_in_layout r b o p e = e ∙ ap (λ z. up_from z (λ r. next_in b (layout_of t r))) p

  pub layout_first : (r : ℕ) (o : Option ℕ) → o ≡ first_of (layout_of t r) None → (b : ℕ) → o ≡ Some b → block_parent_of t b ≡ Some r
  layout_first r o e b f = go (layout_of t r) refl (sym e ∙ f)
    where
      go : (xs : List ℕ) → layout_of t r ≡ xs → first_of xs None ≡ Some b → block_parent_of t b ≡ Some r
      go [] e f = absurd (cc)
      go (y ∷ ys) e f = w.layouts.owned b r (subst (In b) (sym e) (inl (sym (same_Some y b f))))

  pub layout_placed : (r b : ℕ) (o : Option ℕ) → block_parent_of t b ≡ Some r → o ≡ next_block_of t b → (x : ℕ) → o ≡ Some x → block_parent_of t x ≡ Some r
  layout_placed r b o p e x f = w.layouts.owned x r (member_of_next b x (layout_of t r) (sym (next_in_layout r b o p e) ∙ f))

  pub layout_smaller : (r b : ℕ) (o : Option ℕ) → block_parent_of t b ≡ Some r → o ≡ next_block_of t b → length (rest_from o (layout_of t r)) < length (rest_from (Some b) (layout_of t r))
  layout_smaller r b o p e =
      let step = rest_from-step (layout_of t r) b o (w.layouts.distinct r) (w.layouts.listed b r p) (next_in_layout r b o p e) in omega (arith, ap length step)

  pub layout_passed : (P : ℕ → Type 0) (r b : ℕ) (o : Option ℕ) → block_parent_of t b ≡ Some r → o ≡ next_block_of t b → P b → ArePassed P (layout_of t r) (Some b) → ArePassed P (layout_of t r) o
  layout_passed P r b o p e q before =
      passed_step P (layout_of t r) b o (w.layouts.distinct r) (w.layouts.listed b r p) (next_in_layout r b o p e) q before

-- the operations within a root, one after the other
module _ (t : Tree) (w : IsTree t) (root : ℕ) where
  pub walk_smaller : (x : ℕ) (o : Option ℕ) → IsWithin t root x → o ≡ next_in x (preorder t root) → length (rest_from o (preorder t root)) < length (rest_from (Some x) (preorder t root))
  walk_smaller x o within e = let step = walk_step t w root x o within e in omega (arith, ap length step)

module _ (t : Tree) (w : IsTree t) where
  pub walk_passed : (P : ℕ → Type 0) (root x : ℕ) (o : Option ℕ) → IsWithin t root x → o ≡ next_in x (preorder t root) → P x → ArePassed P (preorder t root) (Some x) → ArePassed P (preorder t root) o
  walk_passed P root x o within e p before =
      passed_step P (preorder t root) x o (distinct-preorder t w root) ((In-preorder t w root x).1 within) e p before

  -- and the other way round
  pub fit_of : (root : ℕ) → EdgesLast t root → (k : ℕ) → IsWithin t root k → HasLawfulEdges t root k
  fit_of root edges k within = record { ends = λ n. ends_of t w root edges k within n; users = users_of t w root edges k within }
