-- Where calls start to look: what is visited stands inside, and where the unreachable blocks of one visited
-- region are gone, the start is the same.
use Rattle.std.proofs.Common.{◌≡◌, inl, inr, ⊎_elim, ℕ, true, false, true≢false, List, Some, refl, sym, ap, ◌∙◌, subst, is_some, IsSome}
use Rattle.std.proofs.lemmas.Bool.{false_from_ne_true}
use Rattle.pliron_core.specs.Tree.{Tree, In, IsLive, IsRegion, IsInside, IsInside.Directly, IsWithin, row_of, regions_of, parent_of, block_parent_of, region_parent_of, parent_operation_of, op_of_slot}
use Rattle.pliron_core.specs.Invariant.{IsTree}
use Rattle.pliron_core.specs.Erased.{IsInOperation}
use Rattle.pliron_core.proofs.WithinLemmas.{block_holder_from, block_steps, holder_from, region_has, region_parent_live}
use Rattle.pliron_core.proofs.HoldingLemmas.{some_is, block_held, in_slice, slice_in, slot_is, region_by, region_parent_is, holder_by, inside_by, inside_up, not_itself, within_inside}
use Rattle.pliron_laws.specs.Linked.{EdgesLast}
use Rattle.pliron_graph_traversal.specs.Regions.{IsLawfulRegion}
use Rattle.pliron_rewrite_blocks.specs.Cutting.{cut_op, cut_block, AreCut}
use Rattle.pliron_rewrite_blocks.proofs.CutBlocks.{block_cases}
use Rattle.pliron_opt_cfg.specs.Visited.{IsVisited, IsVisited.Starts, IsVisited.Nested}
use Rattle.pliron_opt_cfg.proofs.Lawful.{edges_held, visited_lawful, entered_in}
use Rattle.pliron_opt_cfg.specs.declared.removal.scope.RemovalScope.{RemovalScope}
use Rattle.pliron_opt_cfg.specs.declared.removal.scope.RemovalScope.TheVariants.{Operation, Block, Region}
use Rattle.pliron_opt_cfg.specs.Internal.Scopes.{start_of_scope, IsScopeLive, IsHolder}
use Rattle.pliron_opt_cfg.proofs.CutOffLemmas.{cut_in}

-- the regions of an operation are those that it holds
module _ (t : Tree) (w : IsTree t) where
  pub held_by : (k r : ℕ) → In r (regions_of t k) → region_parent_of t r ≡ Some k
  held_by k r i = let x = slice_in (regions_of t k) r i in ap op_of_slot (w.joined.regions k x.0 r x.1)

  pub stands_by : (k r : ℕ) → In r (regions_of t k) → IsRegion t r
  stands_by k r i = let x = slice_in (regions_of t k) r i in region_by t r (record { op = k; index = x.0 }) (w.joined.regions k x.0 r x.1) x.1

  pub listed_by : (k r : ℕ) → IsRegion t r → region_parent_of t r ≡ Some k → In r (regions_of t k)
  listed_by k r is e =
      let s = slot_is t r is in
      subst (λ z. In r (regions_of t z)) (some_is (sym (region_parent_is t r s.0 s.1) ∙ e)) (in_slice (regions_of t s.0.op) s.0.index r s.2)

-- an operation with whose regions the call starts
abbrev pub IsTop : Tree → RemovalScope → ℕ → Type 0
IsTop t (Operation op) k = k ≡ op
IsTop t (Block block) k = parent_of t k ≡ Some block
IsTop t (Region region) k = region_parent_of t region ≡ Some k

pub top_within : (t : Tree) (s : RemovalScope) (root top : ℕ) → IsHolder t s root → IsTop t s top → IsWithin t root top
top_within t (Operation op) root top h x = inl (x ∙ h)
top_within t (Block block) root top h x = inr (Directly (holder_by t top block root x h))
top_within t (Region region) root top h x = inl (some_is (sym x ∙ h))

pub top_held : (t : Tree) → IsTree t → (s : RemovalScope) (r : ℕ) → IsScopeLive t s → start_of_scope s t r → (h : ℕ) × IsTop t s h × (region_parent_of t r ≡ Some h) × IsRegion t r
top_held t w (Operation op) r is i = (op, refl, held_by t w op r i, stands_by t w op r i)
top_held t w (Block block) r is (k, at, i) = (k, at, held_by t w k r i, stands_by t w k r i)
top_held t w (Region region) r is e = let h = region_has t region is in (h.0, h.1, ap (region_parent_of t) e ∙ h.1, subst (IsRegion t) (sym e) is)

-- none of them is inside another
tops_apart : (t : Tree) → IsTree t → (s : RemovalScope) (root a b : ℕ) → IsHolder t s root → IsTop t s a → IsTop t s b → IsInside t b a → ⊥
tops_apart t w (Operation op) root a b h x y i = not_itself {t = t} w.joined.rooted (subst (λ z. IsInside t z a) (y ∙ sym x) i)
tops_apart t w (Block block) root a b h x y i =
    let up = inside_up i in
    let same : up.0 ≡ root = some_is (sym up.1 ∙ holder_by t a block root x h) in
    let inside : IsInside t root b = Directly (holder_by t b block root y h) in
    not_itself {t = t} w.joined.rooted (within_inside inside (subst (IsWithin t b) same up.2))
tops_apart t w (Region region) root a b h x y i = not_itself {t = t} w.joined.rooted (subst (λ z. IsInside t z a) (some_is (sym y ∙ x)) i)

module _ (t : Tree) (w : IsTree t) (s : RemovalScope) (root : ℕ) (liveness : IsScopeLive t s) (holder : IsHolder t s root) (edges : EdgesLast t root) where
  pub start_lawful : (r : ℕ) → start_of_scope s t r → IsLawfulRegion t r
  start_lawful r x =
      let top = top_held t w s r liveness x in
      record {
        tree = w;
        liveness = top.3;
        holder = top.0;
        held = top.2;
        edges = ⊎_elim (λ e. subst (EdgesLast t) (sym e) edges) (λ i. edges_held t root top.0 i edges) (top_within t s root top.0 holder top.1);
      }

  lawful : (r : ℕ) → IsVisited t (start_of_scope s t) r → IsLawfulRegion t r
  lawful r v = visited_lawful t w (start_of_scope s t) start_lawful r v

  -- a visited region is held by one of the operations with which the call starts, or stands inside one
  below : (r : ℕ) → IsVisited t (start_of_scope s t) r → (h : ℕ) → region_parent_of t r ≡ Some h → (top : ℕ) × IsTop t s top × IsWithin t top h
  below r (Starts x) h e = let top = top_held t w s r liveness x in (top.0, top.1, inl (some_is (sym e ∙ top.2)))
  below r (Nested outer b k v ent p i) h e =
      let l = lawful outer v in
      let same : h ≡ k = some_is (sym e ∙ held_by t w k r i) in
      let up : parent_operation_of t k ≡ Some l.holder = holder_from t k b p ∙ block_holder_from t b outer (entered_in t w outer l b ent) ∙ l.held in
      let x = below outer v l.holder l.held in
      (x.0, x.1, inr (subst (IsInside t x.0) (sym same) (inside_by {t = t} l.holder up x.2)))

  pub within_root : (r : ℕ) → IsVisited t (start_of_scope s t) r → (h : ℕ) → region_parent_of t r ≡ Some h → IsWithin t root h
  within_root r v h e =
      let x = below r v h e in
      ⊎_elim (λ z. subst (λ y. IsWithin t y h) z x.2) (λ i. inr (within_inside i x.2)) (top_within t s root x.0 holder x.1)

  -- what stands in a block of a visited region is inside what holds the region
  in_block : (r b k : ℕ) (v : IsVisited t (start_of_scope s t) r) → block_parent_of t b ≡ Some r → IsInOperation t b k → (l : IsLawfulRegion t r) → (top : ℕ) → IsWithin t top l.holder → IsInside t top k
  in_block r b k v p y l top within =
      let up : parent_operation_of t y.0 ≡ Some l.holder = holder_from t y.0 b y.1 ∙ block_holder_from t b r p ∙ l.held in
      within_inside (inside_by {t = t} l.holder up within) y.2

  -- so neither the root nor where the call starts stands there
  pub root_apart : (r b : ℕ) → IsVisited t (start_of_scope s t) r → block_parent_of t b ≡ Some r → IsInOperation t b root → ⊥
  root_apart r b v p y = let l = lawful r v in not_itself {t = t} w.joined.rooted (in_block r b root v p y l root (within_root r v l.holder l.held))

  pub top_apart : (r b k : ℕ) → IsVisited t (start_of_scope s t) r → block_parent_of t b ≡ Some r → IsTop t s k → IsInOperation t b k → ⊥
  top_apart r b k v p x y =
      let l = lawful r v in
      let z = below r v l.holder l.held in
      tops_apart t w s root k z.0 holder x z.1 (in_block r b k v p y l z.0 z.2)

-- the block itself is none of a visited region
block_apart : (t : Tree) (w : IsTree t) (block root : ℕ) (liveness : IsScopeLive t (Block block)) (holder : IsHolder t (Block block) root) → EdgesLast t root → (r : ℕ) → IsVisited t (start_of_scope (Block block) t) r → block_parent_of t block ≡ Some r → ⊥
block_apart t w block root liveness holder edges r v p =
    let held : region_parent_of t r ≡ Some root = sym (block_holder_from t block r p) ∙ holder in
    let x = below t w (Block block) root liveness holder edges r v root held in
    not_itself {t = t} w.joined.rooted (within_inside (Directly (holder_by t x.0 block root x.1 holder)) x.2)

module _ (t v : Tree) (w : IsTree t) (wv : IsTree v) (root r : ℕ) (bs : List ℕ) (own : (b : ℕ) → In b bs → block_parent_of t b ≡ Some r) (cut : AreCut t v r bs) where
  -- what stands in none of the blocks does not go
  left_of : (k : ℕ) → ((b : ℕ) → In b bs → IsInOperation t b k → ⊥) → cut_op t bs k ≡ false
  left_of k apart = false_from_ne_true _ (λ e. let y = cut_in t w bs k e in apart y.0 y.1 y.2)

  stood : (k : ℕ) → IsLive v k → cut_op t bs k ≡ false
  stood k live = false_from_ne_true _ (λ e. true≢false (sym live ∙ ap is_some (cut.deleted k e)))

  module _ (s : RemovalScope) (liveness : IsScopeLive t s) (holder : IsHolder t s root) (edges : EdgesLast t root) (visited : IsVisited t (start_of_scope s t) r) where
    pub root_left : cut_op t bs root ≡ false
    root_left = left_of root (λ b i y. root_apart t w s root liveness holder edges r b visited (own b i) y)

    pub root_row : row_of v root ≡ row_of t root
    root_row = cut.rows root root_left

    top_left : (k : ℕ) → IsTop t s k → cut_op t bs k ≡ false
    top_left k x = left_of k (λ b i y. top_apart t w s root liveness holder edges r b k visited (own b i) x y)

  module _ (row : row_of v root ≡ row_of t root) where
    listed_still : (q : ℕ) → IsRegion t q → region_parent_of t q ≡ Some root → In q (regions_of v root)
    listed_still q is e = subst (λ z. In q z.regions) (sym row) (listed_by t w root q is e)

  block_left : (block : ℕ) (liveness : IsScopeLive t (Block block)) (holder : IsHolder t (Block block) root) → EdgesLast t root → IsVisited t (start_of_scope (Block block) t) r → cut_block t bs block ≡ false
  block_left block liveness holder edges visited = false_from_ne_true _ (λ e. ⊎_elim
      (λ i. block_apart t w block root liveness holder edges r visited (own block i))
      (λ q. true≢false (sym q.2 ∙ ap (cut_op t bs) (some_is (sym q.1 ∙ holder)) ∙ root_left (Block block) liveness holder edges visited))
      (block_cases t bs block e))

  pub start_to : (s : RemovalScope) (liveness : IsScopeLive t s) (holder : IsHolder t s root) → EdgesLast t root → IsVisited t (start_of_scope s t) r → (q : ℕ) → start_of_scope s t q → start_of_scope s v q
  start_to (Operation op) liveness holder edges visited q i = subst (λ z. In q z.regions) (sym (cut.rows op (top_left (Operation op) liveness holder edges visited op refl))) i
  start_to (Block block) liveness holder edges visited q (k, at, i) =
      let left = top_left (Block block) liveness holder edges visited k at in
      (k, cut.parents k left ∙ at, subst (λ z. In q z.regions) (sym (cut.rows k left)) i)
  start_to (Region region) liveness holder edges visited q e = e

  pub start_from : (s : RemovalScope) (liveness : IsScopeLive t s) (holder : IsHolder t s root) → EdgesLast t root → IsVisited t (start_of_scope s t) r → (q : ℕ) → start_of_scope s v q → start_of_scope s t q
  start_from (Operation op) liveness holder edges visited q i = subst (λ z. In q z.regions) (cut.rows op (top_left (Operation op) liveness holder edges visited op refl)) i
  start_from (Block block) liveness holder edges visited q (k, at, i) =
      let left = stood k (wv.joined.all_in_place k block at).0 in
      (k, sym (cut.parents k left) ∙ at, subst (λ z. In q z.regions) (cut.rows k left) i)
  start_from (Region region) liveness holder edges visited q e = e

  pub stands_still : (s : RemovalScope) (liveness : IsScopeLive t s) (holder : IsHolder t s root) → EdgesLast t root → IsVisited t (start_of_scope s t) r → IsScopeLive v s
  stands_still (Operation op) liveness holder edges visited = subst (λ z. is_some z.head ≡ true) (sym (cut.rows op (top_left (Operation op) liveness holder edges visited op refl))) liveness
  stands_still (Block block) liveness holder edges visited = subst IsSome (sym (cut.block_parents block (block_left block liveness holder edges visited))) liveness
  stands_still (Region region) liveness holder edges visited = stands_by v wv root region (listed_still (root_row (Region region) liveness holder edges visited) region liveness holder)

  pub holder_still : (s : RemovalScope) (liveness : IsScopeLive t s) (holder : IsHolder t s root) → EdgesLast t root → IsVisited t (start_of_scope s t) r → IsHolder v s root
  holder_still (Operation op) liveness holder edges visited = holder
  holder_still (Block block) liveness holder edges visited =
      let x = block_steps t block root holder in
      let row = root_row (Block block) liveness holder edges visited in
      block_holder_from v block x.0 (cut.block_parents block (block_left block liveness holder edges visited) ∙ x.1) ∙ held_by v wv root x.0 (listed_still row x.0 (w.joined.placed block x.0 x.1) x.2)
  holder_still (Region region) liveness holder edges visited = held_by v wv root region (listed_still (root_row (Region region) liveness holder edges visited) region liveness holder)

-- one operation alone holds it
pub one_holder : (t : Tree) (s : RemovalScope) (a b : ℕ) → IsHolder t s a → IsHolder t s b → a ≡ b
one_holder t (Operation op) a b x y = sym x ∙ y
one_holder t (Block block) a b x y = some_is (sym x ∙ y)
one_holder t (Region region) a b x y = some_is (sym x ∙ y)

pub holder_is : (t : Tree) → IsTree t → (s : RemovalScope) → IsScopeLive t s → (root : ℕ) × IsHolder t s root × IsLive t root
holder_is t w (Operation op) is = (op, refl, is)
holder_is t w (Block block) is = let x = block_held t block w.joined is in (x.1, x.5, x.6)
holder_is t w (Region region) is = let x = region_has t region is in (x.0, x.1, region_parent_live t region x.0 w.joined is x.1)
