-- The search for visited regions.
use Rattle.std.proofs.Common.{◌≡◌, ◌↔◌, ◌⊎◌, inl, inr, ⊎_elim, ℕ, List, [], ◌∷◌, ◌++◌, Some, IsTrue, refl, sym, subst}
use Rattle.std.specs.List.{flat_map}
use Rattle.pliron_core.specs.Lists.{IsDistinct}
use Rattle.pliron_core.specs.Tree.{Tree, In, regions_of, parent_of, body_of}
use Rattle.pliron_core.specs.Invariant.{IsTree}
use Rattle.pliron_core.specs.Reads.{has_ssa}
use Rattle.pliron_core.proofs.FlatLemmas.{In-flat_map, flat_map-In}
use Rattle.pliron_core.proofs.ListLemmas.{In-left, In-right, In-cases}
use Rattle.pliron_opt_cfg.specs.Visited.{IsVisited, IsVisited.Starts, IsVisited.Nested, IsVisitedBlock, IsReachedIn}
use Rattle.pliron_opt_cfg.specs.Visits.{AreVisits}
use Rattle.pliron_opt_cfg.specs.Internal.Seen.{HasGrown}

-- a region with what it leads to
pub record IsDone (t : Tree) (seen rs bs : List ℕ) (r : ℕ) : Type 0 where
  pub nested : (b k q : ℕ) → IsVisitedBlock t r b → parent_of t k ≡ Some b → In q (regions_of t k) → In q seen
  pub listed : IsTrue (has_ssa t r) → In r rs
  pub blocks : IsTrue (has_ssa t r) → (b : ℕ) → IsReachedIn t r b → In b bs

pub record IsVisiting (t : Tree) (Start : ℕ → Type 0) (seen waiting rs bs : List ℕ) : Type 0 where
  pub visited : (r : ℕ) → In r seen → IsVisited t Start r
  pub starts : (r : ℕ) → Start r → In r seen
  pub waits : (r : ℕ) → In r waiting → In r seen
  pub done : (r : ℕ) → In r seen → In r waiting ⊎ IsDone t seen rs bs r
  pub found : (r : ℕ) → In r rs → In r seen × IsTrue (has_ssa t r)
  pub reached : (b : ℕ) → In b bs → (r : ℕ) × In r rs × IsReachedIn t r b
  pub distinct : IsDistinct seen

-- the regions of the operations in these blocks
abbrev pub nested_in : Tree → List ℕ → List ℕ
nested_in t bs = flat_map (λ b. flat_map (λ k. regions_of t k) (body_of t b)) bs

pub visiting_starts : (t : Tree) (starts seen waiting : List ℕ) → HasGrown starts [] [] seen waiting → IsVisiting t (λ r. In r starts) seen waiting [] []
visiting_starts t starts seen waiting g = record {
  visited = λ r i. Starts (⊎_elim (λ z. absurd z) (λ j. j) (g.only r i));
  starts = g.all;
  waits = λ r i. ⊎_elim (λ z. absurd z) (λ j. j) (g.within r i);
  done = λ r i. ⊎_elim (λ z. absurd z) (λ j. inl j) (g.fresh r i);
  found = λ r i. absurd i;
  reached = λ b i. absurd i;
  distinct = g.distinct tt;
}

module _ (t : Tree) (w : IsTree t) (Start : ℕ → Type 0) (seen rest rs bs : List ℕ) (r : ℕ) (h : IsVisiting t Start seen (rest ++ r ∷ []) rs bs) (entered seen' waiting' : List ℕ) (in_entered : (b : ℕ) → In b entered → IsVisitedBlock t r b) (all_entered : (b : ℕ) → IsVisitedBlock t r b → In b entered) (g : HasGrown (nested_in t entered) seen rest seen' waiting') where
  here : In r seen
  here = h.waits r (In-right r rest (r ∷ []) (inl refl))

  nested_visited : (q : ℕ) → In q (nested_in t entered) → IsVisited t Start q
  nested_visited q i =
      let b = flat_map-In (λ b. flat_map (λ k. regions_of t k) (body_of t b)) entered q i in
      let k = flat_map-In (λ k. regions_of t k) (body_of t b.0) q b.2 in
      Nested r b.0 k.0 (h.visited r here) (in_entered b.0 b.1) (w.bodies.owned k.0 b.0 k.1) k.2

  nested_seen : (b k q : ℕ) → IsVisitedBlock t r b → parent_of t k ≡ Some b → In q (regions_of t k) → In q seen'
  nested_seen b k q e p i = g.all q (In-flat_map (λ b. flat_map (λ k. regions_of t k) (body_of t b)) entered b q (all_entered b e) (In-flat_map (λ k. regions_of t k) (body_of t b) k q (w.bodies.listed k b p) i))

  -- whatever is recorded of the region
  module _ (rs' bs' : List ℕ) (more : (x : ℕ) → In x rs → In x rs') (more_blocks : (x : ℕ) → In x bs → In x bs') (listed : IsTrue (has_ssa t r) → In r rs') (blocks : IsTrue (has_ssa t r) → (b : ℕ) → IsReachedIn t r b → In b bs') (found : (x : ℕ) → In x rs' → In x rs ⊎ ((x ≡ r) × IsTrue (has_ssa t r))) (reached : (b : ℕ) → In b bs' → In b bs ⊎ (In r rs' × IsReachedIn t r b)) where
    still_done : (x : ℕ) → IsDone t seen rs bs x → IsDone t seen' rs' bs' x
    still_done x d = record { nested = λ b k q e p i. g.kept q (d.nested b k q e p i); listed = λ s. more x (d.listed s); blocks = λ s b i. more_blocks b (d.blocks s b i) }

    now_done : IsDone t seen' rs' bs' r
    now_done = record { nested = nested_seen; listed = listed; blocks = blocks }

    after : (x : ℕ) → In x (rest ++ r ∷ []) → In x waiting' ⊎ IsDone t seen' rs' bs' x
    after x i = ⊎_elim (λ a. inl (g.wait x a)) (λ a. ⊎_elim (λ e. inr (subst (IsDone t seen' rs' bs') (sym e) now_done)) (λ z. absurd z) a) (In-cases x rest (r ∷ []) i)

    pub visiting_next : IsVisiting t Start seen' waiting' rs' bs'
    visiting_next = record {
      visited = λ x i. ⊎_elim (λ a. h.visited x a) (λ a. nested_visited x a) (g.only x i);
      starts = λ x s. g.kept x (h.starts x s);
      waits = λ x i. ⊎_elim (λ a. g.kept x (h.waits x (In-left x rest (r ∷ []) a))) (λ a. a) (g.within x i);
      done = λ x i. ⊎_elim (λ a. ⊎_elim (after x) (λ d. inr (still_done x d)) (h.done x a)) (λ a. inl a) (g.fresh x i);
      found = λ x i. ⊎_elim (λ a. let f = h.found x a in (g.kept x f.0, f.1)) (λ a. (g.kept x (subst (λ z. In z seen) (sym a.0) here), subst (λ z. IsTrue (has_ssa t z)) (sym a.0) a.1)) (found x i);
      reached = λ b i. ⊎_elim (λ a. let f = h.reached b a in (f.0, more f.0 f.1, f.2)) (λ a. (r, a.0, a.1)) (reached b i);
      distinct = g.distinct h.distinct;
    }

  -- a region with SSA dominance is recorded with the blocks that its entry reaches
  pub visiting_searched : IsTrue (has_ssa t r) → ((b : ℕ) → In b entered → IsReachedIn t r b) → ((b : ℕ) → IsReachedIn t r b → In b entered) → IsVisiting t Start seen' waiting' (rs ++ r ∷ []) (bs ++ entered)
  visiting_searched ssa sound complete =
      visiting_next (rs ++ r ∷ []) (bs ++ entered) (λ x i. In-left x rs (r ∷ []) i) (λ x i. In-left x bs entered i) (λ s. In-right r rs (r ∷ []) (inl refl)) (λ s b i. In-right b bs entered (complete b i))
      (λ x i. ⊎_elim (λ a. inl a) (λ a. ⊎_elim (λ e. inr (e, ssa)) (λ z. absurd z) a) (In-cases x rs (r ∷ []) i))
      (λ b i. ⊎_elim (λ a. inl a) (λ a. inr (In-right r rs (r ∷ []) (inl refl), sound b a)) (In-cases b bs entered i))

  pub visiting_other : (IsTrue (has_ssa t r) → ⊥) → IsVisiting t Start seen' waiting' rs bs
  visiting_other none = visiting_next rs bs (λ x i. i) (λ x i. i) (λ s. absurd (none s)) (λ s b i. absurd (none s)) (λ x i. inl i) (λ b i. inl i)

-- the same blocks in another order
pub visiting_reordered : (t : Tree) (Start : ℕ → Type 0) (seen waiting rs bs bs' : List ℕ) → ((b : ℕ) → In b bs' ↔ In b bs) → IsVisiting t Start seen waiting rs bs → IsVisiting t Start seen waiting rs bs'
visiting_reordered t Start seen waiting rs bs bs' same h = record {
  visited = h.visited;
  starts = h.starts;
  waits = h.waits;
  done = λ r i. ⊎_elim (λ a. inl a) (λ d. inr (record { nested = d.nested; listed = d.listed; blocks = λ s b e. (same b).1 (d.blocks s b e) })) (h.done r i);
  found = h.found;
  reached = λ b i. h.reached b ((same b).0 i);
  distinct = h.distinct;
}

-- where nothing waits, all is done
module _ (t : Tree) (Start : ℕ → Type 0) (seen rs bs : List ℕ) (h : IsVisiting t Start seen [] rs bs) where
  all_done : (r : ℕ) → In r seen → IsDone t seen rs bs r
  all_done r i = ⊎_elim (λ z. absurd z) (λ d. d) (h.done r i)

  all_seen : (r : ℕ) → IsVisited t Start r → In r seen
  all_seen r (Starts s) = h.starts r s
  all_seen r (Nested outer b k v e p i) = (all_done outer (all_seen outer v)).nested b k r e p i

  pub visits_found : AreVisits t Start rs bs
  visits_found = record {
    regions = λ r. (λ i. let f = h.found r i in (h.visited r f.0, f.1), λ v. (all_done r (all_seen r v.0)).listed v.1);
    blocks = λ b. (λ i. let f = h.reached b i in let s = h.found f.0 f.1 in (f.0, h.visited f.0 s.0, s.1, f.2), λ v. (all_done v.0 (all_seen v.0 v.1)).blocks v.2 b v.3);
  }

-- visits are those of any other start with the same regions
module _ (t : Tree) (A B : ℕ → Type 0) where
  visited_alike : ((r : ℕ) → A r → B r) → (r : ℕ) → IsVisited t A r → IsVisited t B r
  visited_alike f r (Starts s) = Starts (f r s)
  visited_alike f r (Nested outer b k v e p i) = Nested outer b k (visited_alike f outer v) e p i

module _ (t : Tree) (A B : ℕ → Type 0) (to : (r : ℕ) → A r → B r) (from : (r : ℕ) → B r → A r) where
  pub visits_alike : (rs bs : List ℕ) → AreVisits t A rs bs → AreVisits t B rs bs
  visits_alike rs bs v = record {
    regions = λ r. (λ i. let x = (v.regions r).0 i in (visited_alike t A B to r x.0, x.1), λ x. (v.regions r).1 (visited_alike t B A from r x.0, x.1));
    blocks = λ b. (λ i. let x = (v.blocks b).0 i in (x.0, visited_alike t A B to x.0 x.1, x.2, x.3), λ x. (v.blocks b).1 (x.0, visited_alike t B A from x.0 x.1, x.2, x.3));
  }
