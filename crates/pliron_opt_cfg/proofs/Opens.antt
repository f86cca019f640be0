-- Blocks whose pairs are due, before and after merges.
use Rattle.std.proofs.Common.{◌≡◌, ◌≢◌, inl, inr, ℕ, Bool, true, List, [], ◌∷◌, Some, None, is_some, refl, sym, ap, ◌∙◌, subst}
use Rattle.pliron_core.specs.Tree.{Tree, In, head_of, IsLive, IsBlock, IsInside, IsInside.Directly, IsInside.Deeper, IsWithin, arguments_of, block_parent_of, block_parent_operation_of}
use Rattle.pliron_core.specs.Invariant.{IsTree}
use Rattle.pliron_core.specs.Changes.{IsInsideChange}
use Rattle.pliron_core.proofs.HoldingLemmas.{some_is, not_none, some_of, outside_itself}
use Rattle.pliron_core.proofs.ListLemmas.{In-right}
use Rattle.pliron_core.proofs.WithinLemmas.{block_holder_from}
use Rattle.pliron_core.proofs.InsideLemmas.{widen}
use Rattle.pliron_laws.specs.Datum.{Head, Shape, Meaning}
use Rattle.pliron_laws.specs.Laws.{ForwardsOperands}
use Rattle.pliron_laws.specs.Linked.{EdgesLast, IsWellLinked}
use Rattle.pliron_theory.specs.Change.{IsWholeChange}
use Rattle.pliron_theory.specs.Splicing.{IsSpliced}
use Rattle.pliron_theory.proofs.ChangeLemmas.{linked_inside}
use Rattle.pliron_opt_cfg.specs.Visited.{Start, IsReachedIn, IsVisited, IsVisitedSsaRegion, IsUnreachable}
use Rattle.pliron_rewrite_blocks.specs.Joining.{JoinsWell}
use Rattle.pliron_rewrite_blocks.specs.Pairs.{IsMergeable, forwarded_uses, after_block_merging}
use Rattle.pliron_rewrite_blocks.proofs.JoinedLinks.{joined_inside}
use Rattle.pliron_opt_cfg.specs.Merged.{IsDue}
use Rattle.pliron_opt_cfg.proofs.Forwarded.{IsForwarded, forwarded_all}
use Rattle.pliron_opt_cfg.proofs.JoinLemmas.{forwarded_shape}
use Rattle.pliron_opt_cfg.proofs.MergedTrees.{IsMerge, merges}
use Rattle.pliron_opt_cfg.proofs.RegionReach.{IsHeld, visited_held}
use Rattle.pliron_opt_cfg.proofs.VisitsKept.{visited_same, visited_forth, visited_back, held_still, reached_forth, reached_back, ssa_same}

-- a block that the entry of a searched region reaches
pub record IsOpen (start : Start) (t : Tree) (c : ℕ) : Type 0 where
  pub region : ℕ
  pub searched : IsVisitedSsaRegion start t region
  pub in_region : block_parent_of t c ≡ Some region
  pub reached : IsReachedIn t region c

pub due_of : (start : Start) (m : Meaning) (t : Tree) (a b jump : ℕ) (values : List ℕ) → IsOpen start t a → IsMergeable m t a b jump values → IsDue start m t a b jump values
due_of start m t a b jump values o pair = record { region = o.region; searched = o.searched; in_region = o.in_region; reached = o.reached; pair = pair }

-- a start that stays where operands change, and where two blocks of a visited region are joined
pub record IsLasting (start : Start) (root : ℕ) : Type 0 where
  pub operands : (t : Tree) (xs : List (List ℕ)) (r : ℕ) → start t r → start (record t { operands = xs }) r
  pub forth : (u v : Tree) (a b jump region : ℕ) (front : List ℕ) → IsTree u → IsTree v → IsSpliced u v a b jump front → EdgesLast u root → ((r : ℕ) → start u r → IsHeld u root r) → block_parent_of u a ≡ Some region → IsVisited u (start u) region → (r : ℕ) → start u r → start v r
  pub back : (u v : Tree) (a b jump region : ℕ) (front : List ℕ) → IsTree u → IsTree v → IsSpliced u v a b jump front → EdgesLast u root → ((r : ℕ) → start u r → IsHeld u root r) → block_parent_of u a ≡ Some region → IsVisited u (start u) region → (r : ℕ) → start v r → start u r

-- a region that is held stays so where operands change
held_same : (t : Tree) (xs : List (List ℕ)) (root r : ℕ) → ((k : ℕ) → IsInside t root k → IsInside (record t { operands = xs }) root k) → IsHeld t root r → IsHeld (record t { operands = xs }) root r
held_same t xs root r more h = record { holder = h.holder; held = h.held; liveness = h.liveness; within = elim h.within [ inl e ↦ inl e | inr i ↦ inr (more h.holder i) ] }

inside_same : (t : Tree) (xs : List (List ℕ)) (root k : ℕ) → IsInside t root k → IsInside (record t { operands = xs }) root k
inside_same t xs root k (Directly e) = Directly e
inside_same t xs root k (Deeper p e i) = Deeper p e (inside_same t xs root p i)

pub record IsKept (m : Meaning) (start : Start) (t v : Tree) (root : ℕ) : Type 0 where
  pub starts : (r : ℕ) → start v r → IsHeld v root r
  pub forth : (c : ℕ) → IsOpen start t c → IsBlock v c → IsOpen start v c
  pub back : (c : ℕ) → IsOpen start v c → IsOpen start t c
  pub were : (c : ℕ) → IsBlock v c → IsBlock t c
  pub cut : (c : ℕ) → IsUnreachable start v c → IsUnreachable start t c
  pub lives : (k : ℕ) → IsLive v k → IsLive t k
  pub change : IsWholeChange m t v root

module _ (m : Meaning) (can_fold : Head → Bool) (SameTests : Head → Head → Type 0) (shortened : Shape → ℕ → ℕ → Head) (law : ForwardsOperands m can_fold SameTests shortened) (start : Start) (root : ℕ) (lasting : IsLasting start root) where
  module _ (t : Tree) (a b jump : ℕ) (values : List ℕ) (w : IsTree t) (live : IsLive t root) (linked : IsWellLinked m t root) (starts : (r : ℕ) → start t r → IsHeld t root r) (opened : IsOpen start t a) (h : IsMergeable m t a b jump values) (well : JoinsWell m (forwarded_uses t (arguments_of t b) values) a b jump) (wv : IsTree (after_block_merging t a b jump values)) where
    abbrev v : Tree
    v = after_block_merging t a b jump values

    abbrev xs : List (List ℕ)
    xs = (forwarded_uses t (arguments_of t b) values).operands

    abbrev u : Tree
    u = record t { operands = (forwarded_uses t (arguments_of t b) values).operands }

    shape : forwarded_uses t (arguments_of t b) values ≡ u
    shape = forwarded_shape t (arguments_of t b) values

    holds : IsHeld t root opened.region
    holds = visited_held t w root linked.edges (start t) starts opened.region opened.searched.0

    held : block_parent_operation_of t a ≡ Some holds.holder
    held = block_holder_from t a opened.region opened.in_region ∙ holds.held

    near : IsWellLinked m t holds.holder
    near = elim holds.within [ inl e ↦ subst (IsWellLinked m t) (sym e) linked | inr i ↦ linked_inside m t root holds.holder i linked ]

    f : IsForwarded m t (forwarded_uses t (arguments_of t b) values) holds.holder a b jump values (arguments_of t b)
    f = forwarded_all m can_fold SameTests shortened law holds.holder a b jump values t w near held h

    o : IsMerge m t v a b
    o = merges m can_fold SameTests shortened law a b jump values t w h (λ holder e. subst (IsWellLinked m t) (some_is (sym held ∙ e)) near) well wv

    wu : IsTree u
    wu = subst IsTree shape f.tree

    s : IsSpliced u v a b jump well.front
    s = subst (λ (z : Tree). IsSpliced z v a b jump well.front) shape well.spliced

    linked_u : IsWellLinked m u root
    linked_u = subst (λ (z : Tree). IsWellLinked m z root) shape (f.links root linked)

    near_u : IsWellLinked m u holds.holder
    near_u = subst (λ (z : Tree). IsWellLinked m z holds.holder) shape (f.links holds.holder near)

    linked_v : IsWellLinked m v root
    linked_v = o.links root linked

    starts_u : (r : ℕ) → start u r → IsHeld u root r
    starts_u r x = held_same t xs root r (inside_same t xs root) (starts r (lasting.operands u t.operands r x))

    wide : (x y : Tree) → IsTree x → IsWithin x root holds.holder → IsInsideChange x y holds.holder → IsInsideChange x y root
    wide x y wx (inl e) c = subst (IsInsideChange x y) e c
    wide x y wx (inr i) c = widen x y root holds.holder wx.joined i c

    within_u : IsWithin u root holds.holder
    within_u = elim holds.within [ inl e ↦ inl e | inr i ↦ inr (inside_same t xs root holds.holder i) ]

    inside : IsInsideChange u v root
    inside = wide u v wu within_u (joined_inside u v holds.holder a b jump well.front wu wv held s)

    visited_u : (r : ℕ) → IsVisited t (start t) r → IsVisited u (start u) r
    visited_u = visited_same t xs (start t) (start u) (λ r x. lasting.operands t xs r x)

    visited_t : (r : ℕ) → IsVisited u (start u) r → IsVisited t (start t) r
    visited_t = visited_same u t.operands (start u) (start t) (λ r x. lasting.operands u t.operands r x)

    open_u : IsVisited u (start u) opened.region
    open_u = visited_u opened.region opened.searched.0

    more : (r : ℕ) → start u r → start v r
    more = lasting.forth u v a b jump opened.region well.front wu wv s linked_u.edges starts_u opened.in_region open_u

    fewer : (r : ℕ) → start v r → start u r
    fewer = lasting.back u v a b jump opened.region well.front wu wv s linked_u.edges starts_u opened.in_region open_u

    held_u : (r : ℕ) → IsVisited u (start u) r → IsHeld u root r
    held_u = visited_held u wu root linked_u.edges (start u) starts_u

    -- the jump goes
    pub jump_gone : head_of v jump ≡ None
    jump_gone = s.deleted

    pub jump_live : IsLive t jump
    jump_live = (wu.joined.all_in_place jump a (wu.bodies.owned jump a (subst (In jump) (sym s.split) (In-right jump well.front (jump ∷ []) (inl refl))))).0

    root_stands : IsLive v root
    root_stands = (o_inside.operations root (outside_itself w.joined.rooted live)).0.0
      where
        o_inside : IsInsideChange t v root
        o_inside = wide t v w holds.within (o.inside holds.holder held)

    pub kept : IsKept m start t v root
    kept = record {
      starts = λ r x. held_still u v wu wv root holds.holder a b jump well.front s linked_u.edges linked_v.edges near_u.edges held inside r (starts_u r (fewer r x));
      forth = λ c x is.
          let vis = visited_u x.region x.searched.0 in
          let hx = held_u x.region vis in
          let ne : c ≢ b = λ e. let y = some_of (block_parent_of v c) is in not_none (sym s.detached_block ∙ ap (block_parent_of v) (sym e) ∙ y.1) in
          record {
            region = x.region;
            searched = (visited_forth u v wu wv root holds.holder a b jump well.front s linked_u.edges linked_v.edges near_u.edges held inside (start u) (start v) starts_u more x.region vis, ssa_same u v wu wv root holds.holder a b jump well.front s linked_u.edges linked_v.edges near_u.edges held inside x.region hx ∙ x.searched.1);
            in_region = s.block_parents c ne ∙ x.in_region;
            reached = reached_forth u v wu wv root holds.holder a b jump well.front s linked_u.edges linked_v.edges near_u.edges held inside x.region c hx ne x.reached;
          };
      back = λ c x.
          let vis = visited_back u v wu wv root holds.holder a b jump well.front s linked_u.edges linked_v.edges near_u.edges held inside opened.region opened.in_region opened.searched.1 (start u) (start v) starts_u fewer x.region x.searched.0 in
          let hx = held_u x.region vis in
          let ne : c ≢ b = λ e. not_none (sym s.detached_block ∙ ap (block_parent_of v) (sym e) ∙ x.in_region) in
          record {
            region = x.region;
            searched = (visited_t x.region vis, sym (ssa_same u v wu wv root holds.holder a b jump well.front s linked_u.edges linked_v.edges near_u.edges held inside x.region hx) ∙ x.searched.1);
            in_region = sym (s.block_parents c ne) ∙ x.in_region;
            reached = reached_back u v wu wv root holds.holder a b jump well.front s linked_u.edges linked_v.edges near_u.edges held inside x.region c hx x.reached;
          };
      were = λ c is. let ne : c ≢ b = λ e. let y = some_of (block_parent_of v c) is in not_none (sym s.detached_block ∙ ap (block_parent_of v) (sym e) ∙ y.1) in subst (λ z. is_some z ≡ true) (s.block_parents c ne) is;
      cut = λ c x.
          let vis = visited_back u v wu wv root holds.holder a b jump well.front s linked_u.edges linked_v.edges near_u.edges held inside opened.region opened.in_region opened.searched.1 (start u) (start v) starts_u fewer x.0 x.1.0 in
          let hx = held_u x.0 vis in
          let ne : c ≢ b = λ e. not_none (sym s.detached_block ∙ ap (block_parent_of v) (sym e) ∙ x.2.0) in (
            x.0,
            (visited_t x.0 vis, sym (ssa_same u v wu wv root holds.holder a b jump well.front s linked_u.edges linked_v.edges near_u.edges held inside x.0 hx) ∙ x.1.1),
            (sym (s.block_parents c ne) ∙ x.2.0, λ reached. x.2.1 (reached_forth u v wu wv root holds.holder a b jump well.front s linked_u.edges linked_v.edges near_u.edges held inside x.0 c hx ne reached)),
          );
      lives = λ k is. let ne : k ≢ jump = λ e. let y = some_of (head_of v k) is in not_none (sym s.deleted ∙ ap (head_of v) (sym e) ∙ y.1) in subst (λ z. is_some z.head ≡ true) (s.rows k ne) is;
      change = record { liveness = root_stands; linked = linked_v; inside = wide t v w holds.within (o.inside holds.holder held); runs = o.runs };
    }
