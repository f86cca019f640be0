-- Removing an argument, after each edge to its block lost the operand forwarded to it, keeps what roots
-- do.
use Rattle.std.proofs.Common.{◌≡◌, ◌≢◌, ◌⊎◌, inl, inr, ⊎_elim, ℕ, zero, suc, ◌+◌, ◌<◌, ◌≤◌, Bool, true, false, List, [], ◌∷◌, length, map, Option, Some, None, IsTrue, option_map, slice_get, slice_set, slice_index_or, remove, refl, sym, ap, ap₂, ◌∙◌, subst, arith}
use Rattle.std.proofs.lemmas.Bool.{cases_eq, eq-eqb}
use Rattle.std.proofs.lemmas.List.{get_or-set_other, get_or-set_same, get_or_past, length-map}
use Rattle.std.proofs.lemmas.List.Edits.{length-remove}
use Rattle.std.proofs.lemmas.Option.{slice_get_within, slice_get-map}
use Rattle.pliron_core.specs.declared.attrs.Head.{Head}
use Rattle.pliron_core.specs.declared.uses.Use.{Use}
use Rattle.pliron_core.specs.Tree.{Tree, In, IsLive, IsInside, IsWithin, first_of, head_of, operands_of, successors_of, results_of, regions_of, arguments_of, block_parent_of, layout_of, slot_of, region_parent_of, block_parent_operation_of, op_of_slot, up_from}
use Rattle.pliron_core.specs.Invariant.{IsTree}
use Rattle.pliron_core.specs.Writes.{argument_removed}
use Rattle.pliron_core.proofs.TreeLemmas.{cases_lt}
use Rattle.pliron_core.proofs.HoldingLemmas.{some_is, some_of, in_slice, slice_in}
use Rattle.pliron_laws.specs.Datum.{Datum, Empty, Shape, Meaning, Move, Visit, Goto}
use Rattle.pliron_laws.specs.Tree.{Operation, op_at, entry_block, and_block, block_at, count_arguments, unless, shape_of}
use Rattle.pliron_laws.specs.Acting.{Act, Comes, Begins, MovesAlike, ActAlike, PassesSame, JumpsSame, DropsAt, pick}
use Rattle.pliron_laws.specs.Laws.{Admitted, CountsFit, KeepsCounts, ForwardsOperands, ActsWithoutArgument}
use Rattle.pliron_laws.specs.Answers.{HeadPasses, ReadsPlace, is_first}
use Rattle.pliron_laws.specs.Linked.{IsAdmitted}
use Rattle.pliron_theory.specs.Keeps.{IsFit, KeepsRuns}
use Rattle.pliron_theory.specs.Rebranching.{FitsInPlace}
use Rattle.pliron_theory.specs.Dropping.{IsArgumentDropped, PassesWithout, entry_key, LeadsWithout, HoldsWithout, AreEdgesTo, EdgesLose}
use Rattle.pliron_laws.proofs.Records.{op_shows, operation_of, make_op, make_block, region_entry}
use Rattle.pliron_laws.proofs.ShapeLemmas.{shape_head}
use Rattle.pliron_theory.proofs.Alike.{map_same}
use Rattle.pliron_theory.proofs.SweptKeeps.{admitted_shape}
use Rattle.pliron_theory.proofs.ShortenedBranches.{SameFrame, IsUser, ActsStill, Tracked, JumpsWithout, childless, length_picked, shape_operands, op_kept, user_live, tracked_end, all_done, none_done}
use Rattle.pliron_theory.proofs.DroppedAgree.{shows_after, parts_same, shape_parts, count_same, entry_count}
use Rattle.pliron_theory.proofs.DroppedStays.{dropped_keeps}

-- moves are compared by other relations, where what is passed is known
moves_where : {V V' : ℕ → List Datum → List Datum → Type 0} {G G' : ℕ → List Datum → ℕ → List Datum → Type 0} (a b : Move) → ((i : ℕ) (ds : List Datum) (memo : Datum) (es : List Datum) → a ≡ Visit i ds memo → V i ds es → V' i ds es) → ((i : ℕ) (ds : List Datum) (j : ℕ) (es : List Datum) → a ≡ Goto i ds → G i ds j es → G' i ds j es) → MovesAlike V G a b → MovesAlike V' G' a b
moves_where a b v g r = record {
  give = r.give;
  visit = λ i ds memo e. let x = r.visit i ds memo e in (x.0, x.1, v i ds memo x.0 e x.2);
  goto = λ i ds e. let x = r.goto i ds e in (x.0, x.1, x.2, g i ds x.0 x.1 e x.3);
  leave = r.leave;
  emit = r.emit;
  traps = r.traps;
}

alike_where : (act : Act) (V V' : ℕ → List Datum → List Datum → Type 0) (G G' : ℕ → List Datum → ℕ → List Datum → Type 0) (s s' : Shape) (first first' : List Datum) → ((later : Bool) (memo : Datum) (input : List Datum) → Comes act s first later memo input → (i : ℕ) (ds : List Datum) (next : Datum) (es : List Datum) → act s memo input ≡ Visit i ds next → V i ds es → V' i ds es) → ((later : Bool) (memo : Datum) (input : List Datum) → Comes act s first later memo input → (i : ℕ) (ds : List Datum) (j : ℕ) (es : List Datum) → act s memo input ≡ Goto i ds → G i ds j es → G' i ds j es) → ActAlike act V G s s' first first' → ActAlike act V' G' s s' first first'
alike_where act V V' G G' s s' first first' v g r = record {
  begin = moves_where _ _ (v false Empty first Begins) (g false Empty first Begins) r.begin;
  later = λ memo input comes. moves_where _ _ (v true memo input comes) (g true memo input comes) (r.later memo input comes);
}

-- a row that has something stands
has_row : (rows : List (List ℕ)) (b i v : ℕ) → slice_get (slice_index_or rows b []) i ≡ Some v → b < length rows
has_row rows b i v e = ⊎_elim (λ lt. lt) (λ le. absurd (nothing (ap (λ z. slice_get z i) (sym (get_or_past rows b [] le)) ∙ e))) (cases_lt b (length rows))
  where
    nothing : slice_get {X = ℕ} [] i ≡ Some v → ⊥
    nothing q = grind arith

-- a list in which one item is another
map_set : (f g : ℕ → ℕ) (xs : List ℕ) (i x n : ℕ) → slice_get xs i ≡ Some x → g x ≡ n → ((l y : ℕ) → slice_get xs l ≡ Some y → l ≢ i → g y ≡ f y) → map g xs ≡ slice_set (map f xs) i n
map_set f g [] i x n e q others = grind arith
map_set f g (y ∷ ys) zero x n e q others = ap₂ (λ a b. a ∷ b) (ap g (some_is e) ∙ q) (all ys (λ l z s. others (suc l) z s (later l)))
  where
    later : (l : ℕ) → suc l ≢ 0
    later l s = absurd (omega (arith, s))

    all : (zs : List ℕ) → ((l z : ℕ) → slice_get zs l ≡ Some z → g z ≡ f z) → map g zs ≡ map f zs
    all [] h = refl
    all (z ∷ zs) h = ap₂ (λ a b. a ∷ b) (h 0 z refl) (all zs (λ l. h (suc l)))
map_set f g (y ∷ ys) (suc i) x n e q others = ap₂ (λ a b. a ∷ b) (others 0 y refl (first i)) (map_set f g ys i x n e q (λ l z s ne. others (suc l) z s (λ r. ne (down l i r))))
  where
    first : (i : ℕ) → 0 ≢ suc i
    first i s = absurd (omega (arith, s))

    down : (l i : ℕ) → suc l ≡ suc i → l ≡ i
    down l i r = omega (arith, r)

-- the dialect admits an operation by its shape
pub shape_admitted : (m : Meaning) (t : Tree) (k : ℕ) (o : Operation) → op_at t k ≡ Some o → Admitted m (shape_of m t o) → IsAdmitted m t k
unfolding shape_of
shape_admitted m t k o e a h hd =
    let s = op_shows t k o e in
    let same : o.head ≡ h = some_is (sym s.head ∙ hd) in
    subst (λ x. IsTrue (m.admits x (length (operands_of t k)) (length (results_of t k)) (length (successors_of t k)) (length (regions_of t k)))) same
    (subst (λ x. IsTrue (m.admits o.head (length x) (length (results_of t k)) (length (successors_of t k)) (length (regions_of t k)))) (sym s.operands)
    (subst (λ x. IsTrue (m.admits o.head (length o.operands) (length x) (length (successors_of t k)) (length (regions_of t k)))) (sym s.results)
    (subst (λ x. IsTrue (m.admits o.head (length o.operands) (length o.results) (length x) (length (regions_of t k)))) (sym s.successors)
    (subst (λ x. IsTrue (m.admits o.head (length o.operands) (length o.results) (length o.successors) (length x))) (sym s.regions)
    (subst (λ n. IsTrue (m.admits o.head (length o.operands) (length o.results) (length o.successors) n)) (length-map o.regions (λ r. count_arguments (entry_block t r))) a)))))

-- a branch without regions has one shape in all trees
shape_closed : (m : Meaning) (x x' : Tree) (o : Operation) → o.regions ≡ [] → IsTrue (m.is_branch o.head) → shape_of m x o ≡ shape_of m x' o
unfolding shape_of
shape_closed m x x' o none b =
    ap₂ (λ rs z. record { head = o.head; operands = length o.operands; results = length o.results; successors = length o.successors; entry_arguments = map (λ r. count_arguments (entry_block x r)) rs; target_arguments = z }) none (aimless (m.is_branch o.head) _ b ∙ sym (aimless (m.is_branch o.head) _ b))
    ∙ ap (λ rs. record { head = o.head; operands = length o.operands; results = length o.results; successors = length o.successors; entry_arguments = map (λ r. count_arguments (entry_block x' r)) rs; target_arguments = unless (m.is_branch o.head) (map (λ b. count_arguments (block_at x' b)) o.successors) }) (sym none)
  where
    aimless : (b : Bool) (xs : List ℕ) → IsTrue b → unless b xs ≡ None
    aimless true xs y = refl
    aimless false xs y = absurd (cc)

shape_entries : (m : Meaning) (t : Tree) (o : Operation) → (shape_of m t o).entry_arguments ≡ map (λ r. count_arguments (entry_block t r)) o.regions
unfolding shape_of
shape_entries m t o = refl

-- a shape in which one entry has another count of arguments
shape_entry : (m : Meaning) (t t' : Tree) (o : Operation) (i n : ℕ) → map (λ r. count_arguments (entry_block t' r)) o.regions ≡ slice_set (map (λ r. count_arguments (entry_block t r)) o.regions) i n → ((c : ℕ) → In c o.successors → count_arguments (block_at t c) ≡ count_arguments (block_at t' c)) → shape_of m t' o ≡ record (shape_of m t o) { entry_arguments = slice_set (shape_of m t o).entry_arguments i n }
unfolding shape_of
shape_entry m t t' o i n entries targets =
    ap₂ (λ e g. record { head = o.head; operands = length o.operands; results = length o.results; successors = length o.successors; entry_arguments = e; target_arguments = unless (m.is_branch o.head) g }) entries (sym (map_same (λ b. count_arguments (block_at t b)) (λ b. count_arguments (block_at t' b)) o.successors targets))

module _ (m : Meaning) (can_fold : Head → Bool) (SameTests : Head → Head → Type 0) (shortened : Shape → ℕ → ℕ → Head) (law : ForwardsOperands m can_fold SameTests shortened) (tests : (h h' : Head) → SameTests h h' → m.is_branch h' ≡ m.is_branch h) (counts : KeepsCounts m) (removable : Head → ℕ → Bool → Option Bool) (without : ActsWithoutArgument m removable) (t u : Tree) (block index v : ℕ) (edges : List Use) (w : IsTree t) (w' : IsTree (argument_removed u block index)) (argument : slice_get (arguments_of t block) index ≡ Some v) (to : AreEdgesTo t block edges) (branches : (k : ℕ) → In block (successors_of t k) → HeadPasses m.is_branch t k) (answer : (k : ℕ) → block_parent_operation_of t block ≡ Some k → ReadsPlace removable t k block (Some true)) (lose : EdgesLose m shortened index edges t u) (unused : (k : ℕ) → In v (operands_of u k) → ⊥) where
  abbrev t' : Tree
  t' = argument_removed u block index

  abbrev count : ℕ
  count = length (arguments_of t block)

  abbrev Ended : ℕ → Type 0
  Ended k = Tracked m can_fold SameTests shortened law tests t w block index u k []

  frame : SameFrame m can_fold SameTests shortened law tests t w block index u
  frame = (tracked_end m can_fold SameTests shortened law tests t w block index edges to u lose 0).0

  abbrev end : (k : ℕ) → Ended k
  end k = (tracked_end m can_fold SameTests shortened law tests t w block index edges to u lose k).1

  abbrev kept : ℕ → List ℕ
  kept k = (end k).places

  enough : index < count
  enough = slice_get_within (arguments_of t block) index v argument

  has_block : block < length u.arguments
  has_block = has_row u.arguments block index v (ap (λ z. slice_get (slice_index_or z block []) index) frame.arguments ∙ argument)

  dropped : IsArgumentDropped t t' block index v kept
  dropped = record {
    argument = argument;
    dropped = get_or-set_same u.arguments block _ [] has_block ∙ ap (λ z. remove (slice_index_or z block []) index) frame.arguments;
    unused = unused;
    left = λ k i. (end k).left;
    all_in_place = λ k i. let j = slice_in (successors_of t k) block i in frame.live k (user_live m can_fold SameTests shortened law tests t w block index k j.0 j.1);
    rows = λ k n. ((end k).same (none_done m can_fold SameTests shortened law tests t w block index edges to u lose k n)).0;
    operands = λ k n. ((end k).same (none_done m can_fold SameTests shortened law tests t w block index edges to u lose k n)).1;
    results = frame.results;
    regions = frame.regions;
    successors = λ k. ap (λ z. slice_index_or z k []) frame.successors;
    parents = λ k. ap (λ z. slice_index_or z k None) frame.parents;
    bodies = λ b. ap (λ z. slice_index_or z b []) frame.bodies;
    arguments = λ b ne. get_or-set_other u.arguments block b _ [] ne ∙ ap (λ z. slice_index_or z b []) frame.arguments;
    block_parents = λ b. ap (λ z. slice_index_or z b None) frame.block_parents;
    layouts = λ r. ap (λ z. slice_index_or z r []) frame.layouts;
    slots = λ r. ap (λ z. slice_get z r) frame.slots;
  }

  module _ (root : ℕ) (f : IsFit m t root) where
    -- a branch inside the root that leads to the block
    module _ (k : ℕ) (inside : IsInside t root k) (i : In block (successors_of t k)) where
      live : IsLive t k
      live = let j = slice_in (successors_of t k) block i in user_live m can_fold SameTests shortened law tests t w block index k j.0 j.1

      before : (h : Head) × (head_of t k ≡ Some h)
      before = some_of (head_of t k) live

      abbrev o : Operation
      o = operation_of t k before.0

      oe : op_at t k ≡ Some o
      oe = make_op t k before.0 before.1

      abbrev user : IsUser m can_fold SameTests shortened law tests t w block index k
      user = record {
        operation = o;
        liveness = oe;
        admitted = admitted_shape m t k o oe (f.linked.admitted k (inr inside));
        branch = branches k i before.0 before.1;
        forwards = λ j s. subst (λ n. index < n) (sym (f.defined.forwards k j block o inside oe (branches k i before.0 before.1) s)) enough;
      }

      after : (now : Operation) × ActsStill m can_fold SameTests shortened law tests t w block index u k now (kept k) (end k).done user
      after = (end k).acts user

      abbrev now : Operation
      now = after.0

      abbrev s : Shape
      s = shape_of m t o

      branch : IsTrue (m.is_branch s.head)
      branch = subst (λ z. IsTrue (m.is_branch z)) (sym (shape_head m t o)) user.branch

      no_regions : regions_of t k ≡ []
      no_regions = childless m t o (law.alone s user.admitted branch).1

      stands_after : op_at t' k ≡ Some now
      stands_after = op_kept u t' k refl refl refl refl ∙ after.1.liveness

      shape_after : shape_of m u now ≡ shape_of m t' now
      shape_after = shape_closed m u t' now (sym (op_shows u k now after.1.liveness).regions ∙ frame.regions k ∙ no_regions) after.1.branch

      is_now : (x : Operation) → op_at t' k ≡ Some x → now ≡ x
      is_now x e = some_is (sym stands_after ∙ e)

      forwards_all : (j c : ℕ) → slice_get (successors_of t k) j ≡ Some c → length (m.forwarded s j) ≡ length (arguments_of t c)
      forwards_all j c q = f.defined.forwards k j c o inside oe user.branch q

      less : (a b n : ℕ) → a + 1 ≡ n → b + 1 ≡ n → a ≡ b
      less a b n p q = omega (arith, p, q)

      forwards_to : (j c : ℕ) → slice_get (successors_of t k) j ≡ Some c → (c ≡ block) ⊎ (c ≢ block) → length (m.forwarded (shape_of m u now) j) ≡ length (arguments_of t' c)
      forwards_to j c q (inl z) =
          let shorter : length (m.forwarded (shape_of m u now) j) + 1 ≡ count = after.1.shorter j (all_done m can_fold SameTests shortened law tests t w block index edges to u lose k j (q ∙ ap Some z)) ∙ forwards_all j c q ∙ ap (λ b. length (arguments_of t b)) z in
          let fewer : length (arguments_of t' block) + 1 ≡ count = ap (λ xs. length xs + 1) dropped.dropped ∙ length-remove (arguments_of t block) index enough in
          less (length (m.forwarded (shape_of m u now) j)) (length (arguments_of t' block)) count shorter fewer ∙ ap (λ b. length (arguments_of t' b)) (sym z)
      forwards_to j c q (inr ne) = after.1.same j (λ d. ne (some_is (sym q ∙ (end k).sound j d))) ∙ forwards_all j c q ∙ ap length (sym (dropped.arguments c ne))

      fits : FitsInPlace m t' k
      fits = record {
        admitted = shape_admitted m t' k now stands_after (subst (Admitted m) shape_after after.1.admitted);
        forwards = λ x j c e b q. ap (λ y. length (m.forwarded (shape_of m t' y) j)) (sym (is_now x e)) ∙ ap (λ z. length (m.forwarded z j)) (sym shape_after) ∙ forwards_to j c (ap (λ z. slice_get z j) (sym (dropped.successors k) ∙ (op_shows t' k x e).successors) ∙ q) (cases_eq c block);
      }

      abbrev Jumps : ℕ → List Datum → ℕ → List Datum → Type 0
      Jumps = JumpsWithout m can_fold SameTests shortened law tests t w block index (end k).done

      abbrev Continues : ℕ → List Datum → ℕ → List Datum → Type 0
      Continues j ds l es = (l ≡ j) × PassesWithout block index count (slice_get (successors_of t k) j) ds es

      goes : (first : List Datum) → length first ≡ length o.operands → (later : Bool) (memo : Datum) (input : List Datum) → Comes m.act s first later memo input → (j : ℕ) (ds : List Datum) (l : ℕ) (es : List Datum) → m.act s memo input ≡ Goto j ds → Jumps j ds l es → Continues j ds l es
      goes first lf later memo input comes j ds l es e p = (p.0, passes p.1)
        where
          long : slice_get (successors_of t k) j ≡ Some block → length ds ≡ count
          long q = length_picked ds (m.forwarded s j) first (law.passes s user.admitted branch first (lf ∙ sym (shape_operands m t o)) later memo input j ds comes e) ∙ forwards_all j block q

          passes : (In j (end k).done × (es ≡ remove ds index)) ⊎ ((In j (end k).done → ⊥) × (es ≡ ds)) → PassesWithout block index count (slice_get (successors_of t k) j) ds es
          passes (inl y) = let q = (end k).sound j y.0 in inl (q, long q, y.1)
          passes (inr y) = inr (λ q. y.0 (all_done m can_fold SameTests shortened law tests t w block index edges to u lose k j q), y.1)

      acts_now : (first first' : List Datum) → length first ≡ length o.operands → map Some first' ≡ pick (kept k) first → ActAlike m.act PassesSame Continues s (shape_of m t' now) first first'
      acts_now first first' l q = subst (λ z. ActAlike m.act PassesSame Continues s z first first') shape_after (alike_where m.act PassesSame PassesSame Jumps Continues s (shape_of m u now) first first' (λ later memo input comes j ds next es e p. p) (λ later memo input comes j ds n es e p. goes first l later memo input comes j ds n es e p) (after.1.alike first first' l q))

      leads : LeadsWithout m t t' block index (kept k) k
      leads = record {
        childless = no_regions;
        fits = fits;
        acts = λ x x' xe xe' first first' l q.
            subst (λ y. length first ≡ length y.operands → ActAlike m.act PassesSame (λ j ds l es. (l ≡ j) × PassesWithout block index count (slice_get y.successors j) ds es) (shape_of m t y) (shape_of m t' x') first first') (some_is (sym oe ∙ xe))
            (λ lf. subst (λ y. ActAlike m.act PassesSame Continues s (shape_of m t' y) first first') (is_now x' xe') (acts_now first first' lf q)) l;
      }

    -- an operation within the root with the block as the entry of a region
    module _ (k r : ℕ) (inside : IsWithin t root k) (i : In r (regions_of t k)) (entry : first_of (layout_of t r) None ≡ Some block) where
      held : (j : ℕ) × (slice_get (regions_of t k) j ≡ Some r)
      held = slice_in (regions_of t k) r i

      first_in : (xs : List ℕ) → first_of xs None ≡ Some block → In block xs
      first_in [] e = grind arith
      first_in (x ∷ xs) e = inl (sym (some_is e))

      in_region : block_parent_of t block ≡ Some r
      in_region = w.layouts.owned block r (first_in (layout_of t r) entry)

      slot : slot_of t r ≡ Some (record { op = k; index = held.0 })
      slot = w.joined.regions k held.0 r held.1

      holder : block_parent_operation_of t block ≡ Some k
      holder = ap (λ x. up_from x (λ r. region_parent_of t r)) in_region ∙ ap op_of_slot slot

      not_leading : In block (successors_of t k) → ⊥
      not_leading b = leads_not inside
        where
          leads_not : IsWithin t root k → ⊥
          leads_not (inl e) = subst (In block) f.defined.no_successors (subst (λ z. In block (successors_of t z)) e b)
          leads_not (inr j) = subst (In r) (no_regions k j b) i

      -- no other region of the operation has the block as its entry
      only : (l y : ℕ) → slice_get (regions_of t k) l ≡ Some y → first_of (layout_of t y) None ≡ Some block → l ≡ held.0
      only l y e q =
          let same : y ≡ r = some_is (sym (w.layouts.owned block y (first_in (layout_of t y) q)) ∙ in_region) in
          ap (λ z. z.index) (some_is (sym (w.joined.regions k l y e) ∙ ap (slot_of t) same ∙ slot))

      abbrev fewer : ℕ
      fewer = length (remove (arguments_of t block) index)

      one_fewer : fewer + 1 ≡ count
      one_fewer = length-remove (arguments_of t block) index enough

      counted : count_arguments (entry_block t r) ≡ count
      counted = ap count_arguments (region_entry t r k (ap op_of_slot slot) ∙ ap (and_block t) entry ∙ make_block t block r in_region)

      counted_after : count_arguments (entry_block t' r) ≡ fewer
      counted_after = ap count_arguments (region_entry t' r k (ap op_of_slot (dropped.slots r ∙ slot)) ∙ ap (λ xs. and_block t' (first_of xs None)) (dropped.layouts r) ∙ ap (and_block t') entry ∙ make_block t' block r (dropped.block_parents block ∙ in_region)) ∙ ap length dropped.dropped

      module _ (o : Operation) (oe : op_at t k ≡ Some o) where
        admitted : Admitted m (shape_of m t o)
        admitted = admitted_shape m t k o oe (f.linked.admitted k inside)

        here : slice_get o.regions held.0 ≡ Some r
        here = ap (λ z. slice_get z held.0) (sym (op_shows t k o oe).regions) ∙ held.1

        no_branch : (b : Bool) → m.is_branch o.head ≡ b → m.is_branch o.head ≡ false
        no_branch false q = q
        no_branch true q = absurd (subst (In r) ((op_shows t k o oe).regions ∙ childless m t o (law.alone (shape_of m t o) admitted (ap m.is_branch (shape_head m t o) ∙ q)).1) i)

        entry_at : slice_get (shape_of m t o).entry_arguments held.0 ≡ Some (fewer + 1)
        entry_at = ap (λ z. slice_get z held.0) (shape_entries m t o) ∙ slice_get-map (λ r. count_arguments (entry_block t r)) o.regions held.0 ∙ ap (option_map (λ r. count_arguments (entry_block t r))) here ∙ ap Some (counted ∙ sym one_fewer)

        allowed : removable (shape_of m t o).head held.0 true ≡ Some true
        allowed = ap (λ h. removable h held.0 true) (shape_head m t o) ∙ sym (answer k holder o.head r held.0 (op_shows t k o oe).head in_region slot ∙ ap (removable o.head held.0) (ap (is_first block) entry ∙ eq-eqb block block refl))

        within_count : index ≤ fewer
        within_count = let a = enough in let b = one_fewer in omega (arith, a, b)

        shape_with : (o' : Operation) → op_at t' k ≡ Some o' → shape_of m t' o' ≡ record (shape_of m t o) { entry_arguments = slice_set (shape_of m t o).entry_arguments held.0 fewer }
        shape_with o' oe' =
            let a = parts_same m t t' block index v kept w w' dropped k o o' not_leading oe oe' in
            let b = shows_after m t t' block index v kept w w' dropped k o o' oe oe' in
            shape_parts m t t' block index v kept w w' dropped t' o o' a.0 a.1 b.results b.successors b.regions
            ∙ shape_entry m t t' o held.0 fewer (map_set (λ r. count_arguments (entry_block t r)) (λ r. count_arguments (entry_block t' r)) o.regions held.0 r fewer here counted_after (λ l y e ne. let e0 = ap (λ z. slice_get z l) (op_shows t k o oe).regions ∙ e in sym (entry_count m t t' block index v kept w w' dropped k y (in_slice (regions_of t k) l y e0) (λ q. ne (only l y e0 q)))))
            (λ c j. count_same m t t' block index v kept w w' dropped c (λ z. not_leading (subst (λ y. In y (successors_of t k)) z (subst (In c) (sym (op_shows t k o oe).successors) j))))

        abbrev Visits : ℕ → List Datum → List Datum → Type 0
        Visits j ds es = PassesWithout block index count (entry_key t (slice_get o.regions j)) ds es

        visits : (first : List Datum) (later : Bool) (memo : Datum) (input : List Datum) → Comes m.act (shape_of m t o) first later memo input → (j : ℕ) (ds : List Datum) (next : Datum) (es : List Datum) → m.act (shape_of m t o) memo input ≡ Visit j ds next → DropsAt held.0 index j ds es → Visits j ds es
        visits first later memo input comes j ds next es e (inl p) =
            let fit : CountsFit (m.is_branch (shape_of m t o).head) (shape_of m t o) (Visit j ds next) = subst (CountsFit (m.is_branch (shape_of m t o).head) (shape_of m t o)) e (counts.moves (shape_of m t o) admitted first later memo input comes) in
            inl (ap (λ z. entry_key t (slice_get o.regions z)) p.0 ∙ ap (entry_key t) here ∙ entry, fit (fewer + 1) (ap (slice_get (shape_of m t o).entry_arguments) p.0 ∙ entry_at) ∙ one_fewer, p.1)
        visits first later memo input comes j ds next es e (inr p) = inr (elsewhere (slice_get o.regions j) refl, p.1)
          where
            elsewhere : (x : Option ℕ) → slice_get o.regions j ≡ x → entry_key t x ≢ Some block
            elsewhere None q z = grind arith
            elsewhere (Some y) q z = p.0 (only j y (ap (λ l. slice_get l j) (op_shows t k o oe).regions ∙ q) z)

        acts_held : (o' : Operation) → op_at t' k ≡ Some o' → (first : List Datum) → ActAlike m.act Visits JumpsSame (shape_of m t o) (shape_of m t' o') first first
        acts_held o' oe' first = subst (λ z. ActAlike m.act Visits JumpsSame (shape_of m t o) z first first) (sym (shape_with o' oe')) (alike_where m.act (DropsAt held.0 index) Visits JumpsSame JumpsSame (shape_of m t o) _ first first (λ later memo input comes j ds next es e p. visits first later memo input comes j ds next es e p) (λ later memo input comes j ds l es e p. p) (without (shape_of m t o) admitted held.0 fewer index allowed entry_at within_count first))

      holds : HoldsWithout m t t' block index k
      holds = record { no_branch = λ o e. no_branch o e (m.is_branch o.head) refl; acts = λ o o' e e' first. acts_held o e o' e' first }

  longer : length t.operations ≤ length u.operations
  longer = let a = frame.operations in omega (arith, a)

  pub removed_keeps : KeepsRuns m t t'
  removed_keeps = dropped_keeps m t t' block index v kept w w' dropped longer (λ root f k inside i. leads root f k inside i) (λ root f k r inside i e. holds root f k r inside i e)
