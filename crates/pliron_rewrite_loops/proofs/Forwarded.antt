-- Runs are kept where a block gets one argument more, and each edge to it forwards one value more.
use Rattle.std.proofs.Common.{◌≡◌, ◌≢◌, ◌⊎◌, inl, inr, ℕ, ◌+◌, ◌<◌, Bool, true, false, List, [], ◌∷◌, length, map, Some, None, IsSome, IsTrue, slice_get, slice_index_or, remove, refl, sym, ap, ap₂, ◌∙◌, subst, arith}
use Rattle.std.proofs.lemmas.Bool.{cases_eq}
use Rattle.std.proofs.lemmas.List.Edits.{length-remove}
use Rattle.std.proofs.lemmas.Option.{slice_get_within}
use Rattle.pliron_core.specs.Tree.{Tree, In, IsLive, IsInside, first_of, head_of, successors_of, regions_of, arguments_of, layout_of}
use Rattle.pliron_core.specs.Invariant.{IsTree}
use Rattle.pliron_core.proofs.HoldingLemmas.{some_is, some_of, slice_in}
use Rattle.pliron_laws.specs.Datum.{Datum, Empty, Head, Shape, Meaning, Move, Goto}
use Rattle.pliron_laws.specs.Tree.{Operation, op_at, entry_block, block_at, count_arguments, unless, shape_of}
use Rattle.pliron_laws.specs.Acting.{Act, Comes, Begins, MovesAlike, ActAlike, PassesSame, pick}
use Rattle.pliron_laws.specs.Laws.{Admitted, ForwardsOperands}
use Rattle.pliron_laws.proofs.Records.{op_shows, operation_of, make_op}
use Rattle.pliron_laws.proofs.ShapeLemmas.{shape_head}
use Rattle.pliron_theory.specs.Keeps.{IsFit, KeepsRuns}
use Rattle.pliron_theory.specs.Rebranching.{FitsInPlace}
use Rattle.pliron_theory.specs.Dropping.{IsArgumentDropped, PassesWithout, LeadsWithout}
use Rattle.pliron_theory.proofs.SweptKeeps.{admitted_shape}
use Rattle.pliron_theory.proofs.ShortenedBranches.{SameFrame, IsUser, ActsStill, Tracked, JumpsWithout, childless, length_picked, shape_operands, op_kept, user_live, tracked_end, all_done, none_done}
use Rattle.pliron_theory.proofs.RemovedKeeps.{shape_admitted}
use Rattle.pliron_theory.proofs.DroppedStays.{dropped_keeps}
use Rattle.pliron_rewrite_copies.specs.Adding.{MayNameMore}
use Rattle.pliron_rewrite_copies.proofs.AddedKeeps.{added_keeps}
use Rattle.pliron_rewrite_loops.specs.OneMore.{LacksArgument, IsForwardedMore, ForwardedLaw}

-- moves are compared by other relations on jumps, where what is passed is known
moves_where : {G G' : ℕ → List Datum → ℕ → List Datum → Type 0} (a b : Move) → ((i : ℕ) (ds : List Datum) (j : ℕ) (es : List Datum) → a ≡ Goto i ds → G i ds j es → G' i ds j es) → MovesAlike PassesSame G a b → MovesAlike PassesSame G' a b
moves_where a b g r = record {
  give = r.give;
  visit = r.visit;
  goto = λ i ds e. let x = r.goto i ds e in (x.0, x.1, x.2, g i ds x.0 x.1 e x.3);
  leave = r.leave;
  emit = r.emit;
  traps = r.traps;
}

alike_where : (act : Act) (G G' : ℕ → List Datum → ℕ → List Datum → Type 0) (s s' : Shape) (first first' : List Datum) → ((later : Bool) (memo : Datum) (input : List Datum) → Comes act s first later memo input → (i : ℕ) (ds : List Datum) (j : ℕ) (es : List Datum) → act s memo input ≡ Goto i ds → G i ds j es → G' i ds j es) → ActAlike act PassesSame G s s' first first' → ActAlike act PassesSame G' s s' first first'
alike_where act G G' s s' first first' g r = record {
  begin = moves_where _ _ (g false Empty first Begins) r.begin;
  later = λ memo input comes. moves_where _ _ (g true memo input comes) (r.later memo input comes);
}

-- a branch without regions has one shape in all trees
pub shape_closed : (m : Meaning) (x x' : Tree) (o : Operation) → o.regions ≡ [] → IsTrue (m.is_branch o.head) → shape_of m x o ≡ shape_of m x' o
unfolding shape_of
shape_closed m x x' o none b =
    ap₂ (λ rs z. record { head = o.head; operands = length o.operands; results = length o.results; successors = length o.successors; entry_arguments = map (λ r. count_arguments (entry_block x r)) rs; target_arguments = z }) none (aimless (m.is_branch o.head) _ b ∙ sym (aimless (m.is_branch o.head) _ b))
    ∙ ap (λ rs. record { head = o.head; operands = length o.operands; results = length o.results; successors = length o.successors; entry_arguments = map (λ r. count_arguments (entry_block x' r)) rs; target_arguments = unless (m.is_branch o.head) (map (λ b. count_arguments (block_at x' b)) o.successors) }) (sym none)
  where
    aimless : (b : Bool) (xs : List ℕ) → IsTrue b → unless b xs ≡ None
    aimless true xs y = refl
    aimless false xs y = absurd (cc)

first_in : (block : ℕ) (xs : List ℕ) → first_of xs None ≡ Some block → In block xs
first_in block [] e = absurd (cc)
first_in block (x ∷ xs) e = inl (sym (some_is e))

module _ (m : Meaning) (can_fold : Head → Bool) (SameTests : Head → Head → Type 0) (shortened : Shape → ℕ → ℕ → Head) (law : ForwardsOperands m can_fold SameTests shortened) (tests : (h h' : Head) → SameTests h h' → m.is_branch h' ≡ m.is_branch h) (t u : Tree) (block index v : ℕ) (w : IsTree t) (w' : IsTree u) (x : IsForwardedMore m shortened t u block index v) where
  y : LacksArgument x.shorter t block index
  y = x.without

  abbrev count : ℕ
  count = length (arguments_of u block)

  abbrev Ended : ℕ → Type 0
  Ended k = Tracked m can_fold SameTests shortened law tests u w' block index x.shorter k []

  frame : SameFrame m can_fold SameTests shortened law tests u w' block index x.shorter
  frame = (tracked_end m can_fold SameTests shortened law tests u w' block index x.edges x.to x.shorter x.lose 0).0

  abbrev end : (k : ℕ) → Ended k
  end k = (tracked_end m can_fold SameTests shortened law tests u w' block index x.edges x.to x.shorter x.lose k).1

  abbrev kept : ℕ → List ℕ
  kept k = (end k).places

  enough : index < count
  enough = slice_get_within (arguments_of u block) index v x.argument

  dropped : IsArgumentDropped u t block index v kept
  dropped = record {
    argument = x.argument;
    dropped = y.left ∙ ap (λ z. remove (slice_index_or z block []) index) frame.arguments;
    unused = λ k i. x.unused k (subst (In v) (y.operands k) i);
    left = λ k i. ap (map Some) (y.operands k) ∙ (end k).left;
    all_in_place = λ k i. let j = slice_in (successors_of u k) block i in subst (λ z. IsSome z.head) (sym (y.rows k)) (frame.live k (user_live m can_fold SameTests shortened law tests u w' block index k j.0 j.1));
    rows = λ k n. y.rows k ∙ ((end k).same (none_done m can_fold SameTests shortened law tests u w' block index x.edges x.to x.shorter x.lose k n)).0;
    operands = λ k n. y.operands k ∙ ((end k).same (none_done m can_fold SameTests shortened law tests u w' block index x.edges x.to x.shorter x.lose k n)).1;
    results = λ k. ap (λ z. z.results) (y.rows k) ∙ frame.results k;
    regions = λ k. ap (λ z. z.regions) (y.rows k) ∙ frame.regions k;
    successors = λ k. y.successors k ∙ ap (λ z. slice_index_or z k []) frame.successors;
    parents = λ k. y.parents k ∙ ap (λ z. slice_index_or z k None) frame.parents;
    bodies = λ b. y.bodies b ∙ ap (λ z. slice_index_or z b []) frame.bodies;
    arguments = λ b ne. y.arguments b ne ∙ ap (λ z. slice_index_or z b []) frame.arguments;
    block_parents = λ b. y.block_parents b ∙ ap (λ z. slice_index_or z b None) frame.block_parents;
    layouts = λ r. y.layouts r ∙ ap (λ z. slice_index_or z r []) frame.layouts;
    slots = λ r. y.slots r ∙ ap (λ z. slice_get z r) frame.slots;
  }

  -- a branch that leads to the block, is admitted and forwards a value for each argument
  module _ (k : ℕ) (i : In block (successors_of u k)) (fit : FitsInPlace m u k) where
    live : IsLive u k
    live = let j = slice_in (successors_of u k) block i in user_live m can_fold SameTests shortened law tests u w' block index k j.0 j.1

    before : (h : Head) × (head_of u k ≡ Some h)
    before = some_of (head_of u k) live

    abbrev o : Operation
    o = operation_of u k before.0

    oe : op_at u k ≡ Some o
    oe = make_op u k before.0 before.1

    is_branch : IsTrue (m.is_branch o.head)
    is_branch = x.branches k i before.0 before.1

    abbrev user : IsUser m can_fold SameTests shortened law tests u w' block index k
    user = record {
      operation = o;
      liveness = oe;
      admitted = admitted_shape m u k o oe fit.admitted;
      branch = is_branch;
      forwards = λ j s. subst (λ n. index < n) (sym (fit.forwards o j block oe is_branch s)) enough;
    }

    after : (now : Operation) × ActsStill m can_fold SameTests shortened law tests u w' block index x.shorter k now (kept k) (end k).done user
    after = (end k).acts user

    abbrev now : Operation
    now = after.0

    abbrev s : Shape
    s = shape_of m u o

    branch : IsTrue (m.is_branch s.head)
    branch = subst (λ z. IsTrue (m.is_branch z)) (sym (shape_head m u o)) user.branch

    no_regions : regions_of u k ≡ []
    no_regions = childless m u o (law.alone s user.admitted branch).1

    stands_after : op_at t k ≡ Some now
    stands_after = op_kept x.shorter t k (y.rows k) (y.operands k) (y.successors k) (y.parents k) ∙ after.1.liveness

    shape_after : shape_of m x.shorter now ≡ shape_of m t now
    shape_after = shape_closed m x.shorter t now (sym (op_shows x.shorter k now after.1.liveness).regions ∙ frame.regions k ∙ no_regions) after.1.branch

    is_now : (z : Operation) → op_at t k ≡ Some z → now ≡ z
    is_now z e = some_is (sym stands_after ∙ e)

    forwards_all : (j c : ℕ) → slice_get (successors_of u k) j ≡ Some c → length (m.forwarded s j) ≡ length (arguments_of u c)
    forwards_all j c q = fit.forwards o j c oe user.branch q

    less : (a b n : ℕ) → a + 1 ≡ n → b + 1 ≡ n → a ≡ b
    less a b n p q = omega (arith, p, q)

    forwards_to : (j c : ℕ) → slice_get (successors_of u k) j ≡ Some c → (c ≡ block) ⊎ (c ≢ block) → length (m.forwarded (shape_of m x.shorter now) j) ≡ length (arguments_of t c)
    forwards_to j c q (inl z) =
        let shorter : length (m.forwarded (shape_of m x.shorter now) j) + 1 ≡ count = after.1.shorter j (all_done m can_fold SameTests shortened law tests u w' block index x.edges x.to x.shorter x.lose k j (q ∙ ap Some z)) ∙ forwards_all j c q ∙ ap (λ b. length (arguments_of u b)) z in
        let fewer : length (arguments_of t block) + 1 ≡ count = ap (λ xs. length xs + 1) dropped.dropped ∙ length-remove (arguments_of u block) index enough in
        less (length (m.forwarded (shape_of m x.shorter now) j)) (length (arguments_of t block)) count shorter fewer ∙ ap (λ b. length (arguments_of t b)) (sym z)
    forwards_to j c q (inr ne) = after.1.same j (λ d. ne (some_is (sym q ∙ (end k).sound j d))) ∙ forwards_all j c q ∙ ap length (sym (dropped.arguments c ne))

    fits : FitsInPlace m t k
    fits = record {
      admitted = shape_admitted m t k now stands_after (subst (Admitted m) shape_after after.1.admitted);
      forwards = λ z j c e b q. ap (λ a. length (m.forwarded (shape_of m t a) j)) (sym (is_now z e)) ∙ ap (λ a. length (m.forwarded a j)) (sym shape_after) ∙ forwards_to j c (ap (λ a. slice_get a j) (sym (dropped.successors k) ∙ (op_shows t k z e).successors) ∙ q) (cases_eq c block);
    }

    abbrev Jumps : ℕ → List Datum → ℕ → List Datum → Type 0
    Jumps = JumpsWithout m can_fold SameTests shortened law tests u w' block index (end k).done

    abbrev GoesOn : ℕ → List Datum → ℕ → List Datum → Type 0
    GoesOn j ds l es = (l ≡ j) × PassesWithout block index count (slice_get (successors_of u k) j) ds es

    goes : (first : List Datum) → length first ≡ length o.operands → (later : Bool) (memo : Datum) (input : List Datum) → Comes m.act s first later memo input → (j : ℕ) (ds : List Datum) (l : ℕ) (es : List Datum) → m.act s memo input ≡ Goto j ds → Jumps j ds l es → GoesOn j ds l es
    goes first lf later memo input comes j ds l es e p = (p.0, passes p.1)
      where
        long : slice_get (successors_of u k) j ≡ Some block → length ds ≡ count
        long q = length_picked ds (m.forwarded s j) first (law.passes s user.admitted branch first (lf ∙ sym (shape_operands m u o)) later memo input j ds comes e) ∙ forwards_all j block q

        passes : (In j (end k).done × (es ≡ remove ds index)) ⊎ ((In j (end k).done → ⊥) × (es ≡ ds)) → PassesWithout block index count (slice_get (successors_of u k) j) ds es
        passes (inl d) = let q = (end k).sound j d.0 in inl (q, long q, d.1)
        passes (inr d) = inr (λ q. d.0 (all_done m can_fold SameTests shortened law tests u w' block index x.edges x.to x.shorter x.lose k j q), d.1)

    acts_now : (first first' : List Datum) → length first ≡ length o.operands → map Some first' ≡ pick (kept k) first → ActAlike m.act PassesSame GoesOn s (shape_of m t now) first first'
    acts_now first first' l q = subst (λ z. ActAlike m.act PassesSame GoesOn s z first first') shape_after (alike_where m.act Jumps GoesOn s (shape_of m x.shorter now) first first' (λ later memo input comes j ds n es e p. goes first l later memo input comes j ds n es e p) (after.1.alike first first' l q))

    leads : LeadsWithout m u t block index (kept k) k
    leads = record {
      childless = no_regions;
      fits = fits;
      acts = λ z z' ze ze' first first' l q.
          subst (λ a. length first ≡ length a.operands → ActAlike m.act PassesSame (λ j ds l es. (l ≡ j) × PassesWithout block index count (slice_get a.successors j) ds es) (shape_of m u a) (shape_of m t z') first first') (some_is (sym oe ∙ ze))
          (λ lf. subst (λ a. ActAlike m.act PassesSame GoesOn s (shape_of m t a) first first') (is_now z' ze') (acts_now first first' lf q)) l;
    }

  -- no region begins at the block
  no_entry : (r : ℕ) → first_of (layout_of u r) None ≡ Some block → ⊥
  no_entry r e = x.no_entry r (w'.layouts.owned block r (first_in block (layout_of u r) e)) e

  as_many : length t.operations ≡ length u.operations
  as_many = y.count ∙ frame.operations

  pub added : ((root : ℕ) → IsFit m t root → (k : ℕ) → In block (successors_of t k) → MayNameMore t u root k) → ((root : ℕ) → IsFit m t root → (k : ℕ) → IsInside t root k → In block (successors_of t k) → FitsInPlace m u k) → KeepsRuns m t u
  added more fits = added_keeps m t u block index v kept w w' dropped (omega (arith, as_many)) more
      (λ root f k inside i. let fit = fits root f k inside i in record { fits = fit; without = leads k (subst (In block) (dropped.successors k) i) fit })
      (λ root f k r inside i e. absurd (no_entry r (ap (λ l. first_of l None) (sym (dropped.layouts r)) ∙ e)))

  pub gone : KeepsRuns m u t
  gone = dropped_keeps m u t block index v kept w' w dropped (omega (arith, as_many))
      (λ root f k inside i. leads k i (record { admitted = f.linked.admitted k (inr inside); forwards = λ z j c e b q. f.defined.forwards k j c z inside e b q }))
      (λ root f k r inside i e. absurd (no_entry r e))

pub forwarded_keeps : (m : Meaning) (can_fold : Head → Bool) (SameTests : Head → Head → Type 0) (shortened : Shape → ℕ → ℕ → Head) → ForwardsOperands m can_fold SameTests shortened → ((h h' : Head) → SameTests h h' → m.is_branch h' ≡ m.is_branch h) → ForwardedLaw m shortened
forwarded_keeps m can_fold SameTests shortened law tests t u block index v w w' x more fits = (added m can_fold SameTests shortened law tests t u block index v w w' x more fits, gone m can_fold SameTests shortened law tests t u block index v w w' x)
