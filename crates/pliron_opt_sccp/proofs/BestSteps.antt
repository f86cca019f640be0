-- The facts go on standing above every closed set of facts while blocks and values are taken.
use Rattle.std.proofs.Common.{◌≡◌, ◌≢◌, ◌⊎◌, inl, inr, ⊎_elim, ℕ, Bool, true, false, true≢false, nat_eq, if◌then◌else◌, List, [], ◌∷◌, ◌++◌, append_assoc, Some, None, slice_get, refl, sym, ap, ◌∙◌, subst, arith, IsTrue}
use Rattle.std.proofs.lemmas.List.{append-nil}
use Rattle.std.proofs.lemmas.Bool.{eqb-true, eq-eqb}
use Rattle.pliron_core.specs.declared.attrs.AttrObj.{AttrObj}
use Rattle.pliron_core.specs.Lists.{In, first_of}
use Rattle.pliron_core.specs.Tree.{Tree, HoldsBlock, IsInside, operands_of, results_of, regions_of, parent_of, body_of, layout_of}
use Rattle.pliron_core.specs.Invariant.{IsTree}
use Rattle.pliron_core.proofs.ListLemmas.{In-left, In-right, In-cases, split_at}
use Rattle.pliron_core.proofs.FlatLemmas.{In-flat_map, flat_map-In}
use Rattle.pliron_core.proofs.NeighbourLemmas.{first_of-In}
use Rattle.pliron_core.proofs.HoldingLemmas.{some_is, in_slice, inside_block}
use Rattle.pliron_laws.specs.Linked.{IsWellLinked}
use Rattle.pliron_laws.specs.Folding.{AnswersTrue}
use Rattle.pliron_laws.specs.Tree.{Operation, op_at, shape_of}
use Rattle.pliron_laws.proofs.Records.{op_shows}
use Rattle.pliron_laws.proofs.ShapeLemmas.{live_at}
use Rattle.pliron_theory.proofs.FactLattice.{at_most_trans, picked_in}
use Rattle.pliron_opt_sccp.specs.declared.deferred.DeferredOperations.{DeferredOperations}
use Rattle.pliron_opt_sccp.specs.declared.constraints.Constraint.{Constraint}
use Rattle.pliron_theory.specs.LatticeValues.{LatticeValue, Undetermined, Constant, NotAConstant, AtMost, LatticeValues, Says, AreClosed, IsBelowNamed, IsInExecutableBlock}
use Rattle.pliron_theory.specs.Sound.{IsMadeThere}
use Rattle.pliron_opt_sccp.specs.declared.lattice_tables.Tables.{Tables}
use Rattle.pliron_opt_sccp.specs.LatticeTables.{lattice_value_in, known_constants, is_executable, is_block_on_worklist, lattice_values_of, PopsBlock}
use Rattle.pliron_opt_sccp.specs.Lowering.{ValuesAreLowered, IsApplied}
use Rattle.pliron_opt_sccp.specs.Inside.{values_inside}
use Rattle.pliron_opt_sccp.specs.Precise.{AreMostPrecise, AreOwed}
use Rattle.pliron_opt_sccp.specs.Constraints.{ConstrainsEntries, SatisfiesAll}
use Rattle.pliron_opt_sccp.specs.Visiting.{HasWay, IsGrounded, AreDetermined}
use Rattle.pliron_opt_sccp.specs.declared.feasible_edges.FeasibleEdges.{FeasibleEdges}
use Rattle.pliron_opt_sccp.specs.Feasible.{AreSurelyFeasible, KeepsFeasible}
use Rattle.pliron_opt_sccp.specs.OperationVisits.{AreReactions, Forwarded, VisitsInTurnAndKeeps, IsPropagatedEagerly, WasVisited, IsNamedArgument, IsOpenEdge, IsUseOf, VisitsOperation, VisitsInTurn, PopsValues}
use Rattle.pliron_opt_sccp.specs.OperationVisits.VisitsInTurnAndKeeps.{Nowhere, Onward}
use Rattle.pliron_opt_sccp.specs.OperationVisits.VisitsInTurn.{Nothing, Then}
use Rattle.pliron_opt_sccp.specs.Starting.{IsStarted}
use Rattle.pliron_opt_sccp.specs.Searching.{TakesTurn, IsSearchOnTheWay}
use Rattle.pliron_opt_sccp.specs.Searching.TakesTurn.{Block, Values}
use Rattle.pliron_opt_sccp.specs.WorklistCounts.{AreWorklistsEmpty}
use Rattle.pliron_opt_sccp.specs.Best.{is_visited, IsHigher, IsBest}
use Rattle.pliron_opt_sccp.proofs.Accounting.{below_undetermined}
use Rattle.pliron_opt_sccp.proofs.DistinctLists.{held_directly}
use Rattle.pliron_opt_sccp.proofs.InsideLists.{holds_listed, argument_listed, made_listed, result_listed}
use Rattle.pliron_opt_sccp.proofs.Applied.{below_trans, falls_trans}
use Rattle.pliron_opt_sccp.proofs.ReactionSteps.{reached_before}
use Rattle.pliron_opt_sccp.proofs.Stepping.{first_blocks, entries_of, first_in, in_first, through_falls, looks_only}
use Rattle.pliron_opt_sccp.proofs.BestVisit.{lists, lists_in, in_lists, varying, only_inside, only_below, only_lower, only_above, IsOn, PassesItsOperands, feasible_closed, resume_scan, look_results}

-- blocks that were visited
module _ (s : Tables) (b : ℕ) where
  make_visited : IsTrue (is_executable s b) → is_block_on_worklist s b ≡ false → IsTrue (is_visited s b)
  make_visited r rests = ap (λ z. if z then false else is_executable s b) rests ∙ r

  visited_rests : IsTrue (is_visited s b) → is_block_on_worklist s b ≡ false
  visited_rests y = by (is_block_on_worklist s b) refl
    where
      by : (z : Bool) → is_block_on_worklist s b ≡ z → is_block_on_worklist s b ≡ false
      by true e = absurd (true≢false (sym y ∙ ap (λ z. if z then false else is_executable s b) e))
      by false e = e

  visited_reached : IsTrue (is_visited s b) → IsTrue (is_executable s b)
  visited_reached y = sym (ap (λ z. if z then false else is_executable s b) (visited_rests y)) ∙ y

module _ (s u : Tables) (lowered : ValuesAreLowered s u) (b : ℕ) where
  visited_still : IsTrue (is_visited s b) → IsTrue (is_visited u b)
  visited_still y = make_visited u b (lowered.below.is_executable b (visited_reached s b y)) (by (is_block_on_worklist u b) refl)
    where
      by : (z : Bool) → is_block_on_worklist u b ≡ z → is_block_on_worklist u b ≡ false
      by true e = ⊎_elim
          (λ waited. absurd (true≢false (sym waited ∙ visited_rests s b y)))
          (λ new. absurd (true≢false (sym (visited_reached s b y) ∙ new.0)))
          (lowered.came b e)
      by false e = e

  visited_before : IsTrue (is_visited u b) → IsTrue (is_visited s b)
  visited_before y = make_visited s b
      (⊎_elim (λ r. r) (λ waits. absurd (true≢false (sym waits ∙ visited_rests u b y))) (lowered.entered b (visited_reached u b y)))
      (by (is_block_on_worklist s b) refl)
    where
      by : (z : Bool) → is_block_on_worklist s b ≡ z → is_block_on_worklist s b ≡ false
      by true e = absurd (true≢false (sym (lowered.blocks b e) ∙ visited_rests u b y))
      by false e = e

wider_way : (t : Tree) (seen more : ℕ → Bool) → ((b : ℕ) → IsTrue (seen b) → IsTrue (more b)) → (b : ℕ) → HasWay t seen b → HasWay t more b
wider_way t seen more wider b way = record {
  region = way.region;
  in_region = way.in_region;
  entry = way.entry;
  entry_first = way.entry_first;
  before = way.before;
  path = way.path;
  all_visited = λ d i. wider d (way.all_visited d i);
}

module _ (x : Says) (t : Tree) (root : ℕ) (w : IsTree t) (linked : IsWellLinked x.meaning t root) (answers : AnswersTrue x.meaning x.can_fold x.constants) (places : PassesItsOperands x) (owed : AreOwed x t root) where
  -- f and visited are those from before, and the blocks seen are those that are visited after
  module _ (f : LatticeValues) (visited seen : ℕ → Bool) (inside : (b : ℕ) → IsTrue (f.is_executable b) → HoldsBlock t root b) (grounded : IsGrounded t root f visited) (ready : AreDetermined t f visited) (more : (b : ℕ) → IsTrue (visited b) → IsTrue (seen b)) where
    -- what is said of an operation before it is visited
    record IsNext (k c : ℕ) (done rest : List ℕ) (s : Tables) : Type 0 where
      placed : parent_of t k ≡ Some c
      reached : IsTrue (f.is_executable c)
      came : IsTrue (seen c)
      body : body_of t c ≡ done ++ k ∷ rest
      on : IsOn x t root f seen (lattice_values_of s)
      front : (q v : ℕ) → In q done → In v (results_of t q) → lattice_value_in s v ≢ Undetermined

    one_on : (k c : ℕ) (done rest : List ℕ) (s u : Tables) → VisitsOperation x t k s u → IsNext k c done rest s → IsOn x t root f seen (lattice_values_of u)
    one_on k c done rest s u visits n =
        let o = live_at t k (w.joined.all_in_place k c n.placed).0 in
        resume_scan x t root w linked answers places owed f visited seen inside grounded ready more k c o.0 n.placed o.1 n.reached n.came done rest n.body (lattice_values_of s) n.on n.front s u refl visits

    one_results : (k c : ℕ) (done rest : List ℕ) (s u : Tables) → VisitsOperation x t k s u → IsNext k c done rest s → (v : ℕ) → In v (results_of t k) → lattice_value_in u v ≢ Undetermined
    one_results k c done rest s u visits n =
        let o = live_at t k (w.joined.all_in_place k c n.placed).0 in
        look_results x t root w linked answers places owed f visited seen inside grounded ready more k c o.0 n.placed o.1 n.reached n.came done rest n.body (lattice_values_of s) n.on n.front s u refl visits

    one_kept : (k c : ℕ) (done rest : List ℕ) (s : Tables) (edges edges' : FeasibleEdges) → KeepsFeasible x t (lattice_values_of s) k edges edges' → IsNext k c done rest s → AreSurelyFeasible x t root edges → AreSurelyFeasible x t root edges'
    one_kept k c done rest s edges edges' keeps n sure j b led = ⊎_elim
        (λ before. sure j b before)
        (λ new g closed i o at goes.
        let here : op_at t k ≡ Some o = subst (λ z. op_at t z ≡ Some o) new.0 at in
        feasible_closed x t root w linked answers places owed f visited seen inside grounded ready more k c o n.placed here n.reached n.came done rest n.body (lattice_values_of s) n.on n.front g closed i b (new.1 i o here goes))
        (keeps j b led)

    -- a block is visited from its operation k on
    record IsThrough (c : ℕ) (u : Tables) (edges : FeasibleEdges) : Type 0 where
      on : IsOn x t root f seen (lattice_values_of u)
      results : (q v : ℕ) → In q (body_of t c) → In v (results_of t q) → lattice_value_in u v ≢ Undetermined
      sure : AreSurelyFeasible x t root edges

    through_block : (c : ℕ) → IsTrue (f.is_executable c) → IsTrue (seen c) → (ks : List ℕ) (s u : Tables) (edges edges' : FeasibleEdges) → VisitsInTurnAndKeeps x t ks s u edges edges' → (done : List ℕ) → body_of t c ≡ done ++ ks → IsOn x t root f seen (lattice_values_of s) → ((q v : ℕ) → In q done → In v (results_of t q) → lattice_value_in s v ≢ Undetermined) → AreSurelyFeasible x t root edges → IsThrough c u edges'
    through_block c reached came [] s u edges edges' Nowhere done body on front sure = record { on = on; results = λ q v i j. front q v (subst (In q) (body ∙ append-nil done) i) j; sure = sure }
    through_block c reached came (k ∷ ks) s u edges edges' (Onward _ q kept a keeps d) done body on front sure =
        let n : IsNext k c done ks s = record { placed = w.bodies.owned k c (subst (In k) (sym body) (In-right k done (k ∷ ks) (inl refl))); reached = reached; came = came; body = body; on = on; front = front } in
        through_block c reached came ks q u kept edges' d (done ++ k ∷ []) (body ∙ sym (append_assoc done (k ∷ []) ks)) (one_on k c done ks s q a n)
        (λ y v i j. ⊎_elim
        (λ old. below_undetermined (lattice_value_in s v) (lattice_value_in q v) (a.applied.lowered.below.lattice_value v) (front y v old j))
        (λ last. ⊎_elim (λ e. one_results k c done ks s q a n v (subst (λ z. In v (results_of t z)) e j)) (λ none. absurd none) last)
        (In-cases y done (k ∷ []) i))
        (one_kept k c done ks s edges kept keeps n sure)

    -- an operation in a block that was visited
    user_next : (k c : ℕ) (s : Tables) (placed : parent_of t k ≡ Some c) → IsTrue (visited c) → IsOn x t root f seen (lattice_values_of s) → IsNext k c (split_at k (body_of t c) (w.bodies.listed k c placed)).0 (split_at k (body_of t c) (w.bodies.listed k c placed)).1 s
    user_next k c s placed came on =
        let split = split_at k (body_of t c) (w.bodies.listed k c placed) in
        record {
          placed = placed;
          reached = grounded.reached c came;
          came = more c came;
          body = split.2;
          on = on;
          front = λ y v i j. below_undetermined (f.lattice_value v) (lattice_value_in s v) (on.below.lattice_value v) (ready.results c y v came (w.bodies.owned y c (subst (In y) (sym split.2) (In-left y split.0 (k ∷ split.1) i))) j);
        }

    through_users : (ks : List ℕ) (s u : Tables) → VisitsInTurn x t ks s u → ((k : ℕ) → In k ks → (c : ℕ) × (parent_of t k ≡ Some c) × IsTrue (visited c)) → IsOn x t root f seen (lattice_values_of s) → IsOn x t root f seen (lattice_values_of u)
    through_users [] s u Nothing placed on = on
    through_users (k ∷ ks) s u (Then _ q a d) placed on =
        let p = placed k (inl refl) in
        let split = split_at k (body_of t p.0) (w.bodies.listed k p.0 p.1) in
        through_users ks q u d (λ j i. placed j (inr i)) (one_on k p.0 split.0 split.1 s q a (user_next k p.0 s p.1 p.2 on))

    finish : (u : Tables) → IsOn x t root f seen (lattice_values_of u) → ((b : ℕ) → IsTrue (seen b) → IsTrue (is_visited u b)) → ((b : ℕ) → IsTrue (is_visited u b) → IsTrue (seen b)) → ((b k v : ℕ) → IsTrue (seen b) → parent_of t k ≡ Some b → In v (results_of t k) → lattice_value_in u v ≢ Undetermined) → IsBest x t root u
    finish u on there back results = record {
      grounded = record {
        ways = λ b r. wider_way t seen (is_visited u) there b (on.ways b r);
        held = λ b k r e. ⊎_elim (λ h. inl h) (λ y. inr (y.0, y.1, there y.0 y.2)) (on.held b k r e);
        reached = λ b y. visited_reached u b y;
      };
      ready = record { arguments = on.arguments; results = λ b k v y p i. results b k v (back b y) p i };
      above = on.above;
    }

  module _ (s : Tables) (best : IsBest x t root s) (inside : (b : ℕ) → IsTrue (is_executable s b) → HoldsBlock t root b) where
    -- nothing was visited yet
    begin : (seen : ℕ → Bool) → ((b : ℕ) → IsTrue (is_visited s b) → IsTrue (seen b)) → (u : Tables) → ((v : ℕ) → lattice_value_in u v ≡ lattice_value_in s v) → ((b : ℕ) → is_executable u b ≡ is_executable s b) → IsOn x t root (lattice_values_of s) seen (lattice_values_of u)
    begin seen more u facts reached = record {
      below = record { is_executable = λ b r. reached b ∙ r; lattice_value = λ v. inr (inr (facts v)) };
      above = λ g closed.
          let a = best.above g closed in
          record { blocks = λ b r. a.blocks b (sym (reached b) ∙ r); facts = λ v i. subst (AtMost (g.lattice_value v)) (sym (facts v)) (a.facts v i) };
      ways = λ b r. wider_way t (is_visited s) seen more b (best.grounded.ways b (sym (reached b) ∙ r));
      held = λ b k r e. ⊎_elim (λ h. inl h) (λ y. inr (y.0, y.1, more y.0 y.2)) (best.grounded.held b k (sym (reached b) ∙ r) e);
      arguments = λ b v r i e. best.ready.arguments b v (sym (reached b) ∙ r) i (sym (facts v) ∙ e);
    }

    -- a block was taken and visited
    pub block_best : (c : ℕ) (u s' : Tables) (edges edges' : FeasibleEdges) → PopsBlock c s u → IsTrue (is_executable s c) → VisitsInTurnAndKeeps x t (body_of t c) u s' edges edges' → AreSurelyFeasible x t root edges → IsBest x t root s' × AreSurelyFeasible x t root edges'
    block_best c u s' edges edges' k reached d sure =
        let r = through_block (lattice_values_of s) (is_visited s) (is_visited u) inside best.grounded best.ready more c reached came (body_of t c) u s' edges edges' d [] refl (begin (is_visited u) more u k.facts k.reached) (λ q v i. absurd i) sure in
        let lowered = through_falls x t (body_of t c) u s' (looks_only x t (body_of t c) u s' edges edges' d) in (
          finish (lattice_values_of s) (is_visited s) (is_visited u) inside best.grounded best.ready more s' r.on (visited_still u s' lowered) (visited_before u s' lowered)
              (λ b q v y p i. ⊎_elim
              (λ same. r.results q v (w.bodies.listed q c (p ∙ ap Some (sym same))) i)
              (λ old. below_undetermined (lattice_value_in s v) (lattice_value_in s' v) (r.on.below.lattice_value v) (best.ready.results b q v old p i))
              (before b y)),
          r.sure,
        )
      where
        waits_then : (b : ℕ) (z : Bool) → nat_eq c b ≡ z → is_block_on_worklist u b ≡ (if z then false else is_block_on_worklist s b)
        waits_then b z e = k.blocks b ∙ ap (λ z. if z then false else is_block_on_worklist s b) e

        more : (b : ℕ) → IsTrue (is_visited s b) → IsTrue (is_visited u b)
        more b y = make_visited u b (k.reached b ∙ visited_reached s b y) (by (nat_eq c b) refl)
          where
            by : (z : Bool) → nat_eq c b ≡ z → is_block_on_worklist u b ≡ false
            by true e = waits_then b true e
            by false e = waits_then b false e ∙ visited_rests s b y

        came : IsTrue (is_visited u c)
        came = make_visited u c (k.reached c ∙ reached) (waits_then c true (eq-eqb c c refl))

        before : (b : ℕ) → IsTrue (is_visited u b) → (c ≡ b) ⊎ IsTrue (is_visited s b)
        before b y = by (nat_eq c b) refl
          where
            by : (z : Bool) → nat_eq c b ≡ z → (c ≡ b) ⊎ IsTrue (is_visited s b)
            by true e = inl (eqb-true c b e)
            by false e = inr (make_visited s b (sym (k.reached b) ∙ visited_reached u b y) (sym (waits_then b false e) ∙ visited_rests u b y))

    -- all values that waited were taken, and what they call for was met
    module _ (taken users short : List ℕ) (constraints : List Constraint) (u m s' : Tables) (k : PopsValues taken s u) (edges : FeasibleEdges) (sure : AreSurelyFeasible x t root edges) (c : AreReactions x t u edges taken users constraints) (a : IsApplied (known_constants u) constraints u m) (among : (q : ℕ) → In q short → In q users) (d : VisitsInTurn x t short m s') where
      is_seen : (q : ℕ) → WasVisited t u q → (b : ℕ) × (parent_of t q ≡ Some b) × IsTrue (is_visited s b)
      is_seen q y = (y.block, y.in_block, make_visited s y.block (sym (k.reached y.block) ∙ y.reached) (sym (k.blocks y.block) ∙ y.taken))

      before : IsOn x t root (lattice_values_of s) (is_visited s) (lattice_values_of u)
      before = begin (is_visited s) (λ b y. y) u k.facts k.reached

      -- every closed set meets what is called for
      asked_closed : (g : LatticeValues) → AreClosed x t root g → SatisfiesAll (known_constants u) (only_inside t root g) constraints
      asked_closed g closed = c.owed (only_inside t root g) (λ q place v r o i is l at h. at_most_trans ((only_inside t root g).lattice_value v) (g.lattice_value v) (lattice_value_in u r) ((only_lower t root g).lattice_value v) (at_most_trans (g.lattice_value v) (g.lattice_value r) (lattice_value_in u r) (handed q place v r o is l at h) (operand q place r is l)))
        where
          within : (q : ℕ) → WasVisited t u q → IsInside t root q
          within q l = inside_block l.block l.in_block (inside l.block (sym (k.reached l.block) ∙ l.reached))

          operand : (q place r : ℕ) → IsUseOf t r q place → WasVisited t u q → AtMost (g.lattice_value r) (lattice_value_in u r)
          operand q place r is l =
              let j = in_slice (operands_of t q) place r is in
              (before.above g closed).facts r (made_listed t w root r (owed.defined.own_values q r (within q l) j) (w.joined.operands q r j))

          liveness : (q : ℕ) → WasVisited t u q → IsInExecutableBlock t g q
          liveness q l = (l.block, l.in_block, (before.above g closed).blocks l.block l.reached)

          at_place : (q place r : ℕ) (o : Operation) → IsUseOf t r q place → op_at t q ≡ Some o → slice_get o.operands place ≡ Some r
          at_place q place r o is at = ap (λ z. slice_get z place) (sym (op_shows t q o at).operands) ∙ is

          edge : (q place v r : ℕ) (o : Operation) → IsUseOf t r q place → WasVisited t u q → op_at t q ≡ Some o → (f : Forwarded x t o place v) → IsOpenEdge x u edges o q f.block → AtMost (g.lattice_value v) (g.lattice_value r)
          edge q place v r o is l at f clear =
              (closed.branches q f.edge f.block o (liveness q l) at f.branch (⊎_elim (λ none. (f.successor, λ folds. absurd (true≢false (sym folds ∙ none)))) (λ y. sure q f.block y.1 g closed f.edge o at f.successor) clear)).1 f.index v r f.is_argument (picked_in (x.meaning.forwarded (shape_of x.meaning t o) f.edge) o.operands f.index place r f.forwards (at_place q place r o is at))

          named : (q place v r : ℕ) (o : Operation) → IsUseOf t r q place → WasVisited t u q → op_at t q ≡ Some o → IsNamedArgument x t o place v → AtMost (g.lattice_value v) (g.lattice_value r)
          named q place v r o is l at n =
              let below = (closed.entries q n.region n.key n.entry o (liveness q l) at n.in_place n.first).1 n.index v n.is_argument in
              subst (λ z. IsBelowNamed g.lattice_value g.lattice_value o.operands z v) n.names below r (at_place q place r o is at)

          handed : (q place v r : ℕ) (o : Operation) → IsUseOf t r q place → WasVisited t u q → op_at t q ≡ Some o → IsPropagatedEagerly x t u edges o q place v → AtMost (g.lattice_value v) (g.lattice_value r)
          handed q place v r o is l at (inl h) = edge q place v r o is l at h.0 h.1
          handed q place v r o is l at (inr h) = named q place v r o is l at h

      after : IsOn x t root (lattice_values_of s) (is_visited s) (lattice_values_of m)
      after = record {
        below = below_trans (lattice_values_of m) (lattice_values_of u) (lattice_values_of s) a.lowered.below before.below;
        above = λ g closed. only_above t root g (lattice_values_of m) (a.least (only_inside t root g) (only_below t root g (lattice_values_of u) (before.above g closed)) (asked_closed g closed));
        ways = λ b r. before.ways b (back b r);
        held = λ b q r e. before.held b q (back b r) e;
        arguments = λ b v r i. below_undetermined (lattice_value_in u v) (lattice_value_in m v) (a.lowered.below.lattice_value v) (before.arguments b v (back b r) i);
      }
        where
          back : (b : ℕ) → IsTrue (is_executable m b) → IsTrue (is_executable u b)
          back b r = reached_before x t edges taken users constraints s u m k c a b r

      pub values_best : IsBest x t root s'
      values_best =
          let r = through_users (lattice_values_of s) (is_visited s) (is_visited s) inside best.grounded best.ready (λ b y. y) short m s' d (λ q i. is_seen q (c.only q (among q i)).0) after in
          let lowered = falls_trans u m s' a.lowered (through_falls x t short m s' d) in
          finish (lattice_values_of s) (is_visited s) (is_visited s) inside best.grounded best.ready (λ b y. y) s' r
          (λ b y. visited_still u s' lowered b (make_visited u b (k.reached b ∙ visited_reached s b y) (k.blocks b ∙ visited_rests s b y)))
          (λ b y. let z = visited_before u s' lowered b y in make_visited s b (sym (k.reached b) ∙ visited_reached u b z) (sym (k.blocks b) ∙ visited_rests u b z))
          (λ b q v y p i. below_undetermined (lattice_value_in s v) (lattice_value_in s' v) (r.below.lattice_value v) (best.ready.results b q v y p i))

    -- one that was deferred was visited
    pub aside_kept : (k : ℕ) (edges edges' : FeasibleEdges) → WasVisited t s k → KeepsFeasible x t (lattice_values_of s) k edges edges' → AreSurelyFeasible x t root edges → AreSurelyFeasible x t root edges'
    aside_kept k edges edges' l keeps sure =
        let came = make_visited s l.block l.reached l.taken in
        let split = split_at k (body_of t l.block) (w.bodies.listed k l.block l.in_block) in
        one_kept (lattice_values_of s) (is_visited s) (is_visited s) inside best.grounded best.ready (λ b y. y) k l.block split.0 split.1 s edges edges' keeps
        (user_next (lattice_values_of s) (is_visited s) (is_visited s) inside best.grounded best.ready (λ b y. y) k l.block s l.in_block came (begin (is_visited s) (λ b y. y) s (λ v. refl) (λ b. refl)))
        sure

    pub aside_best : (k : ℕ) (s' : Tables) → WasVisited t s k → VisitsOperation x t k s s' → IsBest x t root s'
    aside_best k s' l visits =
        let here : (b : ℕ) × (parent_of t k ≡ Some b) × IsTrue (is_visited s b) = (l.block, l.in_block, make_visited s l.block l.reached l.taken) in
        let r = through_users (lattice_values_of s) (is_visited s) (is_visited s) inside best.grounded best.ready (λ b y. y) (k ∷ []) s s' (Then k s' visits Nothing) (λ q i. ⊎_elim (λ e. subst (λ z. (b : ℕ) × (parent_of t z ≡ Some b) × IsTrue (is_visited s b)) (sym e) here) (λ n. absurd n) i) (begin (is_visited s) (λ b y. y) s (λ v. refl) (λ b. refl)) in
        finish (lattice_values_of s) (is_visited s) (is_visited s) inside best.grounded best.ready (λ b y. y) s' r (visited_still s s' visits.applied.lowered) (visited_before s s' visits.applied.lowered)
        (λ b q v y p i. below_undetermined (lattice_value_in s v) (lattice_value_in s' v) (r.below.lattice_value v) (best.ready.results b q v y p i))

  pub step_best : (s s' : Tables) (z z' : DeferredOperations) (edges edges' : FeasibleEdges) (taken : ℕ) → TakesTurn x t s s' z z' edges edges' taken → IsSearchOnTheWay x t root s z → IsBest x t root s → AreSurelyFeasible x t root edges → IsBest x t root s' × AreSurelyFeasible x t root edges'
  step_best s s' z z' edges edges' taken (Block c u k d same e) o best sure = block_best s best o.started.inside c u s' edges edges' k (o.waits.blocks c k.waited).1 d sure
  step_best s s' z z' edges edges' taken (Values none v kept) o best sure = (
    values_best s best o.started.inside v.takes.values v.users v.sees.short v.constraints v.between v.met s' v.takes.takes edges sure v.takes.calls v.applied v.sees.among v.sees.visits,
    subst (AreSurelyFeasible x t root) (sym kept) sure,
  )

  -- where the entries of the root were entered and nothing was visited
  module _ (s : Tables) (start : IsStarted t root s) where
    entered : ConstrainsEntries t root (lattice_values_of s)
    entered = (start.asks (lattice_values_of s)).0 start.applied.met

    above_start : (g : LatticeValues) → AreClosed x t root g → IsHigher t root (lattice_values_of s) g
    above_start g closed =
        only_above t root g (lattice_values_of s) (start.applied.least (only_inside t root g)
        (only_below t root g (lattice_values_of start.before) (record { blocks = λ b r. absurd (true≢false (sym r ∙ start.unsearched.reached b)); facts = λ v i. inl (start.unsearched.inside v i) }))
        ((start.asks (only_inside t root g)).1 (λ r b i e. let y = closed.root_entries r b i e in (y.0, λ v j. by v (lists (values_inside t root) v) (y.1 v j)))))
      where
        by : (v : ℕ) (z : Bool) → g.lattice_value v ≡ NotAConstant → (if z then g.lattice_value v else NotAConstant) ≡ NotAConstant
        by v true e = e
        by v false e = refl

    -- only these entries are reached
    abbrev trial : LatticeValues
    trial = record { is_executable = λ b. lists (entries_of t root) b; lattice_value = λ v. lattice_value_in s v }

    is_entry : (b : ℕ) → IsTrue (is_executable s b) → (r : ℕ) × In r (regions_of t root) × (first_of (layout_of t r) None ≡ Some b)
    is_entry b y =
        let least = start.applied.least trial
        (record { is_executable = λ c z. absurd (true≢false (sym z ∙ start.unsearched.reached c)); lattice_value = start.applied.lowered.below.lattice_value })
        ((start.asks trial).1 (λ r c i e. (in_lists (entries_of t root) c (In-flat_map (λ r. first_blocks (layout_of t r)) (regions_of t root) r c i (first_in (layout_of t r) c e)), (entered r c i e).1))) in
        let r = flat_map-In (λ r. first_blocks (layout_of t r)) (regions_of t root) b (lists_in (entries_of t root) b (least.is_executable b y)) in
        (r.0, r.1, in_first (layout_of t r.0) b r.2)

    unvisited : (b : ℕ) → IsTrue (is_visited s b) → ⊥
    unvisited b y = ⊎_elim
        (λ old. true≢false (sym old ∙ start.unsearched.reached b))
        (λ waits. true≢false (sym waits ∙ visited_rests s b y))
        (start.applied.lowered.entered b (visited_reached s b y))

    pub start_best : IsBest x t root s
    start_best = record {
      grounded = record {
        ways = λ b y.
            let r = is_entry b y in
            record {
              region = r.0;
              in_region = w.layouts.owned b r.0 (first_of-In b (layout_of t r.0) r.2);
              entry = b;
              entry_first = r.2;
              before = [];
              path = refl;
              all_visited = λ d j. absurd j;
            };
        held = λ b k y e. let r = is_entry b y in inl (some_is (sym e ∙ held_directly t w root r.0 b r.1 (first_of-In b (layout_of t r.0) r.2)));
        reached = λ b y. visited_reached s b y;
      };
      ready = record {
        arguments = λ b v y i. let r = is_entry b y in varying (lattice_value_in s v) ((entered r.0 b r.1 r.2).1 v i);
        results = λ b k v y. absurd (unvisited b y);
      };
      above = above_start;
    }

  -- where nothing waits any more the facts are the most precise ones
  pub best_precise : (s : Tables) → AreWorklistsEmpty s → AreClosed x t root (lattice_values_of s) → IsBest x t root s → AreMostPrecise x t root (lattice_values_of s)
  best_precise s done closed best = record {
    closed = closed;
    blocks = λ g other b r. (best.above g other).blocks b r;
    constants = λ g other v c made e. constant_kept (g.lattice_value v) (lattice_value_in s v) c ((best.above g other).facts v (listed v made)) e (known v made);
  }
    where
      constant_kept : (g f : LatticeValue) (c : AttrObj) → AtMost g f → g ≡ Constant c → f ≢ Undetermined → f ≡ Constant c
      constant_kept g f c (inl u) e some = absurd (some u)
      constant_kept g f c (inr (inl n)) e some = let y : Constant c ≡ NotAConstant = sym e ∙ n in absurd (grind arith)
      constant_kept g f c (inr (inr same)) e some = sym same ∙ e

      listed : (v : ℕ) → IsMadeThere t (lattice_values_of s) v → In v (values_inside t root)
      listed v (inl (k, (b, p, r), i)) = result_listed t w root b k v (holds_listed t w root b (closed.inside b r)) p i
      listed v (inr (b, r, i)) = argument_listed t w root b v (holds_listed t w root b (closed.inside b r)) i

      known : (v : ℕ) → IsMadeThere t (lattice_values_of s) v → lattice_value_in s v ≢ Undetermined
      known v (inl (k, (b, p, r), i)) = best.ready.results b k v (make_visited s b r (done.blocks b)) p i
      known v (inr (b, r, i)) = best.ready.arguments b v r i
