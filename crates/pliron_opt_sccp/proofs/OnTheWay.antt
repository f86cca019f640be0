-- What the search for facts knows holds at its start and after each step, and at its end the facts are closed.
use Rattle.std.proofs.Common.{◌≡◌, ◌⊎◌, inl, inr, ⊎_elim, ℕ, zero, suc, ◌+◌, ◌*◌, ◌-◌, ◌≤◌, ◌<◌, ◌^◌, true, false, true≢false, not, List, [], ◌∷◌, length, Option, Some, None, slice_index_or, refl, sym, ap, ◌∙◌, subst, arith, IsTrue}
use Rattle.std.specs.List.{flat_map}
use Rattle.std.proofs.lemmas.Bool.{eq-eqb}
use Rattle.std.proofs.lemmas.Option.{slice_get_within}
use Rattle.pliron_core.specs.Lists.{In}
use Rattle.pliron_core.specs.Tree.{Tree, IsDefined, IsMadeBy, IsLive, IsBlock, HoldsBlock, IsInside, results_of, arguments_of, parent_of, body_of, layout_of, definition_of, successors_of, block_parent_of, block_parent_operation_of, region_parent_of, up_from}
use Rattle.pliron_core.specs.Invariant.{IsTree, HaveFewKeys}
use Rattle.pliron_core.specs.Changes.{IsDefinedInside, IsDefiningOperationInside}
use Rattle.pliron_core.proofs.FlatLemmas.{In-flat_map, flat_map-In, slice_get-In}
use Rattle.pliron_core.proofs.ListLemmas.{decide_in, In-cases, distinct-length}
use Rattle.pliron_core.proofs.NeighbourLemmas.{first_of-In}
use Rattle.pliron_core.proofs.HoldingLemmas.{some_is, some_of, not_none, inside_block}
use Rattle.pliron_laws.specs.Linked.{IsWellLinked, EdgesLast}
use Rattle.pliron_laws.specs.Folding.{AnswersTrue}
use Rattle.pliron_theory.specs.LatticeValues.{LatticeValues, Says, AreClosed, AreHeld}
use Rattle.pliron_opt_sccp.specs.declared.lattice_tables.Tables.{Tables}
use Rattle.pliron_opt_sccp.specs.declared.deferred.DeferredOperations.{DeferredOperations}
use Rattle.pliron_opt_sccp.specs.declared.feasible_edges.FeasibleEdges.{FeasibleEdges}
use Rattle.pliron_opt_sccp.specs.declared.constraints.Constraint.{Constraint}
use Rattle.pliron_opt_sccp.specs.Lowering.{ValuesAreLowered, IsApplied}
use Rattle.pliron_laws.specs.Tree.{Operation}
use Rattle.pliron_opt_sccp.specs.LatticeTables.{lattice_value_in, known_constants, is_executable, lattice_values_of, StampsEachLowered, PopsBlock}
use Rattle.pliron_opt_sccp.specs.Chain.{blocks_inside}
use Rattle.pliron_opt_sccp.specs.Inside.{block_values, values_inside}
use Rattle.pliron_opt_sccp.specs.Constraints.{ConstrainsEntries}
use Rattle.pliron_opt_sccp.specs.Settling.{AreAtMost, AreStarted, IsSettled}
use Rattle.pliron_opt_sccp.specs.Deferring.{deferred_operations, PopsDeferred}
use Rattle.pliron_opt_sccp.specs.OperationVisits.{AreReactions, AreTargetsNumbered, VisitsOperation, VisitsInTurn, PopsValues}
use Rattle.pliron_opt_sccp.specs.OperationVisits.VisitsInTurn.{Nothing, Then}
use Rattle.pliron_opt_sccp.specs.Feasible.{leads}
use Rattle.pliron_opt_sccp.specs.Starting.{IsStarted}
use Rattle.pliron_opt_sccp.specs.Fixpoint.{IsSearched}
use Rattle.pliron_opt_sccp.specs.Searching.{VisitsDeferred, VisitsOrDefersAll, TakesTurn, VisitsValues, IsSearchOnTheWay, IsSearching}
use Rattle.pliron_opt_sccp.specs.Searching.TakesTurn.{Block, Values}
use Rattle.pliron_opt_sccp.specs.WorklistCounts.{IsAccounted, AreKnownThere, AreWorklistsEmpty}
use Rattle.pliron_opt_sccp.proofs.DistinctLists.{held_directly, below_held, distinct-blocks, distinct-values}
use Rattle.pliron_opt_sccp.proofs.DistinctLists.{inside_block as stands_inside}
use Rattle.pliron_opt_sccp.proofs.InsideLists.{holds_listed}
use Rattle.pliron_opt_sccp.proofs.Settled.{entered_still, varies_still, closed_when_settled}
use Rattle.pliron_opt_sccp.proofs.Stepping.{entries_of, others_reached, entry_apart, entry_held, all_but_one, argument_but, below_but, unknown_but, below_same, IsSettledIn, AreSettledIn, settled_wider, through_settles, through_falls, looks_only, block_settles, look_starts, look_holds, look_known}
use Rattle.pliron_opt_sccp.proofs.Applied.{falls_trans}
use Rattle.pliron_opt_sccp.proofs.DeferredVisits.{aside_block, aside_then, aside_values}
use Rattle.pliron_opt_sccp.proofs.ReactionSteps.{values_settle, reached_before, called_aside, called_starts, called_known, nothing_called}
use Rattle.pliron_opt_sccp.proofs.BestVisit.{PassesItsOperands}
use Rattle.pliron_opt_sccp.proofs.BestSteps.{start_best, step_best, aside_best, aside_kept, best_precise}
use Rattle.pliron_opt_sccp.proofs.Accounting.{unsearched_accounted, unsearched_inside, falls_accounted, falls_inside, block_accounted, values_accounted, block_inside, values_kept_inside, accounted_bound, accounted_counts}

-- a value that a block inside the root lists is defined inside it
pub listed_inside : (t : Tree) (w : IsTree t) (root v : ℕ) → In v (values_inside t root) → IsDefinedInside t root v
listed_inside t w root v i =
    let b = flat_map-In (λ b. block_values t b) (blocks_inside t root) v i in
    let h : HoldsBlock t root b.0 = below_held t w (length t.operations) root b.0 b.1 in
    ⊎_elim (λ j. argument b.0 h j) (λ j. result b.0 h j) (In-cases v (arguments_of t b.0) (flat_map (λ k. results_of t k) (body_of t b.0)) b.2)
  where
    argument : (b : ℕ) → HoldsBlock t root b → In v (arguments_of t b) → IsDefinedInside t root v
    argument b h j =
        let s = slice_get-In v (arguments_of t b) j in
        subst (IsDefiningOperationInside t root) (sym (w.joined.arguments b s.0 v s.1)) h

    result : (b : ℕ) → HoldsBlock t root b → In v (flat_map (λ k. results_of t k) (body_of t b)) → IsDefinedInside t root v
    result b h j =
        let k = flat_map-In (λ k. results_of t k) (body_of t b) v j in
        let s = slice_get-In v (results_of t k.0) k.2 in
        subst (IsDefiningOperationInside t root) (sym (w.joined.results k.0 s.0 v s.1)) (inside_block b (w.bodies.owned k.0 b k.1) h)

-- and it is live
pub listed_defined : (t : Tree) (w : IsTree t) (root v : ℕ) → In v (values_inside t root) → IsDefined t v
listed_defined t w root v i =
    let b = flat_map-In (λ b. block_values t b) (blocks_inside t root) v i in
    ⊎_elim
    (λ j. let s = slice_get-In v (arguments_of t b.0) j in subst (IsMadeBy t v) (sym (w.joined.arguments b.0 s.0 v s.1)) s.1)
    (λ j. let k = flat_map-In (λ k. results_of t k) (body_of t b.0) v j in let s = slice_get-In v (results_of t k.0) k.2 in subst (IsMadeBy t v) (sym (w.joined.results k.0 s.0 v s.1)) s.1)
    (In-cases v (arguments_of t b.0) (flat_map (λ k. results_of t k) (body_of t b.0)) b.2)

-- what was taken counts more than what is deferred
pub fewer : (all pops taken old new : ℕ) → pops + taken ≤ all → 0 < taken → new < old + 2 ^ 64 → (all - (pops + taken)) * 2 ^ 64 + new < (all - pops) * 2 ^ 64 + old
fewer all pops taken old new l some few = omega (arith, l, some, few)

pub more_by : (most old new : ℕ) → old < new → most + old < most + new
more_by most old new l = omega (arith, l)

-- what is reached is laid out as closed facts owe
pub record IsLaidOut (t : Tree) (root : ℕ) (s : Tables) : Type 0 where
  pub started : AreStarted t root (lattice_values_of s)
  pub held : AreHeld t root (lattice_values_of s)
  pub there : AreKnownThere t root s

module _ (x : Says) (t : Tree) (root : ℕ) (w : IsTree t) (live : IsLive t root) where
  reached_listed : (s : Tables) → AreStarted t root (lattice_values_of s) → (b : ℕ) → IsTrue (is_executable s b) → In b (blocks_inside t root)
  reached_listed s started b r = holds_listed t w root b (started.inside b r)

  -- at the start
  module _ (s : Tables) (start : IsStarted t root s) where
    entered : ConstrainsEntries t root (lattice_values_of s)
    entered = (start.asks (lattice_values_of s)).0 start.applied.met

    came : (b : ℕ) → is_executable s b ≡ true → In b (entries_of t root)
    came b new = ⊎_elim (λ i. i) (λ none. absurd (not_else none)) (decide_in b (entries_of t root))
      where
        not_else : (In b (entries_of t root) → ⊥) → ⊥
        not_else none = true≢false (sym (least.is_executable b new) ∙ no_other)
          where
            g : LatticeValues
            g = others_reached b

            no_other : g.is_executable b ≡ false
            no_other = ap not (eq-eqb b b refl)

            below : AreAtMost g (lattice_values_of start.before)
            below = record { is_executable = λ z r. absurd (true≢false (sym r ∙ start.unsearched.reached z)); lattice_value = λ v. inr (inl refl) }

            least : AreAtMost g (lattice_values_of s)
            least = start.applied.least g below ((start.asks g).1 (λ r z i e. (entry_apart t root b none r z i e, λ v j. refl)))

    start_laid : IsLaidOut t root s
    start_laid = record {
      started = record {
        inside = λ b r. (root, entry_held t w root b (came b r), inl refl);
        outside = λ v n. varies_still (lattice_value_in start.before v) (lattice_value_in s v) (start.applied.lowered.below.lattice_value v) (start.unsearched.outside v (λ i. n (listed_inside t w root v i)));
        entries = entered;
      };
      held = λ b k r e. inl (some_is (sym e ∙ entry_held t w root b (came b r)));
      there = known;
    }
      where
        none_before : (z : ℕ) → is_executable start.before z ≡ true → is_executable s z ≡ true
        none_before z r = absurd (true≢false (sym r ∙ start.unsearched.reached z))

        known : AreKnownThere t root s
        known b v inside listed none =
            let unknown = start.unsearched.inside v (in_values b v inside listed) in
            let g = all_but_one t w start.before s b v listed none unknown none_before in
            unknown_but t w start.before s b v listed none unknown none_before
            (start.applied.least g (below_but t w start.before s b v listed none unknown none_before) ((start.asks g).1 (λ r z i e. let y = entered r z i e in (y.0, λ a j. argument_but t w start.before s b v listed none unknown none_before a z j y.0))))
          where
            in_values : (b v : ℕ) → In b (blocks_inside t root) → In v (block_values t b) → In v (values_inside t root)
            in_values b v i j = In-flat_map (λ b. block_values t b) (blocks_inside t root) b v i j

    pub start_on_way : (z : DeferredOperations) → deferred_operations z ≡ [] → IsSearchOnTheWay x t root s z
    start_on_way z none = record {
      deferral = λ k i. absurd (subst (In k) none i);
      numbered = λ b i. start.applied.lowered.numbers b ∙ start.unsearched.numbered b i;
      settled = λ k b o p r at. ⊎_elim (λ old. absurd (true≢false (sym old ∙ start.unsearched.reached b))) (λ waits. inl waits) (start.applied.lowered.entered b r);
      started = start_laid.started;
      held = start_laid.held;
      there = start_laid.there;
      waits = falls_inside t root start.before s (unsearched_inside t root start.before start.unsearched) start.applied.lowered (reached_listed s start_laid.started);
    }

    pub start_accounted : IsAccounted t root s 0
    start_accounted = falls_accounted t root start.before s 0 (unsearched_inside t root start.before start.unsearched) start.applied.lowered (unsearched_accounted t root start.before start.unsearched)

  -- where the tables say the same of facts
  laid_same : (s u : Tables) → ((v : ℕ) → lattice_value_in u v ≡ lattice_value_in s v) → ((b : ℕ) → is_executable u b ≡ is_executable s b) → IsLaidOut t root s → IsLaidOut t root u
  laid_same s u facts reached l = record {
    started = record {
      inside = λ b r. l.started.inside b (sym (reached b) ∙ r);
      outside = λ v n. facts v ∙ l.started.outside v n;
      entries = λ r b i e. entered_still x t (lattice_values_of s) (lattice_values_of u) b (below_same s u facts reached) (l.started.entries r b i e);
    };
    held = λ b k r e. ⊎_elim (λ h. inl h) (λ y. inr (y.0, y.1, reached y.0 ∙ y.2)) (l.held b k (sym (reached b) ∙ r) e);
    there = λ b v i j none. facts v ∙ l.there b v i j (sym (reached b) ∙ none);
  }

  module _ (last : EdgesLast t root) where
    through_laid : (ks : List ℕ) (s u : Tables) → VisitsInTurn x t ks s u → ((k : ℕ) → In k ks → (c : ℕ) × (parent_of t k ≡ Some c) × (is_executable s c ≡ true)) → IsLaidOut t root s → IsLaidOut t root u
    through_laid [] s u Nothing placed l = l
    through_laid (k ∷ ks) s u (Then _ q a d) placed l =
        let p = placed k (inl refl) in
        through_laid ks q u d
        (λ j i. let y = placed j (inr i) in (y.0, y.1, a.applied.lowered.below.is_executable y.0 y.2))
        (record {
          started = look_starts x t root w last k p.0 s q a p.1 p.2 l.started;
          held = look_holds x t root w last k p.0 s q a p.1 p.2 l.started l.held;
          there = look_known x t root w last k p.0 s q a p.1 p.2 l.started l.there;
        })

    laid_of : (s : Tables) (z : DeferredOperations) → IsSearchOnTheWay x t root s z → IsLaidOut t root s
    laid_of s z o = record { started = o.started; held = o.held; there = o.there }

    -- a block was taken and visited
    pub block_on_way : (c : ℕ) (s u s' : Tables) (z : DeferredOperations) → PopsBlock c s u → VisitsInTurn x t (body_of t c) u s' → IsSearchOnTheWay x t root s z → IsSearchOnTheWay x t root s' z
    block_on_way c s u s' z k d o =
        let l = through_laid (body_of t c) u s' d (λ j i. (c, w.bodies.owned j c i, k.reached c ∙ (o.waits.blocks c k.waited).1)) (laid_same s u k.facts k.reached (laid_of s z o)) in
        let lowered = through_falls x t (body_of t c) u s' d in
        record {
          numbered = λ b i. lowered.numbers b ∙ k.numbers b ∙ o.numbered b i;
          settled = through_settles x t (λ j. In j (deferred_operations z)) (body_of t c) u s' d (block_settles x t w (λ j. In j (deferred_operations z)) c s u k o.settled);
          deferral = λ j i. aside_then x t u s' j lowered (aside_block x t c s u j k (o.deferral j i));
          started = l.started;
          held = l.held;
          there = l.there;
          waits = falls_inside t root u s' (block_inside t root c s u o.waits k) lowered (reached_listed s' l.started);
        }

    -- all values were taken, and what they call for was met
    module _ (values users : List ℕ) (constraints : List Constraint) (s u q s' : Tables) (z z' : DeferredOperations) (k : PopsValues values s u) (edges : FeasibleEdges) (c : AreReactions x t u edges values users constraints) (a : IsApplied (known_constants u) constraints u q) (v : VisitsOrDefersAll x t users q s' z z') where
      pub called_falls : ValuesAreLowered u s'
      called_falls = falls_trans u q s' a.lowered (through_falls x t v.short q s' v.visits)

      called_laid : IsSearchOnTheWay x t root s z → IsLaidOut t root q
      called_laid o =
          let l = laid_same s u k.facts k.reached (laid_of s z o) in
          record {
            started = called_starts x t edges values users constraints s u q k c a root l.started;
            held = λ b h r e. ⊎_elim (λ y. inl y) (λ y. inr (y.0, y.1, a.lowered.below.is_executable y.0 y.2)) (l.held b h (reached_before x t edges values users constraints s u q k c a b r) e);
            there = called_known x t edges values users constraints s u q k c a (λ j. In j (deferred_operations z)) o.settled o.deferral w root l.there;
          }

      -- users are visited or deferred
      users_settle : StampsEachLowered u q → IsSearchOnTheWay x t root s z → AreSettledIn x t s' (λ j. In j (deferred_operations z'))
      users_settle stamped o =
          through_settles x t (λ j. In j (deferred_operations z')) v.short q s' v.visits
          (settled_wider x t (λ j. In j users ⊎ In j (deferred_operations z)) (λ j. In j v.short ⊎ In j (deferred_operations z')) q
          (λ j y. ⊎_elim (λ i. v.seen j i) (λ i. inr (v.kept j i)) y)
          (values_settle x t edges values users constraints s u q k c a stamped (λ j. In j (deferred_operations z)) o.settled))

      pub values_on_way : StampsEachLowered u q → IsSearchOnTheWay x t root s z → IsSearchOnTheWay x t root s' z'
      values_on_way stamped o =
          let l = through_laid v.short q s' v.visits (λ j i. let y = (c.only j (v.among j i)).0 in (y.block, y.in_block, a.lowered.below.is_executable y.block y.reached)) (called_laid o) in
          record {
            numbered = λ b i. called_falls.numbers b ∙ k.numbers b ∙ o.numbered b i;
            settled = users_settle stamped o;
            deferral = λ j i. aside_then x t u s' j called_falls (⊎_elim
                (λ old. aside_values x t values s u j k (o.deferral j old))
                (λ new. called_aside x t edges values users constraints s u q k c a (λ j. In j (deferred_operations z)) o.settled o.deferral j new)
                (v.only j i));
            started = l.started;
            held = l.held;
            there = l.there;
            waits = falls_inside t root u s' (values_kept_inside t root values s u o.waits k) called_falls (reached_listed s' l.started);
          }

    pub step_on_way : (s s' : Tables) (z z' : DeferredOperations) (edges edges' : FeasibleEdges) (taken : ℕ) → TakesTurn x t s s' z z' edges edges' taken → IsSearchOnTheWay x t root s z → IsSearchOnTheWay x t root s' z'
    step_on_way s s' z z' edges edges' taken (Block c u k d same e) o = subst (IsSearchOnTheWay x t root s') (sym same) (block_on_way c s u s' z k (looks_only x t (body_of t c) u s' edges edges' d) o)
    step_on_way s s' z z' edges edges' taken (Values none v kept) o = values_on_way v.takes.values v.users v.constraints s v.between v.met s' z z' v.takes.takes edges v.takes.calls v.applied v.sees v.stamped o

    pub step_accounted : (s s' : Tables) (z z' : DeferredOperations) (edges edges' : FeasibleEdges) (pops taken : ℕ) → TakesTurn x t s s' z z' edges edges' taken → IsSearchOnTheWay x t root s z → IsAccounted t root s pops → IsAccounted t root s' (pops + taken)
    step_accounted s s' z z' edges edges' pops taken (Block c u k d same e) o a =
        subst (λ n. IsAccounted t root s' (pops + n)) (sym e)
        (falls_accounted t root u s' (pops + 1) (block_inside t root c s u o.waits k) (through_falls x t (body_of t c) u s' (looks_only x t (body_of t c) u s' edges edges' d)) (block_accounted t root w c s u pops o.waits k a))
    step_accounted s s' z z' edges edges' pops taken (Values none v kept) o a =
        subst (λ n. IsAccounted t root s' (pops + n)) (sym v.takes.counted)
        (falls_accounted t root v.between s' (pops + length v.takes.values) (values_kept_inside t root v.takes.values s v.between o.waits v.takes.takes) (called_falls v.takes.values v.users v.constraints s v.between v.met s' z z' v.takes.takes edges v.takes.calls v.applied v.sees) (values_accounted t root w v.takes.values s v.between pops o.waits v.takes.takes a))

    -- one that was deferred was visited
    pub aside_on_way : (k : ℕ) (s s' : Tables) (z z' : DeferredOperations) → PopsDeferred k (deferred_operations z) (deferred_operations z') → VisitsOperation x t k s s' → IsSearchOnTheWay x t root s z → IsSearchOnTheWay x t root s' z'
    aside_on_way k s s' z z' taken visits o =
        let p = (o.deferral k taken.was).was_visited in
        let here : (c : ℕ) × (parent_of t k ≡ Some c) × (is_executable s c ≡ true) = (p.block, p.in_block, p.reached) in
        let lowered = visits.applied.lowered in
        let l = through_laid (k ∷ []) s s' (Then k s' visits Nothing) (λ j i. ⊎_elim (λ e. subst (λ q. (c : ℕ) × (parent_of t q ≡ Some c) × (is_executable s c ≡ true)) (sym e) here) (λ n. absurd n) i) (laid_of s z o) in
        record {
          numbered = λ b i. lowered.numbers b ∙ o.numbered b i;
          settled =
              through_settles x t (λ j. In j (deferred_operations z')) (k ∷ []) s s' (Then k s' visits Nothing)
              (settled_wider x t (λ j. In j (deferred_operations z)) (λ j. In j (k ∷ []) ⊎ In j (deferred_operations z')) s (λ j i. ⊎_elim (λ q. inr q) (λ e. inl (inl e)) (taken.others j i)) o.settled);
          deferral = λ j i. aside_then x t s s' j lowered (o.deferral j (taken.only j i));
          started = l.started;
          held = l.held;
          there = l.there;
          waits = falls_inside t root s s' o.waits lowered (reached_listed s' l.started);
        }

  -- the blocks that an operation in a block that is reached may enter have numbers
  pub targets_numbered : EdgesLast t root → (s : Tables) (z : DeferredOperations) → IsSearchOnTheWay x t root s z → AreTargetsNumbered t s
  targets_numbered edges s z o k b placed reached = record {
    entries = λ r e i first. o.numbered e (holds_listed t w root e (k, held_directly t w k r e i (first_of-In e (layout_of t r) first), inr within));
    successors = λ e i. let h = holds in o.numbered e (holds_listed t w root e (h.0, beside e i ∙ h.1, h.2));
  }
    where
      holds : HoldsBlock t root b
      holds = o.started.inside b reached

      within : IsInside t root k
      within = inside_block b placed holds

      beside : (e : ℕ) → In e (successors_of t k) → block_parent_operation_of t e ≡ block_parent_operation_of t b
      beside e i = ap (λ q. up_from q (λ r. region_parent_of t r)) ((edges k e i (inl within)).own_region e i ∙ ap (block_parent_of t) (some_is (sym (edges k e i (inl within)).in_block ∙ placed)))

  one_is_none : ◌≡◌ {A = ℕ} 1 0 → ⊥
  one_is_none e = omega (arith, e)

  -- where no value was taken no user is seen to
  no_users : (s s' : Tables) (z z' : DeferredOperations) (edges : FeasibleEdges) → (v : VisitsValues x t edges s s' z z' 0) → (v.takes.values ≡ []) × (v.users ≡ [])
  no_users s s' z z' edges v = (are_none, none_of v.users v.takes.calls)
    where
      no_values : (vs : List ℕ) → length vs ≡ 0 → vs ≡ []
      no_values [] e = refl
      no_values (y ∷ ys) e = absurd (omega (arith, e))

      are_none : v.takes.values ≡ []
      are_none = no_values v.takes.values (sym v.takes.counted)

      none_of : (us : List ℕ) → AreReactions x t v.between edges v.takes.values us v.constraints → us ≡ []
      none_of [] c = refl
      none_of (k ∷ us) c = let y = (c.only k (inl refl)).1 in absurd (subst (In y.0) are_none y.1)

  -- where nothing was taken nothing waits
  pub nothing_waits : (s s' : Tables) (z z' : DeferredOperations) (edges edges' : FeasibleEdges) → TakesTurn x t s s' z z' edges edges' 0 → AreWorklistsEmpty s'
  nothing_waits s s' z z' edges edges' (Block c u k d same e) = absurd (one_is_none (sym e))
  nothing_waits s s' z z' edges edges' (Values none v kept) =
      let n = no_users s s' z z' edges v in
      subst AreWorklistsEmpty (sym (same_tables v.sees.short s' v.sees.visits (λ k i. subst (In k) n.1 (v.sees.among k i)))) (nothing_called x t edges v.takes.values v.users v.constraints s v.between v.met v.takes.takes v.takes.calls v.applied n.0 none)
    where
      same_tables : (ks : List ℕ) (u : Tables) → VisitsInTurn x t ks v.met u → ((k : ℕ) → In k ks → ⊥) → u ≡ v.met
      same_tables [] u Nothing empty = refl
      same_tables (k ∷ ks) u d empty = absurd (empty k (inl refl))

  -- and no more is deferred
  pub none_put : (s s' : Tables) (z z' : DeferredOperations) (edges edges' : FeasibleEdges) → TakesTurn x t s s' z z' edges edges' 0 → length (deferred_operations z') ≤ length (deferred_operations z)
  none_put s s' z z' edges edges' (Block c u k d same e) = absurd (one_is_none (sym e))
  none_put s s' z z' edges edges' (Values none v kept) =
      let n = ap length (no_users s s' z z' edges v).1 in
      let g = v.sees.grows in
      omega (arith, n, g)

  pub few_put : (s s' : Tables) (z z' : DeferredOperations) (edges edges' : FeasibleEdges) (taken : ℕ) → TakesTurn x t s s' z z' edges edges' taken → length (deferred_operations z') < length (deferred_operations z) + 2 ^ 64
  few_put s s' z z' edges edges' taken (Block c u k d same e) = let n = ap (λ q. length (deferred_operations q)) same in omega (arith, n)
  few_put s s' z z' edges edges' taken (Values none v kept) = let g = v.sees.grows in let f = v.sees.few in omega (arith, g, f)

  pub closed_at_end : (s : Tables) (z : DeferredOperations) → AreWorklistsEmpty s → deferred_operations z ≡ [] → IsSearchOnTheWay x t root s z → AreClosed x t root (lattice_values_of s)
  closed_at_end s z done none o = closed_when_settled x t root (lattice_values_of s) o.started
      (λ k b q p r at. ⊎_elim
      (λ y. absurd (true≢false (sym y ∙ done.blocks b)))
      (λ y. ⊎_elim (λ q. inr (inl (rests q))) (λ n. absurd (subst (In k) none n)) y)
      (o.settled k b q p r at))
      w
    where
      rests : {k : ℕ} {q : Operation} → IsSettledIn x t s k q → IsSettled x t (lattice_values_of s) (λ v. ⊥) k q
      rests y = record { seen = y.seen; met = y.met; same = λ v i. ⊎_elim (λ e. inl e) (λ h. absurd (true≢false (sym h.0 ∙ done.values v))) (y.same v i) }

  -- there are few blocks and values
  pub few_blocks : HaveFewKeys t → length (blocks_inside t root) < 2 ^ 64
  few_blocks few =
      let n = distinct-length (length t.bodies) (blocks_inside t root) (distinct-blocks t w root) (λ b i. block_below b (stands_inside t w root b i)) in
      omega (arith, n, few.blocks)
    where
      block_below : (b : ℕ) → IsBlock t b → b < length t.bodies
      block_below b is =
          let p = some_of _ is in
          let l = past t.block_parents b p.0 p.1 in
          omega (arith, l, w.keys.block_parents)
        where
          past : (ps : List (Option ℕ)) (b r : ℕ) → slice_index_or ps b None ≡ Some r → b < length ps
          past [] b r e = absurd (not_none e)
          past (p ∷ ps) zero r e = omega arith
          past (p ∷ ps) (suc b) r e = let l = past ps b r e in omega (arith, l)

  pub few_values : HaveFewKeys t → length (values_inside t root) < 2 ^ 64
  few_values few =
      let n = distinct-length (length t.definitions) (values_inside t root) (distinct-values t w root) (λ v i. value_below v (listed_inside t w root v i)) in
      omega (arith, n, few.values)
    where
      value_below : (v : ℕ) → IsDefinedInside t root v → v < length t.definitions
      value_below v m = by (definition_of t v) refl m
        where
          by : (o : _) → definition_of t v ≡ o → IsDefiningOperationInside t root o → v < length t.definitions
          by None e z = absurd z
          by (Some d) e z = slice_get_within t.definitions v d e

  -- between the steps
  pub few_to_take : HaveFewKeys t → length (blocks_inside t root) + 2 * length (values_inside t root) < 2 ^ 128
  few_to_take few = let b = few_blocks few in let v = few_values few in omega (arith, b, v)

  module _ (linked : IsWellLinked x.meaning t root) (answers : AnswersTrue x.meaning x.can_fold x.constants) (places : PassesItsOperands x) where
    pub started_search : (s : Tables) (z : DeferredOperations) (edges : FeasibleEdges) → deferred_operations z ≡ [] → ((k b : ℕ) → leads edges k b ≡ false) → IsStarted t root s → IsSearching x t root s z edges 0
    started_search s z edges none nowhere start = record {
      way = start_on_way s start z none;
      accounted = start_accounted s start;
      best = λ owed. start_best x t root w linked answers places owed s start;
      sure = λ owed k b led. absurd (true≢false (sym led ∙ nowhere k b));
    }

    module _ (s s' : Tables) (z z' : DeferredOperations) (edges edges' : FeasibleEdges) (pops taken : ℕ) (step : TakesTurn x t s s' z z' edges edges' taken) (so_far : IsSearching x t root s z edges pops) where
      pub next_search : IsSearching x t root s' z' edges' (pops + taken)
      next_search = record {
        way = step_on_way linked.edges s s' z z' edges edges' taken step so_far.way;
        accounted = step_accounted linked.edges s s' z z' edges edges' pops taken step so_far.way so_far.accounted;
        best = λ owed. (step_best x t root w linked answers places owed s s' z z' edges edges' taken step so_far.way (so_far.best owed) (so_far.sure owed)).0;
        sure = λ owed. (step_best x t root w linked answers places owed s s' z z' edges edges' taken step so_far.way (so_far.best owed) (so_far.sure owed)).1;
      }

      pub search_bound : pops + taken ≤ length (blocks_inside t root) + 2 * length (values_inside t root)
      search_bound = accounted_bound t root s' (pops + taken) next_search.accounted

      pub fewer_left : 0 < taken → (length (blocks_inside t root) + 2 * length (values_inside t root) - (pops + taken)) * 2 ^ 64 + length (deferred_operations z') < (length (blocks_inside t root) + 2 * length (values_inside t root) - pops) * 2 ^ 64 + length (deferred_operations z)
      fewer_left some = fewer (length (blocks_inside t root) + 2 * length (values_inside t root)) pops taken (length (deferred_operations z)) (length (deferred_operations z')) search_bound some (few_put s s' z z' edges edges' taken step)

    -- where nothing was taken
    module _ (s s' : Tables) (z z' : DeferredOperations) (edges edges' : FeasibleEdges) (pops : ℕ) (step : TakesTurn x t s s' z z' edges edges' 0) (so_far : IsSearching x t root s z edges pops) where
      pub same_search : IsSearching x t root s' z' edges' pops
      same_search = let e : pops + 0 ≡ pops = omega arith in subst (IsSearching x t root s' z' edges') e (next_search s s' z z' edges edges' pops 0 step so_far)

      -- one that was deferred is visited
      module _ (u : Tables) (y : DeferredOperations) (kept : FeasibleEdges) (visits : VisitsDeferred x t s' u z' y edges' kept true) where
        pub aside_search : IsSearching x t root u y kept pops
        aside_search = record {
          way = aside_on_way linked.edges visits.0 s' u z' y visits.1 visits.2 same_search.way;
          accounted = falls_accounted t root s' u pops same_search.way.waits visits.2.applied.lowered same_search.accounted;
          best = λ owed. aside_best x t root w linked answers places owed s' (same_search.best owed) same_search.way.started.inside visits.0 u (same_search.way.deferral visits.0 visits.1.was).was_visited visits.2;
          sure = λ owed. aside_kept x t root w linked answers places owed s' (same_search.best owed) same_search.way.started.inside visits.0 edges' kept (same_search.way.deferral visits.0 visits.1.was).was_visited visits.3 (same_search.sure owed);
        }

        pub fewer_aside : length (deferred_operations y) < length (deferred_operations z)
        fewer_aside = let p = none_put s s' z z' edges edges' step in let f = visits.1.fewer in omega (arith, p, f)

      -- nothing is deferred
      pub end_search : (u : Tables) (y : DeferredOperations) (kept : FeasibleEdges) → VisitsDeferred x t s' u z' y edges' kept false → IsSearched x t root u pops
      end_search u y kept (none, same) = subst (λ q. IsSearched x t root q pops) (sym same) ended
        where
          done : AreWorklistsEmpty s'
          done = nothing_waits s s' z z' edges edges' step

          closed : AreClosed x t root (lattice_values_of s')
          closed = closed_at_end s' z' done none same_search.way

          ended : IsSearched x t root s' pops
          ended = record {
            closed = closed;
            held = same_search.way.held;
            precise = λ owed. best_precise x t root w linked answers places owed s' done closed (same_search.best owed);
            count = accounted_counts t root s' pops done same_search.way.there same_search.accounted;
          }
