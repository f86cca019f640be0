-- All values that wait are taken, and what they call for is met at once: what is known between is kept.
use Rattle.std.proofs.Common.{◌≡◌, ◌⊎◌, inl, inr, ⊎_elim, ℕ, Bool, true, false, true≢false, List, [], ◌∷◌, Option, Some, None, slice_get, refl, sym, ap, ◌∙◌, subst, IsTrue}
use Rattle.pliron_core.specs.Lists.{In}
use Rattle.pliron_core.specs.Tree.{Tree, arguments_of}
use Rattle.pliron_core.specs.Invariant.{IsTree}
use Rattle.pliron_core.proofs.ListLemmas.{decide_in}
use Rattle.pliron_core.proofs.HoldingLemmas.{in_slice, slice_in}
use Rattle.pliron_laws.specs.Tree.{Operation, op_at, shape_of}
use Rattle.pliron_laws.proofs.Records.{op_shows}
use Rattle.pliron_theory.specs.LatticeValues.{AtMost, LatticeValues, NotAConstant, Undetermined, Says, IsFeasibleEdge, IsBelowNamed}
use Rattle.pliron_theory.proofs.KnownData.{picked_at}
use Rattle.pliron_opt_sccp.specs.declared.constraints.Constraint.{Constraint}
use Rattle.pliron_opt_sccp.specs.declared.lattice_tables.Tables.{Tables}
use Rattle.pliron_opt_sccp.specs.declared.feasible_edges.FeasibleEdges.{FeasibleEdges}
use Rattle.pliron_opt_sccp.specs.LatticeTables.{known_constants, lattice_value_in, lowest_lattice_values, is_executable, is_block_on_worklist, is_value_on_worklist, lattice_values_of, StampsEachLowered}
use Rattle.pliron_opt_sccp.specs.WorklistCounts.{AreKnownThere, AreWorklistsEmpty}
use Rattle.pliron_opt_sccp.specs.Deferring.{IsDeferred}
use Rattle.pliron_opt_sccp.specs.Constraints.{CanSatisfy, SatisfiesAll}
use Rattle.pliron_opt_sccp.specs.Lowering.{IsApplied}
use Rattle.pliron_opt_sccp.specs.OperationVisits.{AreReactions, AreTargetsNumbered, Forwarded, HasNumberedTargets, IsConstrainedAt, IsVisitOutdated, IsPropagatedEagerly, WasVisited, IsNamedArgument, IsOpenEdge, PopsValues}
use Rattle.pliron_opt_sccp.specs.Settling.{IsSatisfied, AreAtMost, AreStarted}
use Rattle.pliron_opt_sccp.proofs.Applied.{at_most_both, below_refl}
use Rattle.pliron_opt_sccp.proofs.Stamps.{behind_same, told_calls}
use Rattle.pliron_opt_sccp.proofs.Settled.{met_still, entered_still, varies_still}
use Rattle.pliron_opt_sccp.proofs.Stepping.{below_same, targets_same, targets_kept, all_but_one, argument_but, below_but, unknown_but, not_yet, IsSettledIn, AreSettledIn}

-- all of these are as before, or one of them waited
same_or : {A B : ℕ → Type 0} (vs : List ℕ) → ((v : ℕ) → In v vs → A v ⊎ B v) → ((v : ℕ) → In v vs → A v) ⊎ ((v : ℕ) × In v vs × B v)
same_or [] each = inl (λ v i. absurd i)
same_or {A} {B} (x ∷ vs) each = ⊎_elim
    (λ a. ⊎_elim
    (λ all. inl (λ v i. ⊎_elim (λ e. subst A (sym e) a) (λ j. all v j) i))
    (λ b. inr (b.0, inr b.1, b.2))
    (same_or vs (λ v i. each v (inr i))))
    (λ b. inr (x, inl refl, b))
    (each x (inl refl))

-- what is called for can be met, since no block is asked for
pub can_call : (x : Says) (t : Tree) (edges : FeasibleEdges) (s : Tables) (values users : List ℕ) (constraints : List Constraint) → AreReactions x t s edges values users constraints → CanSatisfy s constraints
can_call x t edges s values users constraints c = c.owed (lowest_lattice_values s) (λ k place a v o i is l at h. inr (inl refl))

module _ (x : Says) (t : Tree) (edges : FeasibleEdges) (values users : List ℕ) (constraints : List Constraint) (s u w : Tables) (k : PopsValues values s u) (c : AreReactions x t u edges values users constraints) (a : IsApplied (known_constants u) constraints u w) where
  -- an operation that was visited and is not visited again is settled
  module _ (stamped : StampsEachLowered u w) (j b : ℕ) (o : Operation) (at : op_at t j ≡ Some o) (l : WasVisited t u j) (rests : In j users → ⊥) (y : IsSettledIn x t s j o) where
    reads : (v : ℕ) → In v o.operands → In v values × IsVisitOutdated t u j v → (place : ℕ) × (slice_get o.operands place ≡ Some v) × IsConstrainedAt x t u constraints o place v
    reads v i taken =
        let p = slice_in o.operands v i in
        (p.0, p.1, asks p.0 v taken p.1)
      where
        asks : (place v : ℕ) → In v values × IsVisitOutdated t u j v → slice_get o.operands place ≡ Some v → IsConstrainedAt x t u constraints o place v
        asks place v taken is = ⊎_elim (λ i. absurd (rests i)) (λ h. h) (c.seen j place v o taken.0 (ap (λ z. slice_get z place) (op_shows t j o at).operands ∙ is) taken.1 l at)

    falls_to : AreAtMost (lattice_values_of w) (lattice_values_of s)
    falls_to = record {
      is_executable = λ d r. a.lowered.below.is_executable d (k.reached d ∙ r);
      lattice_value = λ v. subst (AtMost (lattice_value_in w v)) (k.facts v) (a.lowered.below.lattice_value v);
    }

    still : IsSatisfied x t y.seen (lattice_values_of w) j o
    still = met_still x t y.seen (lattice_values_of s) (lattice_values_of w) j o falls_to y.met

    each : (v : ℕ) → In v o.operands → (lattice_value_in u v ≡ y.seen.lattice_value v) ⊎ (In v values × IsVisitOutdated t u j v)
    each v i = ⊎_elim (λ e. inl (k.facts v ∙ e)) (λ q. inr ((k.waited v).0 q.0, behind_same t s u k.stamps j v q.1)) (y.same v i)

    by_new : ((v : ℕ) × In v o.operands × (In v values × IsVisitOutdated t u j v)) → IsSettledIn x t w j o
    by_new (v, i, taken) = record { seen = lattice_values_of u; met = met; same = λ q h. told_calls t u w a.lowered stamped.lowered j q }
      where
        first : IsConstrainedAt x t u constraints o (reads v i taken).0 v
        first = (reads v i taken).2

        nothing_named : {a : Option ℕ} → a ≡ None → (q : ℕ) → IsBelowNamed (lattice_value_in w) y.seen.lattice_value o.operands a q → IsBelowNamed (lattice_value_in w) (lattice_value_in u) o.operands a q
        nothing_named none q m = subst (λ z. IsBelowNamed (lattice_value_in w) (lattice_value_in u) o.operands z q) (sym none) (subst (λ z. IsBelowNamed (lattice_value_in w) y.seen.lattice_value o.operands z q) none m)

        any_edge : (e d : ℕ) → IsFeasibleEdge x t (lattice_values_of u) o e d → IsFeasibleEdge x t y.seen o e d
        any_edge e d go = (go.0, λ folds. absurd (true≢false (sym folds ∙ first.no_jump)))

        met : IsSatisfied x t (lattice_values_of u) (lattice_values_of w) j o
        met = record {
          entries = λ i r b at e. let m = still.entries i r b at e in (m.0, λ index q listed. nothing_named (first.names_none i index) q (m.1 index q listed));
          branches = λ e d branch go.
              let m = still.branches e d branch (any_edge e d go) in (
                m.0,
                λ index q r listed forwards.
                    let p = picked_at (x.meaning.forwarded (shape_of x.meaning t o) e) o.operands index (Some r) forwards in
                    ⊎_elim
                    (λ same. subst (AtMost (lattice_value_in w q)) (sym same) (m.1 index q r listed forwards))
                    (λ new. asked_of p.0 r new p.2 e d index q branch go.0 listed p.1)
                    (each r (in_slice o.operands p.0 r p.2)),
              );
          jumps = still.jumps;
          folded = λ e q answer folds listed said. absurd (true≢false (sym folds ∙ first.no_fold));
          others = still.others;
        }
          where
            asked_of : (place r : ℕ) → In r values × IsVisitOutdated t u j r → slice_get o.operands place ≡ Some r → (e d index q : ℕ) → IsTrue (x.meaning.is_branch o.head) → slice_get o.successors e ≡ Some d → slice_get (arguments_of t d) index ≡ Some q → slice_get (x.meaning.forwarded (shape_of x.meaning t o) e) index ≡ Some place → AtMost (lattice_value_in w q) (lattice_value_in u r)
            asked_of place r new is e d index q branch goes listed forwards = ⊎_elim
                (λ z. absurd (rests z))
                (λ h. h.below (lattice_values_of w) a.met q (record { branch = branch; edge = e; block = d; index = index; successor = goes; is_argument = listed; forwards = forwards }))
                (c.seen j place r o new.0 (ap (λ z. slice_get z place) (op_shows t j o at).operands ∙ is) new.1 l at)

    pub rests_settled : IsSettledIn x t w j o
    rests_settled = ⊎_elim
        (λ all. record { seen = y.seen; met = still; same = λ v i. ⊎_elim (λ e. inl (e ∙ all v i)) (λ q. inr q) (told_calls t u w a.lowered stamped.lowered j v) })
        by_new
        (same_or o.operands each)

  -- all values are taken: the users that are visited again are still to be visited, beside what was before
  pub values_settle : StampsEachLowered u w → (rest : ℕ → Type 0) → AreSettledIn x t s rest → AreSettledIn x t w (λ j. In j users ⊎ rest j)
  values_settle stamped rest settled j b o p r at = ⊎_elim (λ old. before old (settled j b o p (sym (k.reached b) ∙ old) at)) (λ new. inl new) (a.lowered.entered b r)
    where
      settles : is_executable u b ≡ true → (q : Bool) → is_block_on_worklist u b ≡ q → IsSettledIn x t s j o → (is_block_on_worklist w b ≡ true) ⊎ IsSettledIn x t w j o ⊎ In j users ⊎ rest j
      settles old true e y = inl (a.lowered.blocks b e)
      settles old false e y = ⊎_elim
          (λ i. inr (inr (inl i)))
          (λ n. inr (inl (rests_settled stamped j b o at (record { block = b; in_block = p; reached = old; taken = e }) n y)))
          (decide_in j users)

      before : is_executable u b ≡ true → (is_block_on_worklist s b ≡ true) ⊎ IsSettledIn x t s j o ⊎ rest j → (is_block_on_worklist w b ≡ true) ⊎ IsSettledIn x t w j o ⊎ In j users ⊎ rest j
      before old (inl waits) = inl (a.lowered.blocks b (k.blocks b ∙ waits))
      before old (inr (inl y)) = settles old (is_block_on_worklist u b) refl y
      before old (inr (inr h)) = inr (inr (inr h))

  -- no block comes to be reached
  pub reached_before : (b : ℕ) → is_executable w b ≡ true → is_executable u b ≡ true
  reached_before b r = (a.least low (record { is_executable = λ d q. q; lattice_value = λ v. inr (inl refl) }) (c.owed low (λ q place d v o i is l at h. inr (inl refl)))).is_executable b r
    where
      low : LatticeValues
      low = record { is_executable = λ d. is_executable u d; lattice_value = λ v. NotAConstant }

  -- an operation that was visited asked something that is met, settled or deferred
  module _ (rest : ℕ → Type 0) (settled : AreSettledIn x t s rest) (deferral : (j : ℕ) → rest j → IsDeferred x t s j) where
    met_before : (q : ℕ) (o : Operation) → WasVisited t u q → op_at t q ≡ Some o → (f : LatticeValues) × IsSatisfied x t f (lattice_values_of s) q o
    met_before q o l at = ⊎_elim
        (λ waits. absurd (true≢false (sym (k.blocks l.block ∙ waits) ∙ l.taken)))
        (λ y. ⊎_elim (λ m. (m.seen, m.met)) (λ h. (deferral q h).met o at) y)
        (settled q l.block o l.in_block (sym (k.reached l.block) ∙ l.reached) at)

    -- so it may be deferred
    pub called_aside : (q : ℕ) → In q users → IsDeferred x t u q
    called_aside q i =
        let l = (c.only q i).0 in
        record { was_visited = l; met = λ o at. let m = met_before q o l at in (m.0, met_still x t m.0 (lattice_values_of s) (lattice_values_of u) q o (below_same s u k.facts k.reached) m.1) }

    -- an edge of it that is feasible for sure leads to a block that is reached
    edge_reached : (q place v : ℕ) (o : Operation) → WasVisited t u q → op_at t q ≡ Some o → (f : Forwarded x t o place v) → IsOpenEdge x u edges o q f.block → is_executable u f.block ≡ true
    edge_reached q place v o l at f clear = ⊎_elim
        (λ none. k.reached f.block ∙ ((met_before q o l at).1.branches f.edge f.block f.branch (f.successor, λ folds. absurd (true≢false (sym folds ∙ none)))).0)
        (λ y. y.0)
        clear

    -- and so does each region of it
    entry_reached : (q place v : ℕ) (o : Operation) → WasVisited t u q → op_at t q ≡ Some o → (n : IsNamedArgument x t o place v) → is_executable u n.entry ≡ true
    entry_reached q place v o l at n = k.reached n.entry ∙ ((met_before q o l at).1.entries n.region n.key n.entry n.in_place n.first).0

    pub called_known : (tree : IsTree t) (root : ℕ) → AreKnownThere t root u → AreKnownThere t root w
    called_known tree root known b v inside listed none =
        unknown_but t tree u w b v listed none unknown still (a.least g (below_but t tree u w b v listed none unknown still) (c.owed g (λ q place d r o i is l at h. inr (inl (handed q place d o l at h)))))
      where
        still : (z : ℕ) → is_executable u z ≡ true → is_executable w z ≡ true
        still z r = a.lowered.below.is_executable z r

        unknown : lattice_value_in u v ≡ Undetermined
        unknown = known b v inside listed (not_yet u w b still none)

        g : LatticeValues
        g = all_but_one t tree u w b v listed none unknown still

        argument : (z d : ℕ) → In z (arguments_of t d) → is_executable w d ≡ true → g.lattice_value z ≡ NotAConstant
        argument z d i r = argument_but t tree u w b v listed none unknown still z d i r

        handed : (q place d : ℕ) (o : Operation) → WasVisited t u q → op_at t q ≡ Some o → IsPropagatedEagerly x t u edges o q place d → g.lattice_value d ≡ NotAConstant
        handed q place d o l at (inl h) = argument d h.0.block (in_slice (arguments_of t h.0.block) h.0.index d h.0.is_argument) (still h.0.block (edge_reached q place d o l at h.0 h.1))
        handed q place d o l at (inr h) = argument d h.entry (in_slice (arguments_of t h.entry) h.index d h.is_argument) (still h.entry (entry_reached q place d o l at h))

  pub called_starts : (root : ℕ) → AreStarted t root (lattice_values_of u) → AreStarted t root (lattice_values_of w)
  called_starts root started = record {
    inside = λ b r. started.inside b (reached_before b r);
    outside = λ v n. varies_still (lattice_value_in u v) (lattice_value_in w v) (a.lowered.below.lattice_value v) (started.outside v n);
    entries = λ r b i e. entered_still x t (lattice_values_of u) (lattice_values_of w) b a.lowered.below (started.entries r b i e);
  }

  -- where no value was taken nothing is called for
  pub nothing_called : values ≡ [] → ((b : ℕ) → is_block_on_worklist s b ≡ false) → AreWorklistsEmpty w
  nothing_called none rests = record { blocks = blocks; values = λ v. by v (is_value_on_worklist w v) refl }
    where
      all_met : SatisfiesAll (known_constants u) (lattice_values_of u) constraints
      all_met = c.owed (lattice_values_of u) (λ q place d v o i is l at h. absurd (subst (In v) none i))

      least : AreAtMost (lattice_values_of u) (lattice_values_of w)
      least = a.least (lattice_values_of u) (below_refl (lattice_values_of u)) all_met

      same : (v : ℕ) → lattice_value_in w v ≡ lattice_value_in u v
      same v = at_most_both (lattice_value_in w v) (lattice_value_in u v) (a.lowered.below.lattice_value v) (least.lattice_value v)

      by : (v : ℕ) (q : Bool) → is_value_on_worklist w v ≡ q → is_value_on_worklist w v ≡ false
      by v false e = e
      by v true e = absurd (⊎_elim (λ old. true≢false (sym old ∙ k.values v)) (λ n. n (same v)) (a.lowered.lowered_stamps v e))

      blocks : (b : ℕ) → is_block_on_worklist w b ≡ false
      blocks b = of (is_block_on_worklist w b) refl
        where
          of : (q : Bool) → is_block_on_worklist w b ≡ q → is_block_on_worklist w b ≡ false
          of false e = e
          of true e = absurd (⊎_elim (λ old. true≢false (sym old ∙ k.blocks b ∙ rests b)) (λ n. true≢false (sym (reached_before b n.1) ∙ n.0)) (a.lowered.came b e))

-- the blocks that users may enter have numbers
pub targets_then : (x : Says) (t : Tree) (edges : FeasibleEdges) (values users : List ℕ) (constraints : List Constraint) (s u w : Tables) → PopsValues values s u → AreReactions x t u edges values users constraints → IsApplied (known_constants u) constraints u w → AreTargetsNumbered t s → (j : ℕ) → In j users → HasNumberedTargets t w j
targets_then x t edges values users constraints s u w k c a numbered j i =
    let y = (c.only j i).0 in
    targets_same t u w a.lowered.numbers j (targets_kept t s u k.numbers k.reached numbered j y.block y.in_block y.reached)
