-- What values that fell call for, as it is gathered.
use Rattle.std.proofs.Common.{◌≡◌, ◌⊎◌, ◌↔◌, ⊎_elim, inl, inr, ℕ, zero, suc, ◌+◌, ◌<◌, ◌≤◌, ◌^◌, Bool, true, false, true≢false, nat_eq, if◌then◌else◌, List, [], ◌∷◌, ◌++◌, length, slice_get, Option, Some, Result, Ok, Err, refl, sym, ap, ◌∙◌, subst, arith, IsTrue}
use Rattle.std.specs.Result.{OnOk}
use Rattle.std.proofs.lemmas.Bool.{eqb-true, eq-eqb}
use Rattle.std.proofs.lemmas.Option.{slice_get_within}
use Rattle.pliron_core.specs.declared.uses.Use.{Use}
use Rattle.pliron_core.specs.Lists.{In, IsDistinct}
use Rattle.pliron_core.specs.Tree.{Tree, View, IsDefined, IsLive, operands_of, uses_of, successors_of, arguments_of}
use Rattle.pliron_core.specs.Invariant.{IsTree, HaveUses}
use Rattle.pliron_core.proofs.HoldingLemmas.{some_is, some_of, in_slice}
use Rattle.pliron_laws.specs.Answers.{IsForwardedOnce}
use Rattle.pliron_laws.specs.Tree.{Operation, op_at}
use Rattle.pliron_laws.proofs.Records.{make_op, op_shows}
use Rattle.pliron_theory.specs.LatticeValues.{AtMost, LatticeValues, Says}
use Rattle.pliron_opt_sccp.specs.declared.constraints.Constraint.{Constraint}
use Rattle.pliron_opt_sccp.specs.declared.constraints.Constraint.TheVariants.{Lower}
use Rattle.pliron_opt_sccp.specs.declared.lattice_tables.LatticeCell.{LatticeCell}
use Rattle.pliron_opt_sccp.specs.LatticeCells.{Means}
use Rattle.pliron_opt_sccp.specs.declared.lattice_tables.Tables.{Tables}
use Rattle.pliron_opt_sccp.specs.declared.feasible_edges.FeasibleEdges.{FeasibleEdges}
use Rattle.pliron_opt_sccp.specs.Constraints.{Adds, SatisfiesAll}
use Rattle.pliron_opt_sccp.specs.OperationVisits.{AddsEach, AreReactions, ConstrainsEagerly, Forwarded, IsConstrainedAt, IsVisitOutdated, IsPropagatedEagerly, WasVisited, IsNamedArgument, IsOpenEdge, IsUseOf, NamesNone, SchedulesUses, PopsUsers}
use Rattle.pliron_opt_sccp.proofs.Constrained.{adds_one}
use Rattle.pliron_opt_sccp.specs.LatticeTables.{known_constants, lattice_value_in, is_numbered, value_worklist_len, is_executable, is_block_on_worklist, is_value_on_worklist, KeepsStamps, IsValueWorklistEmpty, SaysSame, PopsValue}
use Rattle.pliron_opt_sccp.proofs.Stamps.{behind_same, kept_back, kept_both}

-- what is visited in one table is in another that says the same of blocks
pub looked_same : (t : Tree) (s u : Tables) → ((b : ℕ) → is_executable u b ≡ is_executable s b) → ((b : ℕ) → is_block_on_worklist u b ≡ is_block_on_worklist s b) → (k : ℕ) → WasVisited t u k → WasVisited t s k
looked_same t s u reached blocks k l = record { block = l.block; in_block = l.in_block; reached = sym (reached l.block) ∙ l.reached; taken = sym (blocks l.block) ∙ l.taken }

pub on_ok_then : {X Y : Type 0} {P Q : Type 0} (r : Result X Y) → (P → Q) → OnOk r P → OnOk r Q
on_ok_then (Ok x) f p = f p
on_ok_then (Err e) f p = p

module _ (x : Says) (t : Tree) (edges : FeasibleEdges) where
  asked_more : (s : Tables) (constraints constraints' : List Constraint) (o : Operation) (place v : ℕ) → ((now : LatticeValues) → SatisfiesAll (known_constants s) now constraints' → SatisfiesAll (known_constants s) now constraints) → IsConstrainedAt x t s constraints o place v → IsConstrainedAt x t s constraints' o place v
  asked_more s constraints constraints' o place v more h = record { no_fold = h.no_fold; no_jump = h.no_jump; names_none = h.names_none; below = λ now m a f. h.below now (more now m) a f }

  -- uses are seen to, some and then others
  module _ (s : Tables) (v : ℕ) where
    pub sees_none : (IsUse : ℕ → ℕ → Type 0) (users : List ℕ) (constraints : List Constraint) → ((k place : ℕ) → IsUse k place → ⊥) → SchedulesUses x t s edges v IsUse users constraints users constraints
    sees_none IsUse users constraints none = record {
      kept = λ k i. i;
      more = λ now m. m;
      only = λ k i. inl i;
      seen = λ k place o u b l at. absurd (none k place u);
      owed = λ now m all. m;
    }

    pub sees_more : (P Q R : ℕ → ℕ → Type 0) (users : List ℕ) (constraints : List Constraint) (users1 : List ℕ) (asked1 : List Constraint) (users2 : List ℕ) (asked2 : List Constraint) → SchedulesUses x t s edges v P users constraints users1 asked1 → SchedulesUses x t s edges v Q users1 asked1 users2 asked2 → ((k place : ℕ) → (P k place ⊎ Q k place) ↔ R k place) → SchedulesUses x t s edges v R users constraints users2 asked2
    sees_more P Q R users constraints users1 asked1 users2 asked2 p q both = record {
      kept = λ k i. q.kept k (p.kept k i);
      more = λ now m. p.more now (q.more now m);
      only = λ k i. ⊎_elim
          (λ j. ⊎_elim (λ h. inl h) (λ h. inr (h.0, (h.1.0, (both k h.1.0).0 (inl h.1.1)))) (p.only k j))
          (λ h. inr (h.0, (h.1.0, (both k h.1.0).0 (inr h.1.1))))
          (q.only k i);
      seen = λ k place o u behind l at. ⊎_elim
          (λ a. ⊎_elim (λ i. inl (q.kept k i)) (λ h. inr (asked_more s asked1 asked2 o place v q.more h)) (p.seen k place o a behind l at))
          (λ b. q.seen k place o b behind l at)
          ((both k place).1 u);
      owed = λ now m all. q.owed now
          (p.owed now m (λ k place a o u l at h. all k place a o ((both k place).0 (inl u)) l at h))
          (λ k place a o u l at h. all k place a o ((both k place).0 (inr u)) l at h);
    }

    -- one use
    module _ (op place : ℕ) (users : List ℕ) (constraints : List Constraint) where
      abbrev pub IsIt : ℕ → ℕ → Type 0
      IsIt k p = (k ≡ op) × (p ≡ place)

      pub use_passed : (WasVisited t s op → ⊥) → SchedulesUses x t s edges v IsIt users constraints users constraints
      use_passed none = record {
        kept = λ k i. i;
        more = λ now m. m;
        only = λ k i. inl i;
        seen = λ k p o u b l at. absurd (none (subst (WasVisited t s) u.0 l));
        owed = λ now m all. m;
      }

      -- it was visited since
      pub use_ahead_of : (IsVisitOutdated t s op v → ⊥) → SchedulesUses x t s edges v IsIt users constraints users constraints
      use_ahead_of none = record {
        kept = λ k i. i;
        more = λ now m. m;
        only = λ k i. inl i;
        seen = λ k p o u b l at. absurd (none (subst (λ z. IsVisitOutdated t s z v) u.0 b));
        owed = λ now m all. m;
      }

      pub use_reads_nothing : ((o : Operation) → op_at t op ≡ Some o → (x.can_fold o.head ≡ false) × (x.can_fold_branch o.head ≡ false) × NamesNone x t o × (x.meaning.is_branch o.head ≡ false)) → SchedulesUses x t s edges v IsIt users constraints users constraints
      use_reads_nothing nothing = record {
        kept = λ k i. i;
        more = λ now m. m;
        only = λ k i. inl i;
        seen = λ k p o u b l at.
            let n = nothing o (subst (λ z. op_at t z ≡ Some o) u.0 at) in
            inr (record { no_fold = n.0; no_jump = n.1; names_none = n.2; below = λ now m a f. absurd (true≢false (sym f.branch ∙ n.3)) });
        owed = λ now m all. m;
      }

      -- what is asked for the one argument
      abbrev pub AsksOne : (edge index : ℕ) → LatticeValues → Type 0
      AsksOne edge index now = (b a : ℕ) → slice_get (successors_of t op) edge ≡ Some b → slice_get (arguments_of t b) index ≡ Some a → AtMost (now.lattice_value a) (lattice_value_in s v)

      -- the edge and the place there forward it
      abbrev forwarded_there : (edge index : ℕ) (o : Operation) → op_at t op ≡ Some o → IsTrue (x.meaning.is_branch o.head) → IsForwardedOnce x.meaning t op place edge index → (b a : ℕ) → slice_get (successors_of t op) edge ≡ Some b → slice_get (arguments_of t b) index ≡ Some a → Forwarded x t o place a
      forwarded_there edge index o at branch once b a goes is = record {
        branch = branch;
        edge = edge;
        block = b;
        index = index;
        successor = ap (λ z. slice_get z edge) (sym (op_shows t op o at).successors) ∙ goes;
        is_argument = is;
        forwards = once.there o at;
      }

      -- nothing is asked ahead
      pub none_ahead : ConstrainsEagerly x t s edges op place v constraints constraints
      none_ahead = record { more = λ now m. m; owed = λ now m all. m }

      pub one_ahead : (constraints' : List Constraint) (edge index block : ℕ) → IsLive t op → ((o : Operation) → op_at t op ≡ Some o → IsTrue (x.meaning.is_branch o.head)) → IsForwardedOnce x.meaning t op place edge index → slice_get (successors_of t op) edge ≡ Some block → ((o : Operation) → op_at t op ≡ Some o → IsOpenEdge x s edges o op block) → Adds (known_constants s) constraints constraints' (λ now. AsksOne edge index now) → ConstrainsEagerly x t s edges op place v constraints constraints'
      one_ahead constraints' edge index block live branch once goes clear adds = record {
        more = λ now m. ((adds now).0 m).0;
        owed = λ now m all. (adds now).1 (
          m,
          λ b a here is. all a o.0 o.1 (inl (
            forwarded_there edge index o.0 o.1 (branch o.0 o.1) once b a here is,
            subst (IsOpenEdge x s edges o.0 op) (some_is (sym goes ∙ here)) (clear o.0 o.1),
          )),
        );
      }
        where
          o : (o : Operation) × (op_at t op ≡ Some o)
          o = let h = some_of _ live in (_, make_op t op h.0 h.1)

      -- the argument that is named for it is asked, and then more
      pub named_ahead : (constraints' : List Constraint) (argument : ℕ) (cell : LatticeCell) → IsLive t op → ((o : Operation) → op_at t op ≡ Some o → IsNamedArgument x t o place argument) → Means (known_constants s) cell (lattice_value_in s v) → constraints' ≡ constraints ++ Lower argument cell ∷ [] → ConstrainsEagerly x t s edges op place v constraints constraints'
      named_ahead constraints' argument cell live named said grown =
          let adds = adds_one (known_constants s) constraints constraints' (Lower argument cell) grown in
          let h = some_of _ live in
          let at = make_op t op h.0 h.1 in
          record {
            more = λ now m. ((adds now).0 m).0;
            owed = λ now m all. (adds now).1 (m, (lattice_value_in s v, said, all argument _ at (inr (named _ at))));
          }

      pub both_ahead : (between constraints' : List Constraint) → ConstrainsEagerly x t s edges op place v constraints between → ConstrainsEagerly x t s edges op place v between constraints' → ConstrainsEagerly x t s edges op place v constraints constraints'
      both_ahead between constraints' first second = record {
        more = λ now m. first.more now (second.more now m);
        owed = λ now m all. second.owed now (first.owed now m all) all;
      }

      -- it is visited again, and something is asked ahead
      pub use_ahead : (more : List ℕ) (constraints' : List Constraint) → WasVisited t s op → AddsEach users more (λ k. op ≡ k) → ConstrainsEagerly x t s edges op place v constraints constraints' → SchedulesUses x t s edges v IsIt users constraints more constraints'
      use_ahead more constraints' l a ahead = record {
        kept = λ k i. (a.members k).1 (inl i);
        more = ahead.more;
        only = λ k i. ⊎_elim (λ j. inl j) (λ e. inr (subst (WasVisited t s) e l, (place, (sym e, refl)))) ((a.members k).0 i);
        seen = λ k p o u b seen at. inl ((a.members k).1 (inr (sym u.0)));
        owed = λ now m all. ahead.owed now m (λ b o at h. all op place b o (refl, refl) l at h);
      }

      pub use_asked : (constraints' : List Constraint) (edge index : ℕ) → IsLive t op → WasVisited t s op → ((o : Operation) → op_at t op ≡ Some o → (x.can_fold o.head ≡ false) × (x.can_fold_branch o.head ≡ false) × NamesNone x t o × IsTrue (x.meaning.is_branch o.head)) → IsForwardedOnce x.meaning t op place edge index → Adds (known_constants s) constraints constraints' (λ now. AsksOne edge index now) → SchedulesUses x t s edges v IsIt users constraints users constraints'
      use_asked constraints' edge index live l one once adds = record {
        kept = λ k i. i;
        more = λ now m. ((adds now).0 m).0;
        only = λ k i. inl i;
        seen = λ k p o u b seen at. inr (asks o (subst (λ z. op_at t z ≡ Some o) u.0 at) p u.1);
        owed = λ now m all. (adds now).1 (
          m,
          λ b a goes is. all op place a o.0 (refl, refl) l o.1 (inl (forwarded_there edge index o.0 o.1 (one o.0 o.1).3 once b a goes is, inl (one o.0 o.1).1)),
        );
      }
        where
          o : (o : Operation) × (op_at t op ≡ Some o)
          o = let h = some_of _ live in (_, make_op t op h.0 h.1)

          asks : (o : Operation) → op_at t op ≡ Some o → (p : ℕ) → p ≡ place → IsConstrainedAt x t s constraints' o p v
          asks o at p e = record {
            no_fold = (one o at).0;
            no_jump = (one o at).1;
            names_none = (one o at).2;
            below = λ now m a f.
                let same = once.alone o at f.edge f.index (slice_get_within o.successors f.edge f.block f.successor) (f.forwards ∙ ap (λ z. Some z) e) in
                ((adds now).0 m).1 f.block a
                (ap (λ z. slice_get z edge) (op_shows t op o at).successors ∙ ap (slice_get o.successors) (sym same.0) ∙ f.successor)
                (ap (slice_get (arguments_of t f.block)) (sym same.1) ∙ f.is_argument);
          }

  -- the uses before index i
  abbrev pub IsUseBefore : List Use → ℕ → ℕ → ℕ → Type 0
  IsUseBefore uses i k place = (j : ℕ) × (j < i) × (slice_get uses j ≡ Some (record { user = k; place = place }))

  use_is : {u k p q : ℕ} → ◌≡◌ {A = Option Use} (Some (record { user = u; place = p })) (Some (record { user = k; place = q })) → (k ≡ u) × (q ≡ p)
  use_is e = (sym (ap (λ x. x.user) (some_is e)), sym (ap (λ x. x.place) (some_is e)))

  below_or : (j i : ℕ) → j < i + 1 → (j < i) ⊎ (j ≡ i)
  below_or zero zero l = inr refl
  below_or zero (suc i) l = inl (omega arith)
  below_or (suc j) zero l = absurd (omega (arith, l))
  below_or (suc j) (suc i) l = ⊎_elim (λ a. inl (omega (arith, a))) (λ b. inr (ap (λ n. suc n) b)) (below_or j i (omega (arith, l)))

  pub uses_start : (s : Tables) (v : ℕ) (uses : List Use) (users : List ℕ) (constraints : List Constraint) → SchedulesUses x t s edges v (IsUseBefore uses 0) users constraints users constraints
  uses_start s v uses users constraints = sees_none s v (IsUseBefore uses 0) users constraints (λ k place u. let l = u.1 in absurd (omega (arith, l)))

  pub uses_next : (s : Tables) (v : ℕ) (uses : List Use) (i u p : ℕ) (users : List ℕ) (constraints : List Constraint) (users1 : List ℕ) (asked1 : List Constraint) (users2 : List ℕ) (asked2 : List Constraint) → slice_get uses i ≡ Some (record { user = u; place = p }) → SchedulesUses x t s edges v (IsUseBefore uses i) users constraints users1 asked1 → SchedulesUses x t s edges v (λ k place. (k ≡ u) × (place ≡ p)) users1 asked1 users2 asked2 → SchedulesUses x t s edges v (IsUseBefore uses (i + 1)) users constraints users2 asked2
  uses_next s v uses i u p users constraints users1 asked1 users2 asked2 at before one = sees_more s v (IsUseBefore uses i) (λ k place. (k ≡ u) × (place ≡ p)) (IsUseBefore uses (i + 1)) users constraints users1 asked1 users2 asked2 before one
      (λ k place. (
        λ h. ⊎_elim
            (λ b. let l = b.1 in (b.0, omega (arith, l), b.2))
            (λ q. (i, omega arith, at ∙ ap (λ z. Some (record { user = z; place = p })) (sym q.0) ∙ ap (λ z. Some (record { user = k; place = z })) (sym q.1)))
            h,
        λ b. ⊎_elim (λ l. inl (b.0, l, b.2)) (λ e. inr (use_is (sym at ∙ ap (slice_get uses) (sym e) ∙ b.2))) (below_or b.0 i b.1),
      ))

  -- the same in other tables that say the same
  module _ (s u : Tables) (facts : (v : ℕ) → lattice_value_in u v ≡ lattice_value_in s v) (reached : (b : ℕ) → is_executable u b ≡ is_executable s b) (blocks : (b : ℕ) → is_block_on_worklist u b ≡ is_block_on_worklist s b) (constants : known_constants u ≡ known_constants s) (stamps : KeepsStamps s u) where
    seen_then : (k : ℕ) → WasVisited t s k → WasVisited t u k
    seen_then k l = looked_same t u s (λ b. sym (reached b)) (λ b. sym (blocks b)) k l

    seen_before : (k : ℕ) → WasVisited t u k → WasVisited t s k
    seen_before k l = looked_same t s u reached blocks k l

    clear_then : (k : ℕ) (o : Operation) (b : ℕ) → IsOpenEdge x s edges o k b → IsOpenEdge x u edges o k b
    clear_then k o b clear = ⊎_elim (λ none. inl none) (λ y. inr (reached b ∙ y.0, y.1)) clear

    handed_then : (k place a : ℕ) (o : Operation) → IsPropagatedEagerly x t s edges o k place a → IsPropagatedEagerly x t u edges o k place a
    handed_then k place a o handed = ⊎_elim (λ h. inl (h.0, clear_then k o h.0.block h.1)) (λ h. inr h) handed

    asked_then : (constraints : List Constraint) (o : Operation) (place v : ℕ) → IsConstrainedAt x t s constraints o place v → IsConstrainedAt x t u constraints o place v
    asked_then constraints o place v h = record {
      no_fold = h.no_fold;
      no_jump = h.no_jump;
      names_none = h.names_none;
      below = λ now m a f. subst (AtMost (now.lattice_value a)) (sym (facts v)) (h.below now (subst (λ c. SatisfiesAll c now constraints) constants m) a f);
    }

    pub calls_then : (values users : List ℕ) (constraints : List Constraint) → AreReactions x t s edges values users constraints → AreReactions x t u edges values users constraints
    calls_then values users constraints c = record {
      only = λ k i. let y = c.only k i in (seen_then k y.0, y.1);
      seen = λ k place v o i is b l at. ⊎_elim (λ j. inl j) (λ h. inr (asked_then constraints o place v h)) (c.seen k place v o i is (behind_same t u s (kept_back s u stamps) k v b) (seen_before k l) at);
      owed = λ now all. subst (λ z. SatisfiesAll z now constraints) (sym constants) (c.owed now (λ k place a v o i is l at h. subst (AtMost (now.lattice_value a)) (facts v) (all k place a v o i is (seen_then k l) at (handed_then k place a o h))));
    }

  -- one value more
  calls_more : (s : Tables) (v : ℕ) (values users : List ℕ) (constraints : List Constraint) (users' : List ℕ) (constraints' : List Constraint) → AreReactions x t s edges values users constraints → SchedulesUses x t s edges v (IsUseOf t v) users constraints users' constraints' → AreReactions x t s edges (v ∷ values) users' constraints'
  calls_more s v values users constraints users' constraints' c p = record {
    only = λ k i. ⊎_elim (λ j. let y = c.only k j in (y.0, (y.1.0, inr y.1.1))) (λ y. (y.0, (v, inl refl))) (p.only k i);
    seen = λ k place w o i is b l at. ⊎_elim
        (λ e. subst (λ z. In k users' ⊎ IsConstrainedAt x t s constraints' o place z) (sym e) (p.seen k place o (subst (λ z. IsUseOf t z k place) e is) (subst (λ z. IsVisitOutdated t s k z) e b) l at))
        (λ j. ⊎_elim (λ h. inl (p.kept k h)) (λ h. inr (asked_more s constraints constraints' o place w p.more h)) (c.seen k place w o j is b l at))
        i;
    owed = λ now all. p.owed now
        (c.owed now (λ k place a w o i is l at h. all k place a w o (inr i) is l at h))
        (λ k place a o is l at h. all k place a v o (inl refl) is l at h);
  }

  calls_none : (s : Tables) (users : List ℕ) (constraints : List Constraint) → users ≡ [] → constraints ≡ [] → AreReactions x t s edges [] users constraints
  calls_none s users constraints e n = record {
    only = λ k i. absurd (subst (In k) e i);
    seen = λ k place v o i is b l at. absurd i;
    owed = λ now all. subst (SatisfiesAll (known_constants s) now) (sym n) tt;
  }

  -- some values that waited were taken, and this is what they call for
  pub record IsTaking (start now : Tables) (users : List ℕ) (constraints : List Constraint) (taken : ℕ) : Type 0 where
    pub values : List ℕ
    pub distinct : IsDistinct values
    pub waited : (v : ℕ) → is_value_on_worklist start v ≡ true ↔ (In v values ⊎ (is_value_on_worklist now v ≡ true))
    pub deleted : (v : ℕ) → In v values → is_value_on_worklist now v ≡ false
    pub facts : (v : ℕ) → lattice_value_in now v ≡ lattice_value_in start v
    pub reached : (b : ℕ) → is_executable now b ≡ is_executable start b
    pub blocks : (b : ℕ) → is_block_on_worklist now b ≡ is_block_on_worklist start b
    pub numbers : (b : ℕ) → is_numbered now b ≡ is_numbered start b
    pub calls : AreReactions x t now edges values users constraints
    pub counted : taken ≡ length values
    pub left : taken + value_worklist_len now ≡ value_worklist_len start
    pub few : (taken ≡ 0) ⊎ (value_worklist_len start < 2 ^ 64)
    pub stamps : KeepsStamps start now

  pub taking_start : (s : Tables) (users : List ℕ) (constraints : List Constraint) → users ≡ [] → constraints ≡ [] → IsTaking s s users constraints 0
  taking_start s users constraints none nothing = record {
    values = [];
    distinct = tt;
    waited = λ v. (λ w. inr w, λ w. ⊎_elim (λ z. absurd z) (λ x. x) w);
    deleted = λ v i. absurd i;
    facts = λ v. refl;
    reached = λ b. refl;
    blocks = λ b. refl;
    numbers = λ b. refl;
    calls = calls_none s users constraints none nothing;
    counted = refl;
    left = omega arith;
    few = inl refl;
    stamps = record { visit_stamps = λ f. refl; lowered = λ v. refl };
  }

  -- one value more is taken
  module _ (start now next : Tables) (users : List ℕ) (constraints : List Constraint) (users' : List ℕ) (constraints' : List Constraint) (taken value : ℕ) (a : IsTaking start now users constraints taken) (k : PopsValue value now next) where
    pub small_left : value_worklist_len start < 2 ^ 64
    small_left = ⊎_elim (λ none. let l = a.left in let f = k.few in omega (arith, l, f, none)) (λ f. f) a.few

    pub taken_bound : taken + 1 < 2 ^ 128
    taken_bound = let l = a.left in let f = small_left in let w = k.fewer in omega (arith, l, f, w)

    or_still : (v : ℕ) → is_value_on_worklist now v ≡ true → (v ≡ value) ⊎ (is_value_on_worklist next v ≡ true)
    or_still v w = by (nat_eq value v) refl
      where
        by : (q : Bool) → nat_eq value v ≡ q → (v ≡ value) ⊎ (is_value_on_worklist next v ≡ true)
        by true e = inl (sym (eqb-true value v e))
        by false e = inr (k.values v ∙ ap (λ c. if c then false else is_value_on_worklist now v) e ∙ w)

    waited_now : (v : ℕ) → is_value_on_worklist next v ≡ true → is_value_on_worklist now v ≡ true
    waited_now v w = by (nat_eq value v) refl
      where
        by : (q : Bool) → nat_eq value v ≡ q → is_value_on_worklist now v ≡ true
        by true e = absurd (true≢false (sym w ∙ k.values v ∙ ap (λ c. if c then false else is_value_on_worklist now v) e))
        by false e = sym (k.values v ∙ ap (λ c. if c then false else is_value_on_worklist now v) e) ∙ w

    gone_next : (v : ℕ) → is_value_on_worklist now v ≡ false → is_value_on_worklist next v ≡ false
    gone_next v g = by (is_value_on_worklist next v) refl
      where
        by : (q : Bool) → is_value_on_worklist next v ≡ q → is_value_on_worklist next v ≡ false
        by true e = absurd (true≢false (sym (waited_now v e) ∙ g))
        by false e = e

    it_is_gone : is_value_on_worklist next value ≡ false
    it_is_gone = k.values value ∙ ap (λ c. if c then false else is_value_on_worklist now value) (eq-eqb value value refl)

    pub taking_next : SchedulesUses x t next edges value (IsUseOf t value) users constraints users' constraints' → IsTaking start next users' constraints' (taken + 1)
    taking_next added = record {
      values = value ∷ a.values;
      distinct = (λ i. true≢false (sym k.waited ∙ a.deleted value i), a.distinct);
      waited = λ v. (
        λ w. ⊎_elim (λ i. inl (inr i)) (λ x. ⊎_elim (λ e. inl (inl e)) (λ y. inr y) (or_still v x)) ((a.waited v).0 w),
        λ w. ⊎_elim (λ i. ⊎_elim (λ e. (a.waited v).1 (inr (subst (λ z. is_value_on_worklist now z ≡ true) (sym e) k.waited))) (λ j. (a.waited v).1 (inl j)) i) (λ x. (a.waited v).1 (inr (waited_now v x))) w,
      );
      deleted = λ v i. ⊎_elim (λ e. subst (λ z. is_value_on_worklist next z ≡ false) (sym e) it_is_gone) (λ j. gone_next v (a.deleted v j)) i;
      facts = λ v. k.facts v ∙ a.facts v;
      reached = λ b. k.reached b ∙ a.reached b;
      blocks = λ b. k.blocks b ∙ a.blocks b;
      numbers = λ b. k.numbers b ∙ a.numbers b;
      calls = calls_more next value a.values users constraints users' constraints' (calls_then now next k.facts k.reached k.blocks k.constants k.stamps a.values users constraints a.calls) added;
      counted = let c = a.counted in omega (arith, c);
      left = let l = a.left in let f = k.fewer in omega (arith, l, f);
      few = inr small_left;
      stamps = kept_both start now next a.stamps k.stamps;
    }

    pub fewer_left : value_worklist_len next < value_worklist_len now
    fewer_left = let f = k.fewer in omega (arith, f)

  -- none waits any more
  pub taking_end : (start now last : Tables) (users : List ℕ) (constraints : List Constraint) (taken : ℕ) → IsTaking start now users constraints taken → IsValueWorklistEmpty now last → PopsUsers x t edges users constraints start last taken
  taking_end start now last users constraints taken a n = record {
    values = a.values;
    takes = record {
      distinct = a.distinct;
      waited = λ v. (λ w. ⊎_elim (λ i. i) (λ x. absurd (true≢false (sym x ∙ n.1 v))) ((a.waited v).0 w), λ i. (a.waited v).1 (inl i));
      values = λ v. n.0.values v ∙ n.1 v;
      facts = λ v. n.0.facts v ∙ a.facts v;
      reached = λ b. n.0.reached b ∙ a.reached b;
      blocks = λ b. n.0.blocks b ∙ a.blocks b;
      numbers = λ b. n.0.numbers b ∙ a.numbers b;
      stamps = kept_both start now last a.stamps n.0.stamps;
    };
    calls = calls_then now last n.0.facts n.0.reached n.0.blocks n.0.constants n.0.stamps a.values users constraints a.calls;
    counted = a.counted;
  }

  -- what was taken from tables that say the same
  pub takes_from : (s u s' : Tables) (users : List ℕ) (constraints : List Constraint) (taken : ℕ) → SaysSame s u → PopsUsers x t edges users constraints u s' taken → PopsUsers x t edges users constraints s s' taken
  takes_from s u s' users constraints taken same k = record {
    values = k.values;
    takes = record {
      distinct = k.takes.distinct;
      waited = λ v. (λ w. (k.takes.waited v).0 (same.values v ∙ w), λ i. sym (same.values v) ∙ (k.takes.waited v).1 i);
      values = k.takes.values;
      facts = λ v. k.takes.facts v ∙ same.facts v;
      reached = λ b. k.takes.reached b ∙ same.reached b;
      blocks = λ b. k.takes.blocks b ∙ same.blocks b;
      numbers = λ b. k.takes.numbers b ∙ same.numbers b;
      stamps = kept_both s u s' same.stamps k.takes.stamps;
    };
    calls = k.calls;
    counted = k.counted;
  }

-- all uses of a value
pub uses_end : (x : Says) (v : View) (edges : FeasibleEdges) (s : Tables) (value i : ℕ) (users : List ℕ) (constraints : List Constraint) (users' : List ℕ) (constraints' : List Constraint) → HaveUses v → length (uses_of v.value_uses value) ≤ i → SchedulesUses x v.tree s edges value (IsUseBefore x v.tree edges (uses_of v.value_uses value) i) users constraints users' constraints' → SchedulesUses x v.tree s edges value (IsUseOf v.tree value) users constraints users' constraints'
uses_end x v edges s value i users constraints users' constraints' h all a = sees_more x v.tree edges s value (IsUseBefore x v.tree edges (uses_of v.value_uses value) i) (λ k place. ⊥) (IsUseOf v.tree value) users constraints users' constraints' users' constraints' a (sees_none x v.tree edges s value (λ k place. ⊥) users' constraints' (λ k place z. z))
    (λ k place. (
      λ b. ⊎_elim (λ y. h.value_uses.listed value y.0 (record { user = k; place = place }) y.2) (λ z. absurd z) b,
      λ u.
          let j = h.value_uses.complete k place value u in
          let l = slice_get_within (uses_of v.value_uses value) j.0 (record { user = k; place = place }) j.1 in
          inl (j.0, omega (arith, l, all), j.1),
    ))

-- what no operation reads has no uses
pub none_reads : (x : Says) (t : Tree) (edges : FeasibleEdges) (s : Tables) (w : IsTree t) (value : ℕ) (users : List ℕ) (constraints : List Constraint) → (IsDefined t value → ⊥) → SchedulesUses x t s edges value (IsUseOf t value) users constraints users constraints
none_reads x t edges s w value users constraints none = sees_none x t edges s value (IsUseOf t value) users constraints (λ k place u. none (w.joined.operands k value (in_slice (operands_of t k) place value u)))
