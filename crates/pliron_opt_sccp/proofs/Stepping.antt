-- What looking at operations does to what is settled and to what is reached.
use Rattle.std.proofs.Common.{◌≡◌, ◌⊎◌, ◌↔◌, inl, inr, ⊎_elim, ℕ, Bool, true, false, true≢false, not, nat_eq, if◌then◌else◌, List, [], ◌∷◌, Some, None, slice_get, refl, sym, ap, ◌∙◌, subst, arith}
use Rattle.std.specs.List.{flat_map}
use Rattle.std.proofs.lemmas.Bool.{eqb-true, eq-eqb}
use Rattle.pliron_core.specs.Lists.{In, first_of}
use Rattle.pliron_core.specs.Tree.{Tree, IsInside, IsLive, regions_of, results_of, successors_of, arguments_of, parent_of, body_of, layout_of, block_parent_of, block_parent_operation_of, region_parent_of, up_from}
use Rattle.pliron_core.specs.Invariant.{IsTree}
use Rattle.pliron_core.proofs.FlatLemmas.{In-flat_map, flat_map-In}
use Rattle.pliron_core.proofs.ListLemmas.{decide_in, In-left, In-right}
use Rattle.pliron_core.proofs.NeighbourLemmas.{first_of-In}
use Rattle.pliron_core.proofs.HoldingLemmas.{in_slice, some_is, not_none, inside_block, some_of}
use Rattle.pliron_laws.specs.Linked.{EdgesLast}
use Rattle.pliron_laws.specs.Tree.{Operation, op_at, shape_of}
use Rattle.pliron_theory.proofs.FactLattice.{unknown_below}
use Rattle.pliron_laws.proofs.Records.{make_op, op_shows}
use Rattle.pliron_theory.specs.LatticeValues.{LatticeValue, Undetermined, NotAConstant, LatticeValues, Says, IsInExecutableBlock, AreHeld}
use Rattle.pliron_opt_sccp.specs.declared.lattice_tables.Tables.{Tables}
use Rattle.pliron_opt_sccp.specs.LatticeTables.{known_constants, lattice_value_in, is_numbered, lowest_lattice_values, is_executable, is_block_on_worklist, lattice_values_of, StampsLowered, PopsBlock}
use Rattle.pliron_opt_sccp.specs.Inside.{block_values}
use Rattle.pliron_opt_sccp.specs.Settling.{IsSatisfied, AreAtMost, IsSettled, AreSettledBut, AreStarted}
use Rattle.pliron_opt_sccp.specs.Lowering.{ValuesAreLowered}
use Rattle.pliron_opt_sccp.specs.Constraints.{Constrains, ConstrainsEntries, CanSatisfy, SatisfiesAll}
use Rattle.pliron_opt_sccp.specs.declared.constraints.Constraint.{Constraint}
use Rattle.pliron_opt_sccp.specs.declared.feasible_edges.FeasibleEdges.{FeasibleEdges}
use Rattle.pliron_opt_sccp.specs.OperationVisits.{stamp_of, AreTargetsNumbered, CallsForVisit, VisitsInTurnAndKeeps, HasNumberedTargets, VisitsOperation, VisitsInTurn}
use Rattle.pliron_opt_sccp.specs.OperationVisits.VisitsInTurn.{Nothing, Then}
use Rattle.pliron_opt_sccp.specs.OperationVisits.VisitsInTurnAndKeeps.{Nowhere, Onward}
use Rattle.pliron_opt_sccp.specs.WorklistCounts.{AreKnownThere}
use Rattle.pliron_opt_sccp.proofs.DistinctLists.{held_directly, values_apart}
use Rattle.pliron_opt_sccp.proofs.Settled.{met_still, entered_still, varies_still}
use Rattle.pliron_opt_sccp.proofs.Applied.{falls_refl, falls_trans}
use Rattle.pliron_opt_sccp.proofs.Entered.{lowest_below}
use Rattle.pliron_opt_sccp.proofs.Stamps.{behind_same, calls_still, told_calls}

-- what an operation asks can be met where the blocks that it may enter have numbers
pub can_satisfy : (x : Says) (t : Tree) (k : ℕ) (s : Tables) (constraints : List Constraint) → IsLive t k → HasNumberedTargets t s k → Constrains (known_constants s) x t (lattice_values_of s) k constraints → CanSatisfy s constraints
can_satisfy x t k s constraints live n asks = (asks o.0 o.1 (lowest_lattice_values s) (lowest_below s)).1 met
  where
    o : (o : Operation) × (op_at t k ≡ Some o)
    o = let h = some_of _ live in (_, make_op t k h.0 h.1)

    successor : (i b : ℕ) → slice_get o.0.successors i ≡ Some b → is_numbered s b ≡ true
    successor i b e = n.successors b (subst (In b) (sym (op_shows t k o.0 o.1).successors) (in_slice o.0.successors i b e))

    met : IsSatisfied x t (lattice_values_of s) (lowest_lattice_values s) k o.0
    met = record {
      entries = λ i r b at e. (n.entries r b (subst (In r) (sym (op_shows t k o.0 o.1).regions) (in_slice o.0.regions i r at)) e, λ j v a. unknown_below (lowest_lattice_values s).lattice_value (lattice_value_in s) o.0.operands (x.entry_operands (shape_of x.meaning t o.0) i j) v refl);
      branches = λ i b branch go. (successor i b go.0, λ j v y listed forwards. inr (inl refl));
      jumps = λ i b none e. (successor i b e, λ v j. refl);
      folded = λ i v a folds listed said. inr (inl refl);
      others = λ v none i. refl;
    }

-- numbers stay
pub targets_same : (t : Tree) (s u : Tables) → ((b : ℕ) → is_numbered u b ≡ is_numbered s b) → (k : ℕ) → HasNumberedTargets t s k → HasNumberedTargets t u k
targets_same t s u numbers k n = record { entries = λ r b i e. numbers b ∙ n.entries r b i e; successors = λ b i. numbers b ∙ n.successors b i }

pub targets_kept : (t : Tree) (s u : Tables) → ((b : ℕ) → is_numbered u b ≡ is_numbered s b) → ((b : ℕ) → is_executable u b ≡ is_executable s b) → AreTargetsNumbered t s → AreTargetsNumbered t u
targets_kept t s u numbers reached n k b placed r = targets_same t s u numbers k (n k b placed (sym (reached b) ∙ r))

-- the entries of the root can be met where all blocks inside it have numbers
pub can_start : (t : Tree) (root : ℕ) (s : Tables) (constraints : List Constraint) → ((r b : ℕ) → In r (regions_of t root) → first_of (layout_of t r) None ≡ Some b → is_numbered s b ≡ true) → ((now : LatticeValues) → SatisfiesAll (known_constants s) now constraints ↔ ConstrainsEntries t root now) → CanSatisfy s constraints
can_start t root s constraints n asks = (asks (lowest_lattice_values s)).1 (λ r b i e. (n r b i e, λ v j. refl))

-- two tables say the same of facts
module _ (s u : Tables) (facts : (v : ℕ) → lattice_value_in u v ≡ lattice_value_in s v) (reached : (b : ℕ) → is_executable u b ≡ is_executable s b) where
  pub below_same : AreAtMost (lattice_values_of u) (lattice_values_of s)
  below_same = record { is_executable = λ b r. reached b ∙ r; lattice_value = λ v. inr (inr (facts v)) }

-- a region's first block, as a list
abbrev pub first_blocks : List ℕ → List ℕ
first_blocks [] = []
first_blocks (b ∷ bs) = b ∷ []

-- the entries of an operation's regions
abbrev pub entries_of : Tree → ℕ → List ℕ
entries_of t k = flat_map (λ r. first_blocks (layout_of t r)) (regions_of t k)

pub first_in : (bs : List ℕ) (b : ℕ) → first_of bs None ≡ Some b → In b (first_blocks bs)
first_in [] b e = absurd (not_none e)
first_in (c ∷ bs) b e = inl (sym (some_is e))

pub in_first : (bs : List ℕ) (b : ℕ) → In b (first_blocks bs) → first_of bs None ≡ Some b
in_first [] b i = absurd i
in_first (c ∷ bs) b (inl e) = ap (λ z. Some z) (sym e)
in_first (c ∷ bs) b (inr i) = absurd i

-- facts by which all blocks but one are reached, and nothing is a constant
abbrev pub others_reached : ℕ → LatticeValues
others_reached b = record { is_executable = λ z. not (nat_eq b z); lattice_value = λ v. NotAConstant }

pub another : (b z : ℕ) → (b ≡ z → ⊥) → not (nat_eq b z) ≡ true
another b z n = by (nat_eq b z) refl
  where
    by : (q : Bool) → nat_eq b z ≡ q → not (nat_eq b z) ≡ true
    by true e = absurd (n (eqb-true b z e))
    by false e = ap not e

-- another entry than this block
pub entry_apart : (t : Tree) (k b : ℕ) → (In b (entries_of t k) → ⊥) → (r z : ℕ) → In r (regions_of t k) → first_of (layout_of t r) None ≡ Some z → not (nat_eq b z) ≡ true
entry_apart t k b none r z i e = another b z (λ same. none (In-flat_map (λ r. first_blocks (layout_of t r)) (regions_of t k) r b i (first_in (layout_of t r) b (e ∙ ap (λ q. Some q) (sym same)))))

pub entry_held : (t : Tree) (w : IsTree t) (k b : ℕ) → In b (entries_of t k) → block_parent_operation_of t b ≡ Some k
entry_held t w k b i =
    let r = flat_map-In (λ r. first_blocks (layout_of t r)) (regions_of t k) b i in
    held_directly t w k r.0 b r.1 (first_of-In b (layout_of t r.0) (in_first (layout_of t r.0) b r.2))

-- facts by which the same blocks are reached, nothing is known of one value, and all others are not constant: where
-- that value is listed by a block that is not reached
module _ (t : Tree) (w : IsTree t) (s u : Tables) (b v : ℕ) (listed : In v (block_values t b)) (none : is_executable u b ≡ false) (unknown : lattice_value_in s v ≡ Undetermined) (still : (z : ℕ) → is_executable s z ≡ true → is_executable u z ≡ true) where
  abbrev pub all_but_one : LatticeValues
  all_but_one = record { is_executable = λ z. is_executable u z; lattice_value = λ z. if nat_eq v z then Undetermined else NotAConstant }

  pub varies_but : (z d : ℕ) → In z (block_values t d) → is_executable u d ≡ true → all_but_one.lattice_value z ≡ NotAConstant
  varies_but z d i r = by (nat_eq v z) refl
    where
      by : (q : Bool) → nat_eq v z ≡ q → (if nat_eq v z then Undetermined else NotAConstant) ≡ NotAConstant
      by true e =
          let same : b ≡ d = values_apart t w b d v listed (subst (λ y. In y (block_values t d)) (sym (eqb-true v z e)) i) in
          absurd (true≢false (sym r ∙ ap (is_executable u) (sym same) ∙ none))
      by false e = ap (λ q. if q then Undetermined else NotAConstant) e

  pub argument_but : (z d : ℕ) → In z (arguments_of t d) → is_executable u d ≡ true → all_but_one.lattice_value z ≡ NotAConstant
  argument_but z d i r = varies_but z d (In-left z (arguments_of t d) (flat_map (λ j. results_of t j) (body_of t d)) i) r

  pub below_but : AreAtMost all_but_one (lattice_values_of s)
  below_but = record { is_executable = λ z r. still z r; lattice_value = λ z. by z (nat_eq v z) refl }
    where
      by : (z : ℕ) (q : Bool) → nat_eq v z ≡ q → (lattice_value_in s z ≡ Undetermined) ⊎ (all_but_one.lattice_value z ≡ NotAConstant) ⊎ (all_but_one.lattice_value z ≡ lattice_value_in s z)
      by z true e = inl (ap (lattice_value_in s) (sym (eqb-true v z e)) ∙ unknown)
      by z false e = inr (inl (ap (λ q. if q then Undetermined else NotAConstant) e))

  pub unknown_but : AreAtMost all_but_one (lattice_values_of u) → lattice_value_in u v ≡ Undetermined
  unknown_but below = lowest (lattice_value_in u v) (below.lattice_value v)
    where
      own : all_but_one.lattice_value v ≡ Undetermined
      own = ap (λ q. if q then Undetermined else NotAConstant) (eq-eqb v v refl)

      apart : Undetermined ≡ NotAConstant → ⊥
      apart e = grind (arith, e)

      lowest : (f : LatticeValue) → (f ≡ Undetermined) ⊎ (all_but_one.lattice_value v ≡ NotAConstant) ⊎ (all_but_one.lattice_value v ≡ f) → f ≡ Undetermined
      lowest f (inl e) = e
      lowest f (inr (inl n)) = absurd (apart (sym own ∙ n))
      lowest f (inr (inr e)) = sym e ∙ own

pub not_yet : (s u : Tables) (b : ℕ) → ((z : ℕ) → is_executable s z ≡ true → is_executable u z ≡ true) → is_executable u b ≡ false → is_executable s b ≡ false
not_yet s u b still none = by (is_executable s b) refl
  where
    by : (q : Bool) → is_executable s b ≡ q → is_executable s b ≡ false
    by true e = absurd (true≢false (sym (still b e) ∙ none))
    by false e = e

module _ (x : Says) (t : Tree) where
  abbrev pub IsSettledIn : Tables → ℕ → Operation → Type 0
  IsSettledIn s k o = IsSettled x t (lattice_values_of s) (λ v. CallsForVisit t s k v) k o

  abbrev pub AreSettledIn : Tables → (ℕ → Type 0) → Type 0
  AreSettledIn s todo = AreSettledBut x t (lattice_values_of s) (λ b. is_block_on_worklist s b ≡ true) (λ k v. CallsForVisit t s k v) todo

  -- it stays settled while facts fall, where no look at it is stamped
  pub settled_then : (s u : Tables) (k : ℕ) (o : Operation) → ValuesAreLowered s u → StampsLowered s u → stamp_of u (results_of t k) ≡ stamp_of s (results_of t k) → IsSettledIn s k o → IsSettledIn u k o
  settled_then s u k o f p look y = record {
    seen = y.seen;
    met = met_still x t y.seen (lattice_values_of s) (lattice_values_of u) k o f.below y.met;
    same = λ v i. ⊎_elim (λ e. ⊎_elim (λ d. inl (d ∙ e)) (λ w. inr w) (told_calls t s u f p k v)) (λ w. inr (calls_still t s u f p k v look w)) (y.same v i);
  }

  -- it is settled where what it asked before is met
  pub settled_now : (s u : Tables) (k : ℕ) (o : Operation) → ValuesAreLowered s u → StampsLowered s u → IsSatisfied x t (lattice_values_of s) (lattice_values_of u) k o → IsSettledIn u k o
  settled_now s u k o f p m = record { seen = lattice_values_of s; met = m; same = λ v i. told_calls t s u f p k v }

  -- more may be still to be visited
  pub settled_wider : (P Q : ℕ → Type 0) (s : Tables) → ((j : ℕ) → P j → Q j) → AreSettledIn s P → AreSettledIn s Q
  settled_wider P Q s wider settled j b o p r at = ⊎_elim (λ waits. inl waits) (λ y. inr (⊎_elim (λ q. inl q) (λ h. inr (wider j h)) y)) (settled j b o p r at)

  -- beside what else is still to be visited
  module _ (rest : ℕ → Type 0) where
    look_settles : (k : ℕ) (ks : List ℕ) (s u : Tables) → VisitsOperation x t k s u → AreSettledIn s (λ j. In j (k ∷ ks) ⊎ rest j) → AreSettledIn u (λ j. In j ks ⊎ rest j)
    look_settles k ks s u l settled j b o p r at = ⊎_elim (λ old. before (settled j b o p old at)) (λ new. inl new) (f.entered b r)
      where
        f : ValuesAreLowered s u
        f = l.applied.lowered

        here : j ≡ k → IsSatisfied x t (lattice_values_of s) (lattice_values_of u) j o
        here e = subst (λ z. IsSatisfied x t (lattice_values_of s) (lattice_values_of u) z o) (sym e) ((l.asks o (subst (λ z. op_at t z ≡ Some o) e at) (lattice_values_of u) f.below).0 l.applied.met)

        before : (is_block_on_worklist s b ≡ true) ⊎ IsSettledIn s j o ⊎ In j (k ∷ ks) ⊎ rest j → (is_block_on_worklist u b ≡ true) ⊎ IsSettledIn u j o ⊎ In j ks ⊎ rest j
        before (inl waits) = inl (f.blocks b waits)
        before (inr (inl y)) = inr (inl (again (nat_eq j k) refl))
          where
            again : (q : Bool) → nat_eq j k ≡ q → IsSettledIn u j o
            again true e = settled_now s u j o f l.stamped.lowered (here (eqb-true j k e))
            again false e = settled_then s u j o f l.stamped.lowered (l.stamped.others j (λ same. true≢false (sym (eq-eqb j k same) ∙ e))) y
        before (inr (inr (inl (inl e)))) = inr (inl (settled_now s u j o f l.stamped.lowered (here e)))
        before (inr (inr (inl (inr i)))) = inr (inr (inl i))
        before (inr (inr (inr h))) = inr (inr (inr h))

    pub through_settles : (ks : List ℕ) (s u : Tables) → VisitsInTurn x t ks s u → AreSettledIn s (λ j. In j ks ⊎ rest j) → AreSettledIn u rest
    through_settles [] s u Nothing settled = settled_wider (λ j. In j [] ⊎ rest j) rest s (λ j y. ⊎_elim (λ z. absurd z) (λ h. h) y) settled
    through_settles (k ∷ ks) s u (Then _ q l d) settled = through_settles ks q u d (look_settles k ks s q l settled)

  pub through_falls : (ks : List ℕ) (s u : Tables) → VisitsInTurn x t ks s u → ValuesAreLowered s u
  through_falls [] s u Nothing = falls_refl s
  through_falls (k ∷ ks) s u (Then _ q l d) = falls_trans s q u l.applied.lowered (through_falls ks q u d)

  -- whatever was kept
  pub looks_only : (ks : List ℕ) (s u : Tables) (edges edges' : FeasibleEdges) → VisitsInTurnAndKeeps x t ks s u edges edges' → VisitsInTurn x t ks s u
  looks_only [] s u edges edges' Nowhere = Nothing
  looks_only (k ∷ ks) s u edges edges' (Onward _ q kept a keeps d) = Then k q a (looks_only ks q u kept edges' d)

  module _ (w : IsTree t) where
    -- a block is taken: its operations are still to be visited
    pub block_settles : (rest : ℕ → Type 0) (c : ℕ) (s u : Tables) → PopsBlock c s u → AreSettledIn s rest → AreSettledIn u (λ j. In j (body_of t c) ⊎ rest j)
    block_settles rest c s u k settled j b o p r at = before (settled j b o p (sym (k.reached b) ∙ r) at)
      where
        taken : (q : Bool) → nat_eq c b ≡ q → is_block_on_worklist s b ≡ true → (is_block_on_worklist u b ≡ true) ⊎ IsSettledIn u j o ⊎ In j (body_of t c) ⊎ rest j
        taken true e waits = inr (inr (inl (subst (λ z. In j (body_of t z)) (sym (eqb-true c b e)) (w.bodies.listed j b p))))
        taken false e waits = inl (k.blocks b ∙ ap (λ z. if z then false else is_block_on_worklist s b) e ∙ waits)

        before : (is_block_on_worklist s b ≡ true) ⊎ IsSettledIn s j o ⊎ rest j → (is_block_on_worklist u b ≡ true) ⊎ IsSettledIn u j o ⊎ In j (body_of t c) ⊎ rest j
        before (inl waits) = taken (nat_eq c b) refl waits
        before (inr (inl y)) = inr (inl (record {
          seen = y.seen;
          met = met_still x t y.seen (lattice_values_of s) (lattice_values_of u) j o (below_same s u k.facts k.reached) y.met;
          same = λ v i. ⊎_elim (λ e. inl (k.facts v ∙ e)) (λ q. inr (k.values v ∙ q.0, behind_same t s u k.stamps j v q.1)) (y.same v i);
        }))
        before (inr (inr h)) = inr (inr (inr h))

  -- a block that comes to be reached is an entry of the operation's regions or a successor of it
  module _ (k : ℕ) (o : Operation) (liveness : op_at t k ≡ Some o) (s u : Tables) (l : VisitsOperation x t k s u) where
    not_else : (b : ℕ) → is_executable s b ≡ false → (In b (entries_of t k) → ⊥) → (In b (successors_of t k) → ⊥) → is_executable u b ≡ true → ⊥
    not_else b old no_entry no_successor new = true≢false (sym (least.is_executable b new) ∙ ap not (eq-eqb b b refl))
      where
        g : LatticeValues
        g = others_reached b

        below : AreAtMost g (lattice_values_of s)
        below = record { is_executable = λ z r. another b z (λ e. true≢false (sym r ∙ ap (is_executable s) (sym e) ∙ old)); lattice_value = λ v. inr (inl refl) }

        successor : (i z : ℕ) → slice_get o.successors i ≡ Some z → not (nat_eq b z) ≡ true
        successor i z e = another b z (λ same. no_successor (subst (λ q. In q (successors_of t k)) (sym same) (subst (In z) (sym (op_shows t k o liveness).successors) (in_slice o.successors i z e))))

        met : IsSatisfied x t (lattice_values_of s) g k o
        met = record {
          entries = λ i r z at e. (entry_apart t k b no_entry r z (subst (In r) (sym (op_shows t k o liveness).regions) (in_slice o.regions i r at)) e, λ j v a. unknown_below g.lattice_value (lattice_value_in s) o.operands (x.entry_operands (shape_of x.meaning t o) i j) v refl);
          branches = λ i z branch go. (successor i z go.0, λ j v y listed forwards. inr (inl refl));
          jumps = λ i z none e. (successor i z e, λ v j. refl);
          folded = λ i v a folds listed said. inr (inl refl);
          others = λ v none i. refl;
        }

        least : AreAtMost g (lattice_values_of u)
        least = l.applied.least g below ((l.asks o liveness g below).1 met)

    pub came_from : (b : ℕ) → is_executable u b ≡ true → (is_executable s b ≡ true) ⊎ In b (entries_of t k) ⊎ In b (successors_of t k)
    came_from b new = by (is_executable s b) refl (decide_in b (entries_of t k)) (decide_in b (successors_of t k))
      where
        by : (q : Bool) → is_executable s b ≡ q → In b (entries_of t k) ⊎ (In b (entries_of t k) → ⊥) → In b (successors_of t k) ⊎ (In b (successors_of t k) → ⊥) → (is_executable s b ≡ true) ⊎ In b (entries_of t k) ⊎ In b (successors_of t k)
        by true e p q = inl e
        by false e (inl i) q = inr (inl i)
        by false e (inr n) (inl i) = inr (inr i)
        by false e (inr n) (inr m) = absurd (not_else b e n m new)

-- an operation in a block that is reached is visited
module _ (x : Says) (t : Tree) (root : ℕ) (w : IsTree t) (edges : EdgesLast t root) where
  module _ (k c : ℕ) (s u : Tables) (l : VisitsOperation x t k s u) (placed : parent_of t k ≡ Some c) (here : is_executable s c ≡ true) (started : AreStarted t root (lattice_values_of s)) where
    operation : (o : Operation) × (op_at t k ≡ Some o)
    operation = let h = some_of _ (w.joined.all_in_place k c placed).0 in (_, make_op t k h.0 h.1)

    within : IsInside t root k
    within = inside_block c placed (started.inside c here)

    -- what holds it is the operation, or what holds the operation's block
    held_near : (b : ℕ) → is_executable u b ≡ true → (is_executable s b ≡ true) ⊎ (block_parent_operation_of t b ≡ Some k) ⊎ (block_parent_operation_of t b ≡ block_parent_operation_of t c)
    held_near b r = ⊎_elim (λ old. inl old) (λ y. ⊎_elim (λ i. inr (inl (entry_held t w k b i))) (λ i. inr (inr (successor i))) y) (came_from x t k operation.0 operation.1 s u l b r)
      where
        successor : In b (successors_of t k) → block_parent_operation_of t b ≡ block_parent_operation_of t c
        successor i =
            let e = edges k b i (inl within) in
            ap (λ o. up_from o (λ r. region_parent_of t r)) (e.own_region b i ∙ ap (block_parent_of t) (some_is (sym e.in_block ∙ placed)))

    still : (b : ℕ) → is_executable s b ≡ true → is_executable u b ≡ true
    still b r = l.applied.lowered.below.is_executable b r

    pub look_starts : AreStarted t root (lattice_values_of u)
    look_starts = record {
      inside = λ b r. ⊎_elim
          (λ old. started.inside b old)
          (λ y. ⊎_elim (λ e. (k, e, inr within)) (λ e. let h = started.inside c here in (h.0, e ∙ h.1, h.2)) y)
          (held_near b r);
      outside = λ v n. varies_still (lattice_value_in s v) (lattice_value_in u v) (l.applied.lowered.below.lattice_value v) (started.outside v n);
      entries = λ r b i e. entered_still x t (lattice_values_of s) (lattice_values_of u) b l.applied.lowered.below (started.entries r b i e);
    }

    stands_still : (j : ℕ) → IsInExecutableBlock t (lattice_values_of s) j → IsInExecutableBlock t (lattice_values_of u) j
    stands_still j y = (y.0, y.1, still y.0 y.2)

    pub look_holds : AreHeld t root (lattice_values_of s) → AreHeld t root (lattice_values_of u)
    look_holds held b j r e = ⊎_elim
        (λ old. ⊎_elim (λ h. inl h) (λ y. inr (stands_still j y)) (held b j old e))
        (λ y. ⊎_elim
        (λ h. inr (subst (IsInExecutableBlock t (lattice_values_of u)) (some_is (sym h ∙ e)) (c, placed, still c here)))
        (λ h. ⊎_elim (λ q. inl q) (λ z. inr (stands_still j z)) (held c j here (sym h ∙ e)))
        y)
        (held_near b r)

    pub look_known : AreKnownThere t root s → AreKnownThere t root u
    look_known known b v inside listed none = unknown_but t w s u b v listed none unknown still (l.applied.least g (below_but t w s u b v listed none unknown still) ((l.asks operation.0 operation.1 g (below_but t w s u b v listed none unknown still)).1 met))
      where
        unknown : lattice_value_in s v ≡ Undetermined
        unknown = known b v inside listed (not_yet s u b still none)

        g : LatticeValues
        g = all_but_one t w s u b v listed none unknown still

        argument : (z d : ℕ) → In z (arguments_of t d) → is_executable u d ≡ true → g.lattice_value z ≡ NotAConstant
        argument z d i r = argument_but t w s u b v listed none unknown still z d i r

        result : (z : ℕ) → In z (results_of t k) → g.lattice_value z ≡ NotAConstant
        result z i = varies_but t w s u b v listed none unknown still z c (In-right z (arguments_of t c) (flat_map (λ j. results_of t j) (body_of t c)) (In-flat_map (λ j. results_of t j) (body_of t c) k z (w.bodies.listed k c placed) i)) (still c here)

        met : IsSatisfied x t (lattice_values_of s) g k operation.0
        met =
            let m = (l.asks operation.0 operation.1 (lattice_values_of u) l.applied.lowered.below).0 l.applied.met in
            let shows = op_shows t k operation.0 operation.1 in
            let given : (z : ℕ) → In z operation.0.results → g.lattice_value z ≡ NotAConstant = λ z i. result z (subst (In z) (sym shows.results) i) in
            record {
              entries = λ i r z there e. let y = m.entries i r z there e in (y.0, λ j a q. unknown_below g.lattice_value (lattice_value_in s) operation.0.operands (x.entry_operands (shape_of x.meaning t operation.0) i j) a (argument a z (in_slice (arguments_of t z) j a q) y.0));
              branches = λ i z branch go. let y = m.branches i z branch go in (y.0, λ j a q at forwards. inr (inl (argument a z (in_slice (arguments_of t z) j a at) y.0)));
              jumps = λ i z none e. let y = m.jumps i z none e in (y.0, λ a j. argument a z j y.0);
              folded = λ i a q folds at said. inr (inl (given a (in_slice operation.0.results i a at)));
              others = λ a none i. given a i;
            }
