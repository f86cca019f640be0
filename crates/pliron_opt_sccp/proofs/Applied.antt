-- Facts fall step by step.
use Rattle.std.proofs.Common.{◌≡◌, ◌≢◌, ◌⊎◌, ◌↔◌, inl, inr, ⊎_elim, ℕ, Bool, true, false, true≢false, nat_eq, if◌then◌else◌, List, [], ◌∷◌, ◌++◌, append_assoc, slice_get, refl, sym, ap, ◌∙◌, subst, arith, IsTrue}
use Rattle.std.proofs.lemmas.List.{append-nil}
use Rattle.std.proofs.lemmas.Bool.{eqb-true, eq-eqb}
use Rattle.pliron_theory.specs.LatticeValues.{LatticeValue, Undetermined, Constant, NotAConstant, AtMost, LatticeValues}
use Rattle.pliron_theory.proofs.FactLattice.{at_most_refl, at_most_trans}
use Rattle.pliron_opt_sccp.specs.declared.lattice_tables.Tables.{Tables}
use Rattle.pliron_core.specs.declared.attrs.AttrObj.{AttrObj}
use Rattle.pliron_opt_sccp.specs.declared.lattice_tables.LatticeCell.{LatticeCell}
use Rattle.pliron_opt_sccp.specs.declared.constraints.Constraint.{Constraint}
use Rattle.pliron_opt_sccp.specs.declared.constraints.Constraint.TheVariants.{Enter, Lower, Answer}
use Rattle.pliron_opt_sccp.specs.LatticeTables.{known_constants, lattice_value_in, lowest_lattice_values, is_executable, is_block_on_worklist, is_value_on_worklist, lattice_values_of, Enters, Lowers}
use Rattle.pliron_opt_sccp.specs.Constraints.{CanSatisfy, Satisfies, SatisfiesAll}
use Rattle.pliron_opt_sccp.specs.LatticeCells.{KeepsConstants, Means}
use Rattle.pliron_opt_sccp.specs.Settling.{AreAtMost}
use Rattle.pliron_opt_sccp.specs.Lowering.{ValuesAreLowered, IsApplied}
use Rattle.pliron_opt_sccp.specs.OperationVisits.{StampsIt}
use Rattle.pliron_core.specs.Tree.{Tree}
use Rattle.pliron_opt_sccp.proofs.Written.{means_kept, means_same}

same_below : (f g : LatticeValue) → g ≡ f → AtMost g f
same_below f g e = inr (inr e)

pub below_refl : (f : LatticeValues) → AreAtMost f f
below_refl f = record { is_executable = λ b r. r; lattice_value = λ v. at_most_refl (f.lattice_value v) }

pub below_trans : (f g h : LatticeValues) → AreAtMost f g → AreAtMost g h → AreAtMost f h
below_trans f g h a b = record { is_executable = λ c r. a.is_executable c (b.is_executable c r); lattice_value = λ v. at_most_trans (f.lattice_value v) (g.lattice_value v) (h.lattice_value v) (a.lattice_value v) (b.lattice_value v) }

met_below : (constants : List AttrObj) (f g : LatticeValues) (ds : List Constraint) → AreAtMost g f → SatisfiesAll constants f ds → SatisfiesAll constants g ds
met_below constants f g [] below m = tt
met_below constants f g (Enter b ∷ ds) below m = (below.is_executable b m.0, met_below constants f g ds below m.1)
met_below constants f g (Lower v cell ∷ ds) below m = ((m.0.0, m.0.1, at_most_trans (g.lattice_value v) (f.lattice_value v) m.0.0 (below.lattice_value v) m.0.2), met_below constants f g ds below m.1)
met_below constants f g (Answer v c ∷ ds) below m = (at_most_trans (g.lattice_value v) (f.lattice_value v) (Constant c) (below.lattice_value v) m.0, met_below constants f g ds below m.1)

pub falls_refl : (s : Tables) → ValuesAreLowered s s
falls_refl s = record { below = below_refl (lattice_values_of s); waits_if_lowered = λ v. inl refl; entered = λ b r. inl r; values = λ v w. w; blocks = λ b w. w; lowered_stamps = λ v w. inl w; came = λ b w. inl w; numbers = λ b. refl; keeps = λ k c e. e }

pub at_most_both : (f g : LatticeValue) → AtMost f g → AtMost g f → f ≡ g
at_most_both f g (inl u) (inl v) = v ∙ sym u
at_most_both f g (inl u) (inr (inl n)) = let x : Undetermined ≡ NotAConstant = sym u ∙ n in absurd (grind arith)
at_most_both f g (inl u) (inr (inr e)) = sym e
at_most_both f g (inr (inl n)) (inl u) = let x : Undetermined ≡ NotAConstant = sym u ∙ n in absurd (grind arith)
at_most_both f g (inr (inl n)) (inr (inl m)) = n ∙ sym m
at_most_both f g (inr (inl n)) (inr (inr e)) = sym e
at_most_both f g (inr (inr e)) below = e

-- where the last of three facts is the first one, so is the one between
between : (f g h : LatticeValue) → AtMost g f → AtMost h g → h ≡ f → g ≡ f
between f g h p q e = at_most_both g f p (subst (λ z. AtMost z g) e q)

pub falls_trans : (s s1 s2 : Tables) → ValuesAreLowered s s1 → ValuesAreLowered s1 s2 → ValuesAreLowered s s2
falls_trans s s1 s2 p q = record {
  below = below_trans (lattice_values_of s2) (lattice_values_of s1) (lattice_values_of s) q.below p.below;
  waits_if_lowered = λ v. ⊎_elim (λ e. ⊎_elim (λ d. inl (e ∙ d)) (λ w. inr (q.values v w)) (p.waits_if_lowered v)) (λ w. inr w) (q.waits_if_lowered v);
  entered = λ b r. ⊎_elim (λ e. ⊎_elim (λ d. inl d) (λ w. inr (q.blocks b w)) (p.entered b e)) (λ w. inr w) (q.entered b r);
  values = λ v w. q.values v (p.values v w);
  blocks = λ b w. q.blocks b (p.blocks b w);
  lowered_stamps = λ v w. ⊎_elim
      (λ x. ⊎_elim (λ y. inl y) (λ n. inr (λ e. n (mid v e))) (p.lowered_stamps v x))
      (λ n. inr (λ e. n (e ∙ sym (mid v e))))
      (q.lowered_stamps v w);
  came = λ b w. ⊎_elim
      (λ x. ⊎_elim (λ y. inl y) (λ n. inr (n.0, q.below.is_executable b n.1)) (p.came b x))
      (λ n. inr (not_before b n.0, n.1))
      (q.came b w);
  numbers = λ b. q.numbers b ∙ p.numbers b;
  keeps = λ k c e. q.keeps k c (p.keeps k c e);
}
  where
    mid : (v : ℕ) → lattice_value_in s2 v ≡ lattice_value_in s v → lattice_value_in s1 v ≡ lattice_value_in s v
    mid v e = between (lattice_value_in s v) (lattice_value_in s1 v) (lattice_value_in s2 v) (p.below.lattice_value v) (q.below.lattice_value v) e

    not_before : (b : ℕ) → is_executable s1 b ≡ false → is_executable s b ≡ false
    not_before b r = by (is_executable s b) refl
      where
        by : (c : Bool) → is_executable s b ≡ c → is_executable s b ≡ false
        by true e = absurd (true≢false (sym (p.below.is_executable b e) ∙ r))
        by false e = e

pub applied_none : (constants : List AttrObj) (s : Tables) → IsApplied constants [] s s
applied_none constants s = record { lowered = falls_refl s; met = tt; least = λ g below m. below }

pub applied_more : (constants : List AttrObj) (d : Constraint) (ds : List Constraint) (s s1 s2 : Tables) → IsApplied constants ds s s1 → IsApplied constants (d ∷ []) s1 s2 → IsApplied constants (d ∷ ds) s s2
applied_more constants d ds s s1 s2 p q = record {
  lowered = falls_trans s s1 s2 p.lowered q.lowered;
  met = (q.met.0, met_below constants (lattice_values_of s1) (lattice_values_of s2) ds q.lowered.below p.met);
  least = λ g below m. q.least g (p.least g below m.1) (m.0, tt);
}

-- two tables say the same, but for stamps of looks
module _ (t : Tree) (k : ℕ) (s u : Tables) (same : StampsIt t k s u) where
  same_falls : ValuesAreLowered s u
  same_falls = record {
    below = record { is_executable = λ b r. same.reached b ∙ r; lattice_value = λ v. same_below (lattice_value_in s v) (lattice_value_in u v) (same.facts v) };
    waits_if_lowered = λ v. inl (same.facts v);
    entered = λ b r. inl (sym (same.reached b) ∙ r);
    values = λ v w. same.values v ∙ w;
    blocks = λ b w. same.blocks b ∙ w;
    lowered_stamps = λ v w. inl (sym (same.values v) ∙ w);
    came = λ b w. inl (sym (same.blocks b) ∙ w);
    numbers = same.numbers;
    keeps = λ n c e. ap (λ z. slice_get z n) same.constants ∙ e;
  }

  pub can_satisfy_same : (constraints : List Constraint) → CanSatisfy s constraints → CanSatisfy u constraints
  can_satisfy_same constraints can = subst (λ z. SatisfiesAll z (lowest_lattice_values u) constraints) (sym same.constants)
      (met_below (known_constants s) (lowest_lattice_values s) (lowest_lattice_values u) constraints (record { is_executable = λ b r. same.numbers b ∙ r; lattice_value = λ v. inr (inr refl) }) can)

  pub applied_same : (constraints : List Constraint) (w : Tables) → IsApplied (known_constants u) constraints u w → IsApplied (known_constants s) constraints s w
  applied_same constraints w a = record {
    lowered = falls_trans s u w same_falls a.lowered;
    met = subst (λ z. SatisfiesAll z (lattice_values_of w) constraints) same.constants a.met;
    least = λ g below m. a.least g
        (record { is_executable = λ b r. below.is_executable b (sym (same.reached b) ∙ r); lattice_value = λ v. subst (AtMost (g.lattice_value v)) (sym (same.facts v)) (below.lattice_value v) })
        (subst (λ z. SatisfiesAll z g constraints) (sym same.constants) m);
  }

-- one block is entered
module _ (block : ℕ) (s s' : Tables) (e : Enters block s s') where
  -- it was reached already, or waits from now on
  waits_if_entered : ((is_executable s block ≡ true) × ((b : ℕ) → is_block_on_worklist s' b ≡ is_block_on_worklist s b)) ⊎ ((is_executable s block ≡ false) × ((b : ℕ) → is_block_on_worklist s' b ≡ (if nat_eq block b then true else is_block_on_worklist s b)))
  waits_if_entered = by (is_executable s block) refl
    where
      same : (b : ℕ) (q : Bool) → nat_eq block b ≡ q → (if q then is_block_on_worklist s block else is_block_on_worklist s b) ≡ is_block_on_worklist s b
      same b true is = ap (is_block_on_worklist s) (eqb-true block b is)
      same b false is = refl

      by : (c : Bool) → is_executable s block ≡ c → ((is_executable s block ≡ true) × ((b : ℕ) → is_block_on_worklist s' b ≡ is_block_on_worklist s b)) ⊎ ((is_executable s block ≡ false) × ((b : ℕ) → is_block_on_worklist s' b ≡ (if nat_eq block b then true else is_block_on_worklist s b)))
      by true r = inl (r, λ b. e.blocks b ∙ ap (λ c. if nat_eq block b then (if c then is_block_on_worklist s block else true) else is_block_on_worklist s b) r ∙ same b (nat_eq block b) refl)
      by false r = inr (r, λ b. e.blocks b ∙ ap (λ c. if nat_eq block b then (if c then is_block_on_worklist s block else true) else is_block_on_worklist s b) r)

  reached_then : (b : ℕ) → is_executable s b ≡ true → is_executable s' b ≡ true
  reached_then b r = e.reached b ∙ by (nat_eq block b)
    where
      by : (c : Bool) → (if c then true else is_executable s b) ≡ true
      by true = refl
      by false = r

  reached_before : (b : ℕ) → is_executable s' b ≡ true → (block ≡ b) ⊎ (is_executable s b ≡ true)
  reached_before b r = by (nat_eq block b) refl
    where
      by : (c : Bool) → nat_eq block b ≡ c → (block ≡ b) ⊎ (is_executable s b ≡ true)
      by true same = inl (eqb-true block b same)
      by false other = inr (ap (λ c. if c then true else is_executable s b) (sym other) ∙ sym (e.reached b) ∙ r)

  waited_then : (b : ℕ) → is_block_on_worklist s b ≡ true → is_block_on_worklist s' b ≡ true
  waited_then b w = ⊎_elim (λ p. p.1 b ∙ w) (λ p. p.1 b ∙ by (nat_eq block b)) waits_if_entered
    where
      by : (c : Bool) → (if c then true else is_block_on_worklist s b) ≡ true
      by true = refl
      by false = w

  waits_now : (b : ℕ) → block ≡ b → is_executable s' b ≡ true → (is_executable s b ≡ true) ⊎ (is_block_on_worklist s' b ≡ true)
  waits_now b same r = ⊎_elim
      (λ p. inl (ap (is_executable s) (sym same) ∙ p.0))
      (λ p. inr (p.1 b ∙ ap (λ c. if c then true else is_block_on_worklist s b) (equal block b same)))
      waits_if_entered
    where
      equal : (x y : ℕ) → x ≡ y → nat_eq x y ≡ true
      equal x y s = eq-eqb x y s

  came_now : (b : ℕ) → is_block_on_worklist s' b ≡ true → (is_block_on_worklist s b ≡ true) ⊎ ((is_executable s b ≡ false) × (is_executable s' b ≡ true))
  came_now b w = ⊎_elim (λ p. inl (sym (p.1 b) ∙ w)) (λ p. by (nat_eq block b) refl p.0 (p.1 b)) waits_if_entered
    where
      by : (c : Bool) → nat_eq block b ≡ c → is_executable s block ≡ false → is_block_on_worklist s' b ≡ (if nat_eq block b then true else is_block_on_worklist s b) → (is_block_on_worklist s b ≡ true) ⊎ ((is_executable s b ≡ false) × (is_executable s' b ≡ true))
      by true same r is = inr (ap (is_executable s) (sym (eqb-true block b same)) ∙ r, e.reached b ∙ ap (λ c. if c then true else is_executable s b) same)
      by false other r is = inl (sym (is ∙ ap (λ c. if c then true else is_block_on_worklist s b) other) ∙ w)

  entered_falls : ValuesAreLowered s s'
  entered_falls = record {
    below = record { is_executable = λ b r. reached_then b r; lattice_value = λ v. same_below (lattice_value_in s v) (lattice_value_in s' v) (e.facts v) };
    waits_if_lowered = λ v. inl (e.facts v);
    entered = λ b r. ⊎_elim (λ same. waits_now b same r) (λ old. inl old) (reached_before b r);
    values = λ v w. e.values v ∙ w;
    blocks = waited_then;
    lowered_stamps = λ v w. inl (sym (e.values v) ∙ w);
    came = came_now;
    numbers = e.numbers;
    keeps = e.keeps;
  }

  pub enter_applied : (constants : List AttrObj) → IsApplied constants (Enter block ∷ []) s s'
  enter_applied constants = record {
    lowered = entered_falls;
    met = (e.reached block ∙ ap (λ c. if c then true else is_executable s block) (equal block), tt);
    least = λ g below m. record {
      is_executable = λ b r. ⊎_elim (λ same. subst (λ z. IsTrue (g.is_executable z)) same m.0) (λ old. below.is_executable b old) (reached_before b r);
      lattice_value = λ v. subst (AtMost (g.lattice_value v)) (sym (e.facts v)) (below.lattice_value v);
    };
  }
    where
      equal : (x : ℕ) → nat_eq x x ≡ true
      equal x = eq-eqb x x refl

-- one fact falls
module _ (value : ℕ) (to : LatticeValue) (s s' : Tables) (l : Lowers value to s s') where
  here_or : (v : ℕ) → (value ≡ v) ⊎ (nat_eq value v ≡ false)
  here_or v = by (nat_eq value v) refl
    where
      by : (c : Bool) → nat_eq value v ≡ c → (value ≡ v) ⊎ (nat_eq value v ≡ false)
      by true same = inl (eqb-true value v same)
      by false other = inr other

  fact_then : (v : ℕ) → AtMost (lattice_value_in s' v) (lattice_value_in s v)
  fact_then v = ⊎_elim (λ same. subst (λ z. AtMost (lattice_value_in s' z) (lattice_value_in s z)) same l.met.first) (λ other. same_below (lattice_value_in s v) (lattice_value_in s' v) (l.others v other).0) (here_or v)

  told_here : (lattice_value_in s' value ≡ lattice_value_in s value) ⊎ (is_value_on_worklist s' value ≡ true)
  told_here = ⊎_elim (λ p. inl p.0) (λ p. inr p.1) l.waits_if_lowered

  waits_here : is_value_on_worklist s value ≡ true → is_value_on_worklist s' value ≡ true
  waits_here w = ⊎_elim (λ p. p.1 ∙ w) (λ p. p.1) l.waits_if_lowered

  fell_here : is_value_on_worklist s' value ≡ true → (is_value_on_worklist s value ≡ true) ⊎ (lattice_value_in s' value ≢ lattice_value_in s value)
  fell_here w = ⊎_elim (λ p. inl (sym p.1 ∙ w)) (λ p. inr p.0) l.waits_if_lowered

  lowered_falls : ValuesAreLowered s s'
  lowered_falls = record {
    below = record { is_executable = λ b r. l.reached b ∙ r; lattice_value = fact_then };
    waits_if_lowered = λ v. ⊎_elim (λ same. subst (λ z. (lattice_value_in s' z ≡ lattice_value_in s z) ⊎ (is_value_on_worklist s' z ≡ true)) same told_here) (λ other. inl (l.others v other).0) (here_or v);
    entered = λ b r. inl (sym (l.reached b) ∙ r);
    values = λ v w. ⊎_elim (λ same. subst (λ z. is_value_on_worklist s z ≡ true → is_value_on_worklist s' z ≡ true) same waits_here w) (λ other. (l.others v other).1 ∙ w) (here_or v);
    blocks = λ b w. l.blocks b ∙ w;
    lowered_stamps = λ v w. ⊎_elim
        (λ same. subst (λ z. is_value_on_worklist s' z ≡ true → (is_value_on_worklist s z ≡ true) ⊎ (lattice_value_in s' z ≢ lattice_value_in s z)) same fell_here w)
        (λ other. inl (sym (l.others v other).1 ∙ w))
        (here_or v);
    came = λ b w. inl (sym (l.blocks b) ∙ w);
    numbers = l.numbers;
    keeps = l.keeps;
  }

  least_here : (g : LatticeValues) → AreAtMost g (lattice_values_of s) → AtMost (g.lattice_value value) to → AreAtMost g (lattice_values_of s')
  least_here g below m = record {
    is_executable = λ b r. below.is_executable b (sym (l.reached b) ∙ r);
    lattice_value = λ v. ⊎_elim
        (λ same. subst (λ z. AtMost (g.lattice_value z) (lattice_value_in s' z)) same (l.met.greatest (g.lattice_value value) (below.lattice_value value) m))
        (λ other. subst (AtMost (g.lattice_value v)) (sym (l.others v other).0) (below.lattice_value v))
        (here_or v);
  }

  pub lower_applied : (constants : List AttrObj) (cell : LatticeCell) → Means constants cell to → IsApplied constants (Lower value cell ∷ []) s s'
  lower_applied constants cell means = record {
    lowered = lowered_falls;
    met = ((to, means, l.met.second), tt);
    least = λ g below m. least_here g below (subst (AtMost (g.lattice_value value)) (means_same constants cell m.0.0 to m.0.1 means) m.0.2);
  }

pub answer_applied : (value : ℕ) (c : AttrObj) (s s' : Tables) (l : Lowers value (Constant c) s s') (constants : List AttrObj) → IsApplied constants (Answer value c ∷ []) s s'
answer_applied value c s s' l constants = record {
  lowered = lowered_falls value (Constant c) s s' l;
  met = (l.met.second, tt);
  least = λ g below m. least_here value (Constant c) s s' l g below m.0;
}

-- what is asked by a list of constants means the same by a longer one
module _ (old new : List AttrObj) (keeps : KeepsConstants old new) (low : LatticeValues) where
  meets_kept : (d : Constraint) → Satisfies old low d → (g : LatticeValues) → Satisfies old g d ↔ Satisfies new g d
  meets_kept (Enter b) m g = (λ p. p, λ p. p)
  meets_kept (Lower v cell) m g = (
    λ p. (p.0, means_kept old new keeps cell p.0 p.1, p.2),
    λ p. (m.0, m.1, subst (AtMost (g.lattice_value v)) (means_same new cell p.0 m.0 p.1 (means_kept old new keeps cell m.0 m.1)) p.2),
  )
  meets_kept (Answer v c) m g = (λ p. p, λ p. p)

  applied_kept : (d : Constraint) (s s' : Tables) → Satisfies old low d → IsApplied new (d ∷ []) s s' → IsApplied old (d ∷ []) s s'
  applied_kept d s s' m a = record {
    lowered = a.lowered;
    met = ((meets_kept d m (lattice_values_of s')).1 a.met.0, tt);
    least = λ g below p. a.least g below ((meets_kept d m g).0 p.0, tt);
  }

-- what the tables can meet, they can meet after facts fell
meets_then : (s s' : Tables) → ValuesAreLowered s s' → (d : Constraint) → Satisfies (known_constants s) (lowest_lattice_values s) d → Satisfies (known_constants s') (lowest_lattice_values s') d
meets_then s s' f (Enter b) m = f.numbers b ∙ m
meets_then s s' f (Lower v cell) m = (m.0, means_kept (known_constants s) (known_constants s') f.keeps cell m.0 m.1, inr (inl refl))
meets_then s s' f (Answer v c) m = inr (inl refl)

meets_amid : (constants : List AttrObj) (g : LatticeValues) (before : List Constraint) (d : Constraint) (after : List Constraint) → SatisfiesAll constants g ((before ++ d ∷ []) ++ after) → Satisfies constants g d
meets_amid constants g [] d after m = m.0
meets_amid constants g (x ∷ before) d after m = meets_amid constants g before d after m.1

-- the last ones of a list are done first
abbrev pub IsDone : List Constraint → Tables → List Constraint → Tables → Type 0
IsDone all s rest now = (done : List Constraint) × (all ≡ rest ++ done) × IsApplied (known_constants s) done s now

pub start_done : (all : List Constraint) (s : Tables) → IsDone all s all s
start_done all s = ([], sym (append-nil all), applied_none (known_constants s) s)

module _ (all : List Constraint) (last : Constraint) (now next : List Constraint) (s s1 : Tables) (can : CanSatisfy s all) (e : now ≡ next ++ last ∷ []) (d : IsDone all s now s1) where
  last_met : Satisfies (known_constants s) (lowest_lattice_values s) last
  last_met = meets_amid (known_constants s) (lowest_lattice_values s) next last d.0 (subst (SatisfiesAll (known_constants s) (lowest_lattice_values s)) (d.1 ∙ ap (λ z. z ++ d.0) e) can)

  pub can_meet_last : CanSatisfy s1 (last ∷ [])
  can_meet_last = (meets_then s s1 d.2.lowered last last_met, tt)

  pub next_done : (s2 : Tables) → IsApplied (known_constants s1) (last ∷ []) s1 s2 → IsDone all s next s2
  next_done s2 a = (last ∷ d.0, d.1 ∙ ap (λ z. z ++ d.0) e ∙ append_assoc next (last ∷ []) d.0, applied_more (known_constants s) last d.0 s s1 s2 d.2 (applied_kept (known_constants s) (known_constants s1) d.2.lowered.keeps (lowest_lattice_values s) last s1 s2 last_met a))

pub all_done : (all now : List Constraint) (s s1 : Tables) → now ≡ [] → IsDone all s now s1 → IsApplied (known_constants s) all s s1
all_done all now s s1 e d = subst (λ z. IsApplied (known_constants s) z s s1) (sym (d.1 ∙ ap (λ z. z ++ d.0) e)) d.2
