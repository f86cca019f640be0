-- What cells mean once one of them is written, and how many constants there can be.
use Rattle.std.proofs.Common.{◌≡◌, ◌⊎◌, inl, inr, ℕ, zero, suc, ◌+◌, ◌<◌, ◌≤◌, Bool, true, false, true≢false, nat_eq, if◌then◌else◌, List, [], ◌∷◌, ◌++◌, length, slice_get, Option, Some, None, refl, sym, ap, ◌∙◌, subst, arith}
use Rattle.std.specs.List.{position, slice_index_or, slice_set}
use Rattle.pliron_core.specs.declared.attrs.AttrObj.{AttrObj}
use Rattle.pliron_theory.specs.LatticeValues.{LatticeValue, Undetermined, Constant, NotAConstant, AtMost}
use Rattle.pliron_theory.proofs.FactLattice.{at_most_refl}
use Rattle.pliron_opt_sccp.specs.declared.lattice_tables.LatticeCell.{LatticeCell}
use Rattle.pliron_opt_sccp.specs.declared.lattice_tables.LatticeCell.TheVariants.{Undetermined as Unknown, Constant as Known, NotAConstant as Varying}
use Rattle.pliron_opt_sccp.specs.declared.lattice_tables.Tables.{Tables}
use Rattle.pliron_opt_sccp.specs.LatticeCells.{cell_at, constant_or, is_unknown, value_of_cell, unknown_count, KeepsConstants, Means}
use Rattle.pliron_opt_sccp.specs.LatticeTables.{known_constants, lattice_value_in, lowered_stamp, is_numbered, visit_stamp, is_executable, is_block_on_worklist, is_value_on_worklist, LowersTo, IsMeet, KeepsStamps, Lowers, JoinsWorklist}
use Rattle.std.specs.Option.{IfNone}
use Rattle.std.proofs.lemmas.List.{get_or-set_same}
use Rattle.pliron_opt_sccp.proofs.Worklists.{read_set, same_number}
use Rattle.std.proofs.lemmas.Bool.{eq-eqb, eqb-true}

pub means_said : (constants : List AttrObj) (cell : LatticeCell) (f : LatticeValue) → Means constants cell f → value_of_cell constants cell ≡ f
means_said constants Unknown f m = sym m
means_said constants (Known k) f m = ap constant_or m.1 ∙ sym m.2
means_said constants Varying f m = sym m

pub means_same : (constants : List AttrObj) (cell : LatticeCell) (f g : LatticeValue) → Means constants cell f → Means constants cell g → f ≡ g
means_same constants cell f g m n = sym (means_said constants cell f m) ∙ means_said constants cell g n

pub means_kept : (old new : List AttrObj) → KeepsConstants old new → (cell : LatticeCell) (f : LatticeValue) → Means old cell f → Means new cell f
means_kept old new keeps Unknown f m = m
means_kept old new keeps (Known k) f m = (m.0, keeps k m.0 m.1, m.2)
means_kept old new keeps Varying f m = m

get_within : (constants : List AttrObj) (k : ℕ) → k < length constants → (c : AttrObj) × (slice_get constants k ≡ Some c)
get_within [] k lt = absurd (omega (arith, lt))
get_within (c ∷ constants) zero lt = (c, refl)
get_within (c ∷ constants) (suc k) lt = get_within constants k (omega (arith, lt))

pub means_of : (constants : List AttrObj) (cell : LatticeCell) → ((k : ℕ) → cell ≡ Known k → k < length constants) → Means constants cell (value_of_cell constants cell)
means_of constants Unknown below = refl
means_of constants (Known k) below = let g = get_within constants k (below k refl) in (g.0, g.1, ap constant_or g.1)
means_of constants Varying below = refl

-- a number that means something is below the length
pub means_below : (constants : List AttrObj) (k : ℕ) (f : LatticeValue) → Means constants (Known k) f → k < length constants
means_below constants k f m = past constants k m.0 m.1
  where
    past : (cs : List AttrObj) (n : ℕ) (c : AttrObj) → slice_get cs n ≡ Some c → n < length cs
    past [] n c e = absurd (none_some e)
      where
        is_none : Option AttrObj → Bool
        is_none None = true
        is_none (Some x) = false

        none_some : {x : AttrObj} → ◌≡◌ {A = Option AttrObj} None (Some x) → ⊥
        none_some e = true≢false (ap is_none e)
    past (x ∷ cs) zero c e = omega arith
    past (x ∷ cs) (suc n) c e = let l = past cs n c e in omega (arith, l)

abbrev is_known : LatticeCell → Bool
is_known Unknown = false
is_known (Known k) = true
is_known Varying = false

pub no_constant : (k : ℕ) → Varying ≡ Known k → ⊥
no_constant k e = true≢false (sym (ap is_known e))

pub read_known : (cells : List LatticeCell) (n k : ℕ) → slice_index_or cells n Varying ≡ Known k → slice_get cells n ≡ Some (Known k)
read_known [] n k e = absurd (true≢false (sym (ap is_known e)))
read_known (c ∷ cells) zero k e = ap Some e
read_known (c ∷ cells) (suc n) k e = read_known cells n k e

pub means_at : (constants : List AttrObj) (cells : List LatticeCell) → ((n k : ℕ) → slice_get cells n ≡ Some (Known k) → k < length constants) → (o : Option ℕ) → Means constants (cell_at cells o) (value_of_cell constants (cell_at cells o))
means_at constants cells known None = refl
means_at constants cells known (Some n) = means_of constants (slice_index_or cells n Varying) (λ k e. known n k (read_known cells n k e))

-- the numbers in cells, once one is written
pub known_set : (cells : List LatticeCell) (n : ℕ) (new : LatticeCell) (q k : ℕ) → slice_get (slice_set cells n new) q ≡ Some (Known k) → (new ≡ Known k) ⊎ (slice_get cells q ≡ Some (Known k))
known_set [] n new q k e = inr e
known_set (c ∷ cells) zero new zero k e = inl (some_cell e)
  where
    or_new : Option LatticeCell → LatticeCell
    or_new None = new
    or_new (Some x) = x

    some_cell : ◌≡◌ {A = Option LatticeCell} (Some new) (Some (Known k)) → new ≡ Known k
    some_cell e = ap or_new e
known_set (c ∷ cells) zero new (suc q) k e = inr e
known_set (c ∷ cells) (suc n) new zero k e = inr e
known_set (c ∷ cells) (suc n) new (suc q) k e = known_set cells n new q k e

-- how many are not known, once one is written
pub count_kept : (cells : List LatticeCell) (n : ℕ) (new : LatticeCell) → is_unknown new ≡ false → unknown_count (slice_set cells n new) ≤ unknown_count cells
count_kept [] n new e = omega arith
count_kept (Unknown ∷ cells) zero Unknown e = absurd (true≢false e)
count_kept (Unknown ∷ cells) zero (Known k) e = omega arith
count_kept (Unknown ∷ cells) zero Varying e = omega arith
count_kept (Known j ∷ cells) zero Unknown e = absurd (true≢false e)
count_kept (Known j ∷ cells) zero (Known k) e = omega arith
count_kept (Known j ∷ cells) zero Varying e = omega arith
count_kept (Varying ∷ cells) zero Unknown e = absurd (true≢false e)
count_kept (Varying ∷ cells) zero (Known k) e = omega arith
count_kept (Varying ∷ cells) zero Varying e = omega arith
count_kept (Unknown ∷ cells) (suc n) new e = let l = count_kept cells n new e in omega (arith, l)
count_kept (Known j ∷ cells) (suc n) new e = let l = count_kept cells n new e in omega (arith, l)
count_kept (Varying ∷ cells) (suc n) new e = let l = count_kept cells n new e in omega (arith, l)

pub count_taken : (cells : List LatticeCell) (n k : ℕ) → slice_index_or cells n Varying ≡ Unknown → unknown_count (slice_set cells n (Known k)) + 1 ≡ unknown_count cells
count_taken [] n k e = absurd (true≢false (sym (ap is_unknown e)))
count_taken (Unknown ∷ cells) zero k e = omega arith
count_taken (Known j ∷ cells) zero k e = absurd (true≢false (sym (ap is_unknown e)))
count_taken (Varying ∷ cells) zero k e = absurd (true≢false (sym (ap is_unknown e)))
count_taken (Unknown ∷ cells) (suc n) k e = let l = count_taken cells n k e in omega (arith, l)
count_taken (Known j ∷ cells) (suc n) k e = count_taken cells n k e
count_taken (Varying ∷ cells) (suc n) k e = count_taken cells n k e

-- one more constant keeps the others
pub keeps_more : (constants : List AttrObj) (c : AttrObj) → KeepsConstants constants (constants ++ c ∷ [])
keeps_more [] c k d e = absurd (deleted e)
  where
    is_none : Option AttrObj → Bool
    is_none None = true
    is_none (Some x) = false

    deleted : ◌≡◌ {A = Option AttrObj} None (Some d) → ⊥
    deleted e = true≢false (ap is_none e)
keeps_more (x ∷ constants) c zero d e = e
keeps_more (x ∷ constants) c (suc k) d e = keeps_more constants c k d e

pub last_constant : (constants : List AttrObj) (c : AttrObj) → slice_get (constants ++ c ∷ []) (length constants) ≡ Some c
last_constant [] c = refl
last_constant (x ∷ constants) c = last_constant constants c

pub said_kept : (old new : List AttrObj) → KeepsConstants old new → (cell : LatticeCell) → Means old cell (value_of_cell old cell) → value_of_cell new cell ≡ value_of_cell old cell
said_kept old new keeps cell m = means_said new cell (value_of_cell old cell) (means_kept old new keeps cell (value_of_cell old cell) m)

-- a fact that is at or below falls no further
pub stays_low : (value : ℕ) (to : LatticeValue) (s : Tables) → AtMost (lattice_value_in s value) to → Lowers value to s s
stays_low value to s low = record {
  met = record { first = at_most_refl (lattice_value_in s value); second = low; greatest = λ l p q. p };
  waits_if_lowered = inl (refl, refl);
  others = λ v e. (refl, refl);
  reached = λ b. refl;
  blocks = λ b. refl;
  numbers = λ b. refl;
  stamps = record { visit_stamps = λ f. refl; lowered = λ v. inl (refl, refl) };
  keeps = λ k c e. e;
}

-- a cell is written, and then its value waits
pub falls_then : {u : Tables} (s s' : Tables) (value n : ℕ) (to m : LatticeValue) → JoinsWorklist n u s' → position (nat_eq value) s.values.keys ≡ Some n → u.values.keys ≡ s.values.keys → lattice_value_in u value ≡ m → ((v : ℕ) → nat_eq value v ≡ false → lattice_value_in u v ≡ lattice_value_in s v) → ((v : ℕ) → is_value_on_worklist u v ≡ is_value_on_worklist s v) → ((b : ℕ) → is_executable u b ≡ is_executable s b) → ((b : ℕ) → is_block_on_worklist u b ≡ is_block_on_worklist s b) → ((b : ℕ) → is_numbered u b ≡ is_numbered s b) → KeepsStamps s u → KeepsConstants (known_constants s) (known_constants u) → LowersTo (lattice_value_in s value) to m → Lowers value to s s'
falls_then {u} s s' value n to m w at keys here others waiting reached blocks numbers stamps keeps fall = record {
  met = subst (IsMeet (lattice_value_in s value) to) (sym is) fall.0;
  waits_if_lowered = inr ((λ e. fall.1 (sym is ∙ e)), w.waits value at_u);
  others = λ v e. (w.facts v ∙ others v e, w.others v (apart v e) ∙ waiting v);
  stamps = record { visit_stamps = λ f. w.visit_stamps f ∙ stamps.visit_stamps f; lowered = λ v. stamped v (nat_eq value v) refl };
  reached = λ b. w.reached b ∙ reached b;
  blocks = λ b. w.blocks b ∙ blocks b;
  numbers = λ b. w.numbers b ∙ numbers b;
  keeps = λ k c e. w.keeps k c (keeps k c e);
}
  where
    at_u : position (nat_eq value) u.values.keys ≡ Some n
    at_u = ap (position (nat_eq value)) keys ∙ at

    apart : (v : ℕ) → nat_eq value v ≡ false → position (nat_eq v) u.values.keys ≡ Some n → ⊥
    apart v e same = true≢false (sym (eq-eqb value v (same_number u.values.keys value v n at_u same)) ∙ e)

    stamped : (v : ℕ) (q : Bool) → nat_eq value v ≡ q → ((lattice_value_in s' v ≡ lattice_value_in s v) × (lowered_stamp s' v ≡ lowered_stamp s v)) ⊎ ((f : ℕ) → visit_stamp s' f ≤ lowered_stamp s' v)
    stamped v true e = inr (λ f. w.stamped v f (ap (λ z. position (nat_eq z) u.values.keys) (sym (eqb-true value v e)) ∙ at_u))
    stamped v false e = inl (w.facts v ∙ others v e, w.unstamped v (apart v e) ∙ stamps.lowered v)

    is : lattice_value_in s' value ≡ m
    is = w.facts value ∙ here

-- facts apart
abbrev is_undetermined : LatticeValue → Bool
is_undetermined Undetermined = true
is_undetermined (Constant c) = false
is_undetermined NotAConstant = false

abbrev is_varying : LatticeValue → Bool
is_varying Undetermined = false
is_varying (Constant c) = false
is_varying NotAConstant = true

same_constant : (c d : AttrObj) → Constant c ≡ Constant d → c ≡ d
same_constant c d e = ap or_it e
  where
    or_it : LatticeValue → AttrObj
    or_it Undetermined = c
    or_it (Constant x) = x
    or_it NotAConstant = c

-- what falls to a cell is known
pub fall_known : (constants : List AttrObj) (new : LatticeCell) (f g m : LatticeValue) → Means constants new m → LowersTo f g m → is_unknown new ≡ false
fall_known constants (Known k) f g m means fall = refl
fall_known constants Varying f g m means fall = refl
fall_known constants Unknown f g m means fall = absurd (by fall.0.first)
  where
    by : AtMost m f → ⊥
    by (inl u) = fall.1 (means ∙ sym u)
    by (inr (inl v)) = true≢false (sym (ap is_undetermined means) ∙ ap is_undetermined v)
    by (inr (inr e)) = fall.1 e

-- from nothing known to a constant
pub fall_first : (c : AttrObj) (f : LatticeValue) → f ≡ Undetermined → LowersTo f (Constant c) (Constant c)
fall_first c f e = (record { first = inl e; second = at_most_refl (Constant c); greatest = λ l p q. q }, λ same. true≢false (sym (ap is_undetermined e) ∙ sym (ap is_undetermined same)))

-- from one constant to another
pub fall_apart : (c d : AttrObj) (f : LatticeValue) → f ≡ Constant d → (d ≡ c → ⊥) → LowersTo f (Constant c) NotAConstant
fall_apart c d f e apart = (record { first = inr (inl refl); second = inr (inl refl); greatest = λ l p q. inr (inl (low l p q)) }, λ same. true≢false (ap is_varying same ∙ ap is_varying e))
  where
    low : (l : LatticeValue) → AtMost l f → AtMost l (Constant c) → l ≡ NotAConstant
    low l (inl u) q = absurd (true≢false (sym (ap is_undetermined u) ∙ ap is_undetermined e))
    low l (inr (inl v)) q = v
    low l (inr (inr s)) (inl u) = absurd (true≢false (sym (ap is_undetermined u)))
    low l (inr (inr s)) (inr (inl v)) = v
    low l (inr (inr s)) (inr (inr t)) = absurd (apart (same_constant d c (sym e ∙ sym s ∙ t)))

-- the parts of what a cell falls to
pub third : {A : Type 0} {B C : A → Type 0} (x : (a : A) × B a × C a) → C x.0
third x = x.2

pub none_of : {A P : Type 0} (r : Option A) → r ≡ None → IfNone r P → P
none_of {A} {P} None e p = p
none_of {A} {P} (Some x) e p = absurd (true≢false (sym (ap is_none e)))
  where
    is_none : Option A → Bool
    is_none None = true
    is_none (Some y) = false

pub number_is : (a b : ℕ) → Known a ≡ Known b → a ≡ b
number_is a b e = ap or_zero e
  where
    or_zero : LatticeCell → ℕ
    or_zero Unknown = 0
    or_zero (Known k) = k
    or_zero Varying = 0

-- one cell is written: what the values mean then
module _ (constants : List AttrObj) (cells : List LatticeCell) (keys : List ℕ) (value n : ℕ) (new : LatticeCell) (at : position (nat_eq value) keys ≡ Some n) (lt : n < length cells) where
  pub written_here : (more : List AttrObj) → value_of_cell more (cell_at (slice_set cells n new) (position (nat_eq value) keys)) ≡ value_of_cell more new
  written_here more = ap (λ o. value_of_cell more (cell_at (slice_set cells n new) o)) at ∙ ap (value_of_cell more) (get_or-set_same cells n new Varying lt)

  pub written_there : (v : ℕ) → nat_eq value v ≡ false → cell_at (slice_set cells n new) (position (nat_eq v) keys) ≡ cell_at cells (position (nat_eq v) keys)
  written_there v e = read_set Varying new cells keys value n at lt v ∙ ap (λ c. if c then new else cell_at cells (position (nat_eq v) keys)) e
