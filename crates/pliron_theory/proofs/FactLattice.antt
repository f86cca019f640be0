-- Facts, and the data that confirm them.
use Rattle.std.proofs.Common.{◌≡◌, inl, inr, ⊎_elim, ℕ, zero, suc, List, [], ◌∷◌, length, map, Option, Some, None, slice_get, refl, sym, ap, ◌∙◌, subst, arith, if◌then◌else◌}
use Rattle.std.proofs.lemmas.Bool.Decides.{eqb_tells}
use Rattle.pliron_core.specs.declared.attrs.AttrObj.{AttrObj}
use Rattle.pliron_core.proofs.HoldingLemmas.{some_is, not_none}
use Rattle.pliron_laws.specs.Datum.{Datum, datum_of}
use Rattle.pliron_laws.specs.States.{Environment, environment_with, bind, data_of}
use Rattle.pliron_laws.specs.Acting.{AgreeWithKnown, pick}
use Rattle.pliron_theory.proofs.KnownData.{put_both}
use Rattle.pliron_theory.specs.LatticeValues.{LatticeValue, Undetermined, Constant, NotAConstant, AtMost, IsBelowNamed, lattice_constant, value_of_answer}

pub at_most_refl : (f : LatticeValue) → AtMost f f
at_most_refl f = inr (inr refl)

pub at_most_trans : (f g h : LatticeValue) → AtMost f g → AtMost g h → AtMost f h
at_most_trans f g h a (inl e) = inl e
at_most_trans f g h (inl e) (inr (inl n)) = let x : Undetermined ≡ NotAConstant = sym e ∙ n in absurd (grind arith)
at_most_trans f g h (inr (inl n)) b = inr (inl n)
at_most_trans f g h (inl e) (inr (inr s)) = inl (sym s ∙ e)
at_most_trans f g h (inr (inr s)) (inr (inl n)) = inr (inl (s ∙ n))
at_most_trans f g h (inr (inr s)) (inr (inr r)) = inr (inr (s ∙ r))

-- the datum confirms the fact: what is undetermined has none
abbrev pub Fits : LatticeValue → Datum → Type 0
Fits Undetermined d = ⊥
Fits (Constant c) d = datum_of c ≡ d
Fits NotAConstant d = Unit {0}

pub fits_lower : (f g : LatticeValue) (d : Datum) → AtMost f g → Fits g d → Fits f d
fits_lower f g d (inl e) x = absurd (subst (λ z. Fits z d) e x)
fits_lower f g d (inr (inl n)) x = subst (λ z. Fits z d) (sym n) tt
fits_lower f g d (inr (inr s)) x = subst (λ z. Fits z d) (sym s) x

-- what is known of a value that has this datum
pub known_fits : (f g : LatticeValue) (d : Datum) (a : Option AttrObj) → AtMost f g → Fits g d → lattice_constant f ≡ a → (ks : List (Option AttrObj)) (ds : List Datum) → AgreeWithKnown ks ds → AgreeWithKnown (a ∷ ks) (d ∷ ds)
known_fits f g d None m x e ks ds k = k
known_fits Undetermined g d (Some c) m x e ks ds k = absurd (not_none e)
known_fits (Constant a) g d (Some c) m x e ks ds k = (subst (λ z. datum_of z ≡ d) (some_is e) (fits_lower (Constant a) g d m x), k)
known_fits NotAConstant g d (Some c) m x e ks ds k = absurd (not_none e)

pub fits_answered : (a : Option AttrObj) (d : Datum) → ((c : AttrObj) → a ≡ Some c → datum_of c ≡ d) → Fits (value_of_answer a) d
fits_answered None d f = tt
fits_answered (Some c) d f = f c refl

module _ (read : ℕ → LatticeValue) where
  -- each value that has a datum confirms what is read
  abbrev pub Agrees : Environment → Type 0
  Agrees env = (v : ℕ) (d : Datum) → env v ≡ Some d → Fits (read v) d

  bound_agrees : (env : Environment) (x : ℕ) (y : Datum) → Fits (read x) y → Agrees env → Agrees (environment_with env x y)
  unfolding environment_with
  bound_agrees env x y here so v d e = ⊎_elim
      (λ s. subst (λ z. Fits (read z) d) (sym s.1) (subst (Fits (read x)) (some_is (ap (λ b. if b then Some y else env v) (sym s.0) ∙ e)) here))
      (λ n. so v d (ap (λ b. if b then Some y else env v) (sym n.0) ∙ e))
      (eqb_tells v x)

  pub bind_agrees : (vs : List ℕ) (ds : List Datum) (env env1 : Environment) → ((i v : ℕ) (d : Datum) → slice_get vs i ≡ Some v → slice_get ds i ≡ Some d → Fits (read v) d) → bind env vs ds ≡ Some env1 → Agrees env → Agrees env1
  bind_agrees [] [] env env1 h e so = let f : env ≡ env1 = cc in subst Agrees f so
  bind_agrees [] (d ∷ ds) env env1 h e so = grind arith
  bind_agrees (x ∷ vs) [] env env1 h e so = grind arith
  bind_agrees (x ∷ vs) (y ∷ ds) env env1 h e so = bind_agrees vs ds (environment_with env x y) env1 (λ i v d a b. h (suc i) v d a b) e (bound_agrees env x y (h zero x y refl refl) so)

  -- the data that are read of these values
  abbrev pub FitEach : List ℕ → List Datum → Type 0
  FitEach vs ds = (p w : ℕ) (d : Datum) → slice_get vs p ≡ Some w → slice_get ds p ≡ Some d → Fits (read w) d

  pub read_fits : (env : Environment) → Agrees env → (vs : List ℕ) (ds : List Datum) → data_of env vs ≡ Some ds → FitEach vs ds
  read_fits env so [] ds e p w d a b = absurd (not_none a)
  read_fits env so (v ∷ vs) ds e zero w d a b =
      let q = put_both (env v) (data_of env vs) ds e in
      let first : q.0 ≡ d = some_is (ap (λ z. slice_get z 0) q.4 ∙ b) in
      subst (λ z. Fits (read z) d) (some_is a) (subst (Fits (read v)) first (so v q.0 q.2))
  read_fits env so (v ∷ vs) ds e (suc p) w d a b =
      let q = put_both (env v) (data_of env vs) ds e in
      read_fits env so vs q.1 q.3 p w d a (ap (λ z. slice_get z (suc p)) q.4 ∙ b)

  pub read_known : (lattice_value : ℕ → LatticeValue) → ((v : ℕ) → AtMost (lattice_value v) (read v)) → (env : Environment) → Agrees env → (vs : List ℕ) (ds : List Datum) → data_of env vs ≡ Some ds → AgreeWithKnown (map (λ v. lattice_constant (lattice_value v)) vs) ds
  read_known lattice_value finer env so [] ds e = let f : [] ≡ ds = some_is e in subst (AgreeWithKnown []) f tt
  read_known lattice_value finer env so (v ∷ vs) ds e =
      let q = put_both (env v) (data_of env vs) ds e in
      subst (AgreeWithKnown (lattice_constant (lattice_value v) ∷ map (λ v. lattice_constant (lattice_value v)) vs)) q.4 (known_fits (lattice_value v) (read v) q.0 (lattice_constant (lattice_value v)) (finer v) (so v q.0 q.2) refl (map (λ v. lattice_constant (lattice_value v)) vs) q.1 (read_known lattice_value finer env so vs q.1 q.3))

-- what is no constant is below every operand
pub unknown_below : (lattice_value seen : ℕ → LatticeValue) (operands : List ℕ) (a : Option ℕ) (v : ℕ) → lattice_value v ≡ NotAConstant → IsBelowNamed lattice_value seen operands a v
unknown_below lattice_value seen operands None v e = e
unknown_below lattice_value seen operands (Some p) v e = λ w at. inr (inl e)

-- what stands at an index of a list of the same length
pub same_index : {A B : Type 0} (xs : List A) (ys : List B) → length xs ≡ length ys → (i : ℕ) (x : A) → slice_get xs i ≡ Some x → (y : B) × (slice_get ys i ≡ Some y)
same_index [] ys e i x a = absurd (not_none a)
same_index (z ∷ xs) [] e i x a = grind arith
same_index (z ∷ xs) (y ∷ ys) e zero x a = (y, refl)
same_index (z ∷ xs) (y ∷ ys) e (suc i) x a = same_index xs ys (grind arith) i x a

pub picked_in : {A : Type 0} (places : List ℕ) (xs : List A) (j p : ℕ) (a : A) → slice_get places j ≡ Some p → slice_get xs p ≡ Some a → slice_get (pick places xs) j ≡ Some (Some a)
picked_in [] xs j p a e f = absurd (not_none e)
picked_in (q ∷ places) xs zero p a e f = ap Some (ap (slice_get xs) (some_is e) ∙ f)
picked_in (q ∷ places) xs (suc j) p a e f = picked_in places xs j p a e f
