-- Environments in which values have the data that are known of them.
use Rattle.std.proofs.Common.{◌≡◌, ℕ, zero, suc, List, [], ◌∷◌, map, Option, Some, None, ⊎_elim, slice_get, refl, sym, ap, ◌∙◌, subst, arith, if◌then◌else◌}
use Rattle.std.proofs.lemmas.Bool.Decides.{eqb_tells}
use Rattle.pliron_core.specs.declared.attrs.AttrObj.{AttrObj}
use Rattle.pliron_core.proofs.HoldingLemmas.{some_is, not_none}
use Rattle.pliron_laws.specs.Datum.{Datum, datum_of}
use Rattle.pliron_laws.specs.States.{Environment, environment_with, bind, prepend_optional}
use Rattle.pliron_laws.specs.Acting.{AgreeWithKnown, pick}

-- a constant that is known is the datum at its place
pub known_data_at : (known : List (Option AttrObj)) (ds : List Datum) → AgreeWithKnown known ds → (i : ℕ) (c : AttrObj) (d : Datum) → slice_get known i ≡ Some (Some c) → slice_get ds i ≡ Some d → datum_of c ≡ d
known_data_at [] ds k i c d e f = grind arith
known_data_at (a ∷ known) [] k i c d e f = absurd k
known_data_at (None ∷ known) (x ∷ ds) k zero c d e f = grind arith
known_data_at (Some a ∷ known) (x ∷ ds) k zero c d e f = let g : a ≡ c = some_is (some_is e) in let h : x ≡ d = some_is f in ap datum_of (sym g) ∙ k.0 ∙ h
known_data_at (None ∷ known) (x ∷ ds) k (suc i) c d e f = known_data_at known ds k i c d e f
known_data_at (Some a ∷ known) (x ∷ ds) k (suc i) c d e f = known_data_at known ds k.1 i c d e f

-- what is picked stands at the picked place
pub picked_at : {A : Type 0} (places : List ℕ) (xs : List A) (j : ℕ) (a : Option A) → slice_get (pick places xs) j ≡ Some a → (p : ℕ) × (slice_get places j ≡ Some p) × (slice_get xs p ≡ a)
picked_at [] xs j a e = absurd (not_none e)
picked_at (p ∷ places) xs zero a e = (p, refl, some_is e)
picked_at (p ∷ places) xs (suc j) a e = picked_at places xs j a e

pub some_at : (ds : List Datum) (j : ℕ) (d : Datum) → slice_get ds j ≡ Some d → slice_get (map Some ds) j ≡ Some (Some d)
some_at [] j d e = absurd (not_none e)
some_at (x ∷ ds) zero d e = ap Some e
some_at (x ∷ ds) (suc j) d e = some_at ds j d e

pub put_both : (o : Option Datum) (p : Option (List Datum)) (ds : List Datum) → prepend_optional o p ≡ Some ds → (d : Datum) × (others : List Datum) × (o ≡ Some d) × (p ≡ Some others) × (d ∷ others ≡ ds)
put_both None p ds e = grind arith
put_both (Some d) None ds e = grind arith
put_both (Some d) (Some others) ds e = (d, others, refl, refl, some_is e)

module _ (facts : ℕ → Option AttrObj) where
  -- a value that has a datum has the one that is known of it
  abbrev pub Confirms : Environment → Type 0
  Confirms env = (v : ℕ) (c : AttrObj) (d : Datum) → facts v ≡ Some c → env v ≡ Some d → datum_of c ≡ d

  bound_confirms : (env : Environment) (x : ℕ) (y : Datum) → ((c : AttrObj) → facts x ≡ Some c → datum_of c ≡ y) → Confirms env → Confirms (environment_with env x y)
  unfolding environment_with
  bound_confirms env x y here so v c d f e = ⊎_elim
      (λ s. here c (ap facts (sym s.1) ∙ f) ∙ some_is (ap (λ b. if b then Some y else env v) (sym s.0) ∙ e))
      (λ n. so v c d f (ap (λ b. if b then Some y else env v) (sym n.0) ∙ e))
      (eqb_tells v x)

  pub bind_confirms : (vs : List ℕ) (ds : List Datum) (env env1 : Environment) → ((i v : ℕ) (c : AttrObj) (d : Datum) → slice_get vs i ≡ Some v → facts v ≡ Some c → slice_get ds i ≡ Some d → datum_of c ≡ d) → bind env vs ds ≡ Some env1 → Confirms env → Confirms env1
  bind_confirms [] [] env env1 h e so = let f : env ≡ env1 = cc in subst Confirms f so
  bind_confirms [] (d ∷ ds) env env1 h e so = grind arith
  bind_confirms (x ∷ vs) [] env env1 h e so = grind arith
  bind_confirms (x ∷ vs) (y ∷ ds) env env1 h e so = bind_confirms vs ds (environment_with env x y) env1 (λ i v c d a b k. h (suc i) v c d a b k) e (bound_confirms env x y (λ c f. h zero x c y refl f refl) so)
