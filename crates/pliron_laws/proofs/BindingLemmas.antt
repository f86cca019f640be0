-- What binding values does to an environment.
use Rattle.std.proofs.Common.{◌≡◌, ℕ, zero, suc, List, [], ◌∷◌, Option, Some, None, inl, inr, ⊎_elim, slice_get, refl, sym, ap, ◌∙◌, arith, if◌then◌else◌}
use Rattle.std.proofs.lemmas.Bool.Decides.{eqb_tells}
use Rattle.pliron_core.specs.Tree.{In}
use Rattle.pliron_core.proofs.HoldingLemmas.{some_is, not_none, slice_in}
use Rattle.pliron_laws.specs.Datum.{Datum}
use Rattle.pliron_laws.specs.States.{Environment, environment_with, bind, prepend_optional, data_of}

bound_other : (env : Environment) (w : ℕ) (d : Datum) (v : ℕ) → (v ≡ w → ⊥) → environment_with env w d v ≡ env v
unfolding environment_with
bound_other env w d v ne = ⊎_elim (λ y. absurd (ne y.1)) (λ n. ap (λ b. if b then Some d else env v) n.0) (eqb_tells v w)

pub bound_it : (env : Environment) (w : ℕ) (d : Datum) (v : ℕ) → v ≡ w → environment_with env w d v ≡ Some d
unfolding environment_with
bound_it env w d v e = ⊎_elim (λ y. ap (λ b. if b then Some d else env v) y.0) (λ n. absurd (n.1 e)) (eqb_tells v w)

-- what is not bound stays
pub bind_other : (vs : List ℕ) (ds : List Datum) (env env1 : Environment) → bind env vs ds ≡ Some env1 → (v : ℕ) → (In v vs → ⊥) → env1 v ≡ env v
bind_other [] [] env env1 e v out = let f : env ≡ env1 = cc in sym (ap (λ x. x v) f)
bind_other [] (d ∷ ds) env env1 e v out = grind arith
bind_other (w ∷ vs) [] env env1 e v out = grind arith
bind_other (w ∷ vs) (d ∷ ds) env env1 e v out = bind_other vs ds (environment_with env w d) env1 e v (λ i. out (inr i)) ∙ bound_other env w d v (λ f. out (inl f))

-- what stands once among the values is bound to the datum at its place
pub bind_at : (vs : List ℕ) (ds : List Datum) (env env1 : Environment) → bind env vs ds ≡ Some env1 → (n v : ℕ) (d : Datum) → slice_get vs n ≡ Some v → ((j : ℕ) → slice_get vs j ≡ Some v → j ≡ n) → slice_get ds n ≡ Some d → env1 v ≡ Some d
bind_at [] ds env env1 e n v d at once there = absurd (not_none at)
bind_at (w ∷ vs) [] env env1 e n v d at once there = absurd (not_none there)
bind_at (w ∷ vs) (x ∷ ds) env env1 e zero v d at once there =
    let f : w ≡ v = some_is at in
    let g : x ≡ d = some_is there in
    bind_other vs ds (environment_with env w x) env1 e v (λ i. let j = slice_in vs v i in let h : suc j.0 ≡ zero = once (suc j.0) j.1 in absurd (grind (arith, h))) ∙ bound_it env w x v (sym f) ∙ ap Some g
bind_at (w ∷ vs) (x ∷ ds) env env1 e (suc n) v d at once there =
    bind_at vs ds (environment_with env w x) env1 e n v d at (λ j f. let h : suc j ≡ suc n = once (suc j) f in grind (arith, h)) there

-- the data that are read are those of the environment
pub data_at : (env : Environment) (vs : List ℕ) (ds : List Datum) → data_of env vs ≡ Some ds → (n v : ℕ) → slice_get vs n ≡ Some v → slice_get ds n ≡ env v
data_at env [] ds e n v at = absurd (not_none at)
data_at env (w ∷ vs) ds e zero v at = go (env w) refl (data_of env vs) e
  where
    go : (o : Option Datum) → env w ≡ o → (q : Option (List Datum)) → prepend_optional o q ≡ Some ds → slice_get ds zero ≡ env v
    go None f q g = grind arith
    go (Some d) f None g = grind arith
    go (Some d) f (Some others) g = ap (λ z. slice_get z zero) (sym (some_is g)) ∙ sym f ∙ ap env (some_is at)
data_at env (w ∷ vs) ds e (suc n) v at = go (env w) (data_of env vs) refl e (λ others f. data_at env vs others f n v at)
  where
    go : (o : Option Datum) (q : Option (List Datum)) → data_of env vs ≡ q → prepend_optional o q ≡ Some ds → ((others : List Datum) → data_of env vs ≡ Some others → slice_get others n ≡ env v) → slice_get ds (suc n) ≡ env v
    go None q f g rest = grind arith
    go (Some d) None f g rest = grind arith
    go (Some d) (Some others) f g rest = ap (λ z. slice_get z (suc n)) (sym (some_is g)) ∙ rest others f

-- each value that is bound has a datum at its place
pub bind_has_datum : (vs : List ℕ) (ds : List Datum) (env env1 : Environment) → bind env vs ds ≡ Some env1 → (n v : ℕ) → slice_get vs n ≡ Some v → (d : Datum) × (slice_get ds n ≡ Some d)
bind_has_datum [] ds env env1 e n v at = absurd (not_none at)
bind_has_datum (w ∷ vs) [] env env1 e n v at = grind arith
bind_has_datum (w ∷ vs) (x ∷ ds) env env1 e zero v at = (x, refl)
bind_has_datum (w ∷ vs) (x ∷ ds) env env1 e (suc n) v at = bind_has_datum vs ds (environment_with env w x) env1 e n v at
