-- Environments of which one has the data of the other, by other names.
use Rattle.std.proofs.Common.{◌≡◌, inl, inr, ⊎_elim, ℕ, List, [], ◌∷◌, map, Option, Some, None, refl, sym, ap, ap₂, ◌∙◌, subst}
use Rattle.std.proofs.lemmas.Bool.{cases_eq}
use Rattle.pliron_core.specs.Tree.{In}
use Rattle.pliron_core.proofs.HoldingLemmas.{not_none}
use Rattle.pliron_laws.specs.Datum.{Datum}
use Rattle.pliron_laws.specs.States.{Environment, environment_with, prepend_optional, data_of}
use Rattle.pliron_laws.proofs.BindingLemmas.{bound_it, bind_other}

-- each value in P has the datum that the other environment has of the value f v
abbrev pub Carries : (ℕ → Type 0) → (ℕ → ℕ) → Environment → Environment → Type 0
Carries P f env env' = (v : ℕ) (d : Datum) → P v → env (f v) ≡ Some d → env' v ≡ Some d

other : (env : Environment) (w : ℕ) (d : Datum) (v : ℕ) → (v ≡ w → ⊥) → environment_with env w d v ≡ env v
other env w d v ne = bind_other (w ∷ []) (d ∷ []) env (environment_with env w d) refl v (⊎_elim ne (λ z. z))

pub carries_one : (P : ℕ → Type 0) (f : ℕ → ℕ) (env env' : Environment) → Carries P f env env' → (w : ℕ) (d : Datum) → ((v : ℕ) → P v → f v ≡ f w → v ≡ w) → Carries P f (environment_with env (f w) d) (environment_with env' w d)
carries_one P f env env' c w d apart v x p e = ⊎_elim
    (λ s. bound_it env' w d v s ∙ sym (bound_it env (f w) d (f v) (ap f s)) ∙ e)
    (λ ne. other env' w d v ne ∙ c v x p (sym (other env (f w) d (f v) (λ s. ne (apart v p s))) ∙ e))
    (cases_eq v w)

-- what is bound in the second alone isn't in P
pub carries_right : (P : ℕ → Type 0) (f : ℕ → ℕ) (env env' : Environment) → Carries P f env env' → (w : ℕ) (d : Datum) → (P w → ⊥) → Carries P f env (environment_with env' w d)
carries_right P f env env' c w d out v x p e = other env' w d v (λ s. out (subst P s p)) ∙ c v x p e

-- what is bound in the first alone is none of the names
pub carries_left : (P : ℕ → Type 0) (f : ℕ → ℕ) (env env' : Environment) → Carries P f env env' → (w : ℕ) (d : Datum) → ((v : ℕ) → P v → f v ≡ w → ⊥) → Carries P f (environment_with env w d) env'
carries_left P f env env' c w d out v x p e = c v x p (sym (other env w d (f v) (out v p)) ∙ e)

pub carries_reads : (P : ℕ → Type 0) (f : ℕ → ℕ) (env env' : Environment) → Carries P f env env' → (vs : List ℕ) → ((v : ℕ) → In v vs → P v) → (ds : List Datum) → data_of env (map f vs) ≡ Some ds → data_of env' vs ≡ Some ds
carries_reads P f env env' c [] p ds e = e
carries_reads P f env env' c (v ∷ vs) p ds e = go (env (f v)) refl (data_of env (map f vs)) refl e (λ bs hb. carries_reads P f env env' c vs (λ w i. p w (inr i)) bs hb)
  where
    go : (a : Option Datum) → env (f v) ≡ a → (b : Option (List Datum)) → data_of env (map f vs) ≡ b → prepend_optional a b ≡ Some ds → ((bs : List Datum) → data_of env (map f vs) ≡ Some bs → data_of env' vs ≡ Some bs) → data_of env' (v ∷ vs) ≡ Some ds
    go None ha b hb q again = absurd (not_none q)
    go (Some d) ha None hb q again = absurd (not_none q)
    go (Some d) ha (Some bs) hb q again = ap₂ prepend_optional (c v d (p v (inl refl)) ha) (again bs hb) ∙ q

pub map_same : (vs : List ℕ) → map (λ v. v) vs ≡ vs
map_same [] = refl
map_same (v ∷ vs) = ap (λ l. v ∷ l) (map_same vs)
