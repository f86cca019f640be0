-- Lists of values that are bound, and that are read.
use Rattle.std.proofs.Common.{◌≡◌, ◌⊎◌, ℕ, zero, suc, List, [], ◌∷◌, Some, inl, inr, ⊎_elim, slice_get, refl, ap₂, ◌∙◌, subst, arith}
use Rattle.pliron_core.specs.Tree.{In}
use Rattle.pliron_core.proofs.ListLemmas.{decide_in}
use Rattle.pliron_core.proofs.HoldingLemmas.{slice_in}
use Rattle.pliron_laws.specs.Datum.{Datum}
use Rattle.pliron_laws.specs.States.{Environment, environment_with, bind, prepend_optional, data_of}
use Rattle.pliron_laws.proofs.BindingLemmas.{bind_other, bound_it}

-- some value stands in both lists, or none does
pub meet_or : (xs ys : List ℕ) → ((v : ℕ) × In v xs × In v ys) ⊎ ((v : ℕ) → In v xs → In v ys → ⊥)
meet_or [] ys = inr (λ v i j. i)
meet_or (x ∷ xs) ys = ⊎_elim
    (λ i. inl (x, inl refl, i))
    (λ no. ⊎_elim
    (λ z. inl (z.0, inr z.1, z.2))
    (λ none. inr (λ v i j. ⊎_elim (λ e. no (subst (λ w. In w ys) e j)) (λ k. none v k j) i))
    (meet_or xs ys))
    (decide_in x ys)

-- values that are not bound have the data that they had
pub data_stay : (vs : List ℕ) (ds : List Datum) (env env1 : Environment) → bind env vs ds ≡ Some env1 → (xs : List ℕ) → ((v : ℕ) → In v xs → In v vs → ⊥) → data_of env1 xs ≡ data_of env xs
data_stay vs ds env env1 e [] apart = refl
data_stay vs ds env env1 e (x ∷ xs) apart = ap₂ prepend_optional (bind_other vs ds env env1 e x (λ i. apart x (inl refl) i)) (data_stay vs ds env env1 e xs (λ v i j. apart v (inr i) j))

suc_same : (i j : ℕ) → suc i ≡ suc j → i ≡ j
suc_same i j e = grind (arith, e)

-- distinct values are bound to these data
pub bound_data : (vs : List ℕ) (ds : List Datum) (env env1 : Environment) → ((i j v : ℕ) → slice_get vs i ≡ Some v → slice_get vs j ≡ Some v → i ≡ j) → bind env vs ds ≡ Some env1 → data_of env1 vs ≡ Some ds
bound_data [] [] env env1 once e = refl
bound_data [] (d ∷ ds) env env1 once e = grind arith
bound_data (v ∷ vs) [] env env1 once e = grind arith
bound_data (v ∷ vs) (d ∷ ds) env env1 once e =
    ap₂ prepend_optional
    (bind_other vs ds (environment_with env v d) env1 e v (λ i. let j = slice_in vs v i in let f : zero ≡ suc j.0 = once zero (suc j.0) v refl j.1 in absurd (grind (arith, f))) ∙ bound_it env v d v refl)
    (bound_data vs ds (environment_with env v d) env1 (λ i j w a b. suc_same i j (once (suc i) (suc j) w a b)) e)
