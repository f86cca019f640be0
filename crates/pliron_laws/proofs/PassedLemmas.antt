-- Lists that are gone through from their first item on.
use Rattle.std.proofs.Common.{◌≡◌, ℕ, List, [], ◌∷◌, Option, Some, None, ◌⊎◌, inl, inr, sym, subst}
use Rattle.pliron_core.specs.Lists.{In, IsDistinct, first_of, next_in}
use Rattle.pliron_core.specs.WalkSteps.{rest_from}
use Rattle.pliron_core.proofs.NextLemmas.{rest_from-step, rest_from-first}

-- all that is before `at` passed the test
abbrev pub ArePassed : (ℕ → Type 0) → List ℕ → Option ℕ → Type 0
ArePassed P xs at = (x : ℕ) → In x xs → In x (rest_from at xs) ⊎ P x

pub passed_start : (P : ℕ → Type 0) (xs : List ℕ) (o : Option ℕ) → o ≡ first_of xs None → ArePassed P xs o
passed_start P [] o e x i = elim i [ ]
passed_start P (y ∷ ys) o e x i = inl (subst (λ z. In x (rest_from z (y ∷ ys))) (sym e) (subst (λ z. In x z) (sym (rest_from-first y ys)) i))

one_more : (P : ℕ → Type 0) (y x : ℕ) (rest : List ℕ) → P y → In x (y ∷ rest) → In x rest ⊎ P x
one_more P y x rest p (inl e) = inr (subst P (sym e) p)
one_more P y x rest p (inr i) = inl i

step_at : (P : ℕ → Type 0) (y x : ℕ) (rest whole : List ℕ) → rest ≡ y ∷ whole → P y → In x rest ⊎ P x → In x whole ⊎ P x
step_at P y x rest whole e p (inl i) = one_more P y x whole p (subst (λ z. In x z) e i)
step_at P y x rest whole e p (inr q) = inr q

pub passed_step : (P : ℕ → Type 0) (xs : List ℕ) (y : ℕ) (o : Option ℕ) → IsDistinct xs → In y xs → o ≡ next_in y xs → P y → ArePassed P xs (Some y) → ArePassed P xs o
passed_step P xs y o d i e p before x j = step_at P y x (rest_from (Some y) xs) (rest_from o xs) (rest_from-step xs y o d i e) p (before x j)

over : (P : ℕ → Type 0) (x : ℕ) → In x [] ⊎ P x → P x
over P x (inl i) = elim i [ ]
over P x (inr p) = p

pub passed_all : (P : ℕ → Type 0) (xs : List ℕ) → ArePassed P xs None → (x : ℕ) → In x xs → P x
passed_all P xs all x i = over P x (all x i)
