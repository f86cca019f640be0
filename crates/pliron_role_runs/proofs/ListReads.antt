-- Lists, as loops make them.
use Rattle.std.proofs.Common.{◌≡◌, ℕ, zero, suc, ◌+◌, ◌-◌, ◌<◌, ◌≤◌, length, List, [], ◌∷◌, ◌++◌, get_or, map, take, drop, Some, refl, sym, ap, ◌∙◌, subst, arith}
use Rattle.std.specs.Prelude.{slice_get}
use Rattle.std.proofs.lemmas.List.{drop-map, take_more, map-append, take_all, length-drop}
use Rattle.std.proofs.lemmas.Option.{slice_get_within, get_or_from_slice_get}
use Rattle.pliron_laws.specs.Datum.{Datum, Empty}
use Rattle.pliron_dialect.specs.Roles.{nth_datum, fit_data as fit_with_nothing}
use Rattle.pliron_evaluator.specs.declared.evaluator.values.Datum.{Datum as DatumValue}
use Rattle.pliron_evaluator.specs.Evaluator.{datum_of_value}
use Rattle.pliron_role_runs.specs.Visits.{first_or_zero}
use Rattle.pliron_dialect_bench.specs.BenchMoves.{fit_with_zeros}

-- one more of what is read of a list
one_more : {A B : Type 0} (f : A → B) (xs : List A) (i : ℕ) (x : A) (y : B) (ys after : List B) → i < length xs → get_or xs i x ≡ x → y ≡ f x → after ≡ ys ++ y ∷ [] → ys ≡ map f (take i xs) → after ≡ map f (take (i + 1) xs)
one_more f xs i x y ys after lt at e g so_far =
    g ∙ ap (λ z. ys ++ z ∷ []) e ∙ ap (λ z. z ++ f x ∷ []) so_far ∙ sym (map-append f (take i xs) (x ∷ [])) ∙ ap (λ z. map f (take i xs ++ z ∷ [])) (sym at) ∙ ap (map f) (sym (take_more xs i x lt))

pub map_more : {A B : Type 0} (f : A → B) (xs : List A) (i : ℕ) (x : A) (y : B) (ys after : List B) → slice_get xs i ≡ Some x → y ≡ f x → after ≡ ys ++ y ∷ [] → ys ≡ map f (take i xs) → after ≡ map f (take (i + 1) xs)
map_more f xs i x y ys after at e g so_far = one_more f xs i x y ys after (slice_get_within xs i x at) (get_or_from_slice_get xs i x x at) e g so_far

-- the first of the data, by default nothing
abbrev pub first_datum : List Datum → Datum
first_datum [] = Empty
first_datum (d ∷ ds) = d

nth_is_first : (ds : List Datum) (i : ℕ) → nth_datum ds i ≡ first_datum (drop i ds)
nth_is_first [] zero = refl
nth_is_first [] (suc i) = refl
nth_is_first (d ∷ ds) zero = refl
nth_is_first (d ∷ ds) (suc i) = nth_is_first ds i

pub read_at : (xs : List DatumValue) (i : ℕ) (d : Datum) → d ≡ nth_datum (map datum_of_value xs) i → d ≡ first_datum (map datum_of_value (drop i xs))
read_at xs i d e = e ∙ nth_is_first (map datum_of_value xs) i ∙ ap first_datum (drop-map datum_of_value i xs)

-- data, cut or filled
pub nothing_begins : (n : ℕ) (ds : List Datum) → fit_with_nothing (suc n) ds ≡ first_datum ds ∷ fit_with_nothing n (drop 1 ds)
nothing_begins n [] = refl
nothing_begins n (d ∷ ds) = refl

pub zero_begins : (n : ℕ) (ds : List Datum) → fit_with_zeros (suc n) ds ≡ first_or_zero ds ∷ fit_with_zeros n (drop 1 ds)
zero_begins n [] = refl
zero_begins n (d ∷ ds) = refl

-- what is left of a list behind a place
pub rest_more : {A : Type 0} (xs rest after : List A) (first i : ℕ) (x y : A) → i < length (drop first xs) → slice_get xs (first + i) ≡ Some x → y ≡ x → after ≡ rest ++ y ∷ [] → rest ≡ take i (drop first xs) → after ≡ take (i + 1) (drop first xs)
rest_more xs rest after first i x y lt at e g so_far =
    g ∙ ap (λ z. rest ++ z ∷ []) (e ∙ sym (there xs first i x at)) ∙ ap (λ z. z ++ get_or (drop first xs) i x ∷ []) so_far ∙ sym (take_more (drop first xs) i x lt)
  where
    there : {B : Type 0} (ys : List B) (n j : ℕ) (b : B) → slice_get ys (n + j) ≡ Some b → get_or (drop n ys) j b ≡ b
    there ys zero j b h = let e : 0 + j ≡ j = omega arith in get_or_from_slice_get ys j b b (subst (λ z. slice_get ys z ≡ Some b) e h)
    there [] (suc n) j b h = grind arith
    there (y ∷ ys) (suc n) j b h = let e : suc n + j ≡ suc (n + j) = omega arith in there ys n j b (subst (λ z. slice_get (y ∷ ys) z ≡ Some b) e h)

pub all_taken : {A : Type 0} (xs rest : List A) (first i : ℕ) → length xs - first ≤ i → rest ≡ take i (drop first xs) → rest ≡ drop first xs
all_taken xs rest first i le e = e ∙ take_all i (drop first xs) (subst (λ z. z ≤ i) (sym (length-drop first xs)) le)
