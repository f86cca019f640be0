-- What is passed on.
use Rattle.std.proofs.Common.{◌≡◌, ℕ, zero, suc, ◌+◌, ◌%◌, ◌^◌, ◌<◌, ◌≤◌, Bool, true, false, if◌then◌else◌, List, [], ◌∷◌, map, length, drop, get_or, is_some, refl, sym, ap, ◌∙◌, subst, arith}
use Rattle.std.specs.Prelude.{ℤ, pos, negsuc}
use Rattle.std.proofs.lemmas.List.{drop_all}
use Rattle.pliron_laws.specs.Datum.{Datum, Number}
use Rattle.pliron_evaluator.specs.declared.evaluator.values.Datum.{Datum as DatumValue}
use Rattle.pliron_evaluator.specs.Evaluator.{datum_of_value}
use Rattle.pliron_evaluator.proofs.EvaluatorLemmas.{drop_at}
use Rattle.pliron_dialect_mlir.specs.Data.{bits_at, is_number, some_if}
use Rattle.pliron_dialect_mlir.specs.OtherData.{is_of_width, first_other, poison}

if_some : {A : Type 0} (b : Bool) (x : A) → is_some (some_if b x) ≡ b
if_some true x = refl
if_some false x = refl

pub number_is : (width : ℕ) (n : ℤ) → is_some (bits_at width n) ≡ is_of_width width (Number n)
number_is width (pos n) = if_some (is_number width n) (n % 2 ^ 64)
number_is width (negsuc n) = refl

-- a number of the width is passed over
pub other_more : (width : ℕ) (xs : List DatumValue) (i : ℕ) (x : DatumValue) → i < length xs → x ≡ get_or xs i x → is_of_width width (datum_of_value x) ≡ true → first_other width (map datum_of_value (drop i xs)) ≡ first_other width (map datum_of_value (drop (i + 1) xs))
other_more width xs i x lt e is =
    ap (λ z. first_other width (map datum_of_value z)) (drop_at xs i x lt e)
    ∙ ap (λ b. if b then first_other width (map datum_of_value (drop (i + 1) xs)) else datum_of_value x) is

-- what is none is the first other
pub other_here : (width : ℕ) (xs : List DatumValue) (i : ℕ) (x : DatumValue) → i < length xs → x ≡ get_or xs i x → is_of_width width (datum_of_value x) ≡ false → first_other width (map datum_of_value (drop i xs)) ≡ datum_of_value x
other_here width xs i x lt e is =
    ap (λ z. first_other width (map datum_of_value z)) (drop_at xs i x lt e)
    ∙ ap (λ b. if b then first_other width (map datum_of_value (drop (i + 1) xs)) else datum_of_value x) is

pub other_none : (width : ℕ) (xs : List DatumValue) (i : ℕ) → length xs ≤ i → first_other width (map datum_of_value (drop i xs)) ≡ poison
other_none width xs i le = ap (λ z. first_other width (map datum_of_value z)) (drop_all i xs le)
