-- Data that are numbers.
use Rattle.std.proofs.Common.{◌≡◌, ◌∷◌, [], ℕ, ℤ, List, map, length, get_or, sym, ap, ◌∙◌, arith}
use Rattle.pliron_laws.specs.Datum.{Number}
use Rattle.pliron_evaluator.specs.Evaluator.{datum_of_value}
use Rattle.pliron_evaluator.specs.declared.evaluator.values.Datum.{Datum as DatumValue}

-- one datum that is a number
pub one_number : (input : List DatumValue) (a : DatumValue) (number : ℤ) → length input ≡ 1 → a ≡ get_or input 0 a → datum_of_value a ≡ Number number
    → map datum_of_value input ≡ map Number (number ∷ [])
one_number [] a number one a-is number-is = absurd (omega (arith, one))
one_number (x ∷ []) a number one a-is number-is = ap (λ d. d ∷ []) (ap datum_of_value (sym a-is) ∙ number-is)
one_number (x ∷ y ∷ rest) a number one a-is number-is = absurd (omega (arith, one))

-- two data that are numbers
pub two_numbers : (input : List DatumValue) (a b : DatumValue) (first second : ℤ) → length input ≡ 2 → a ≡ get_or input 0 a → b ≡ get_or input 1 b
    → datum_of_value a ≡ Number first → datum_of_value b ≡ Number second → map datum_of_value input ≡ map Number (first ∷ second ∷ [])
two_numbers [] a b first second two a-is b-is first-is second-is = absurd (omega (arith, two))
two_numbers (x ∷ []) a b first second two a-is b-is first-is second-is = absurd (omega (arith, two))
two_numbers (x ∷ y ∷ []) a b first second two a-is b-is first-is second-is =
    ap (λ d. d ∷ datum_of_value y ∷ []) (ap datum_of_value (sym a-is) ∙ first-is) ∙ ap (λ d. Number first ∷ d ∷ []) (ap datum_of_value (sym b-is) ∙ second-is)
two_numbers (x ∷ y ∷ z ∷ rest) a b first second two a-is b-is first-is second-is = absurd (omega (arith, two))
