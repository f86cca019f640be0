-- What casts give, one after the other, whatever the data are.
use Rattle.std.proofs.Common.{◌≡◌, ℕ, ◌^◌, ◌<◌, ◌≤◌, true, [], Option, Some, None, refl, ap, sym, ◌∙◌, subst}
use Rattle.pliron_laws.specs.Datum.{Datum}
use Rattle.pliron_bits.specs.declared.operators.Cast.{Cast}
use Rattle.pliron_dialect_mlir.specs.Data.{is_width, bits_of_width}
use Rattle.pliron_dialect_mlir.specs.OtherData.{passed_on}
use Rattle.pliron_mlir_rules.specs.CastNumbers.{cast_bits, Changes, cast_fits, joined_numbers, back_again}
use Rattle.pliron_mlir_rules.specs.IntegerActs.{cast_datum, cast_result}
use Rattle.pliron_mlir_rules.specs.Integers.{bits_in, integer, bits_back, some_bits, is_integer, below_size, first_is_other, passed_is_other, passed_twice, passed_nowhere}
use Rattle.pliron_mlir_rules.specs.MlirRules.{joined_cast}

module _ (cast : Cast) (width to : ℕ) (wide : is_width to ≡ true) (changes : Changes cast (bits_of_width width) (bits_of_width to)) where
  pub cast_integer : (d : Datum) (a : ℕ) → bits_in width d ≡ Some a → cast_result cast width to d ≡ integer to (cast_bits cast (bits_of_width width) (bits_of_width to) a)
  cast_integer d a e = ap (λ o. cast_datum cast width to o d) e

  pub cast_other : (d : Datum) → bits_in width d ≡ None → cast_result cast width to d ≡ passed_on width to d
  cast_other d e = ap (λ o. cast_datum cast width to o d) e ∙ ap (passed_on width to) (first_is_other width d [] e)

  pub cast_some : (d : Datum) (a : ℕ) → bits_in width d ≡ Some a → bits_in to (cast_result cast width to d) ≡ Some (cast_bits cast (bits_of_width width) (bits_of_width to) a)
  cast_some d a e =
      ap (bits_in to) (cast_integer d a e)
      ∙ bits_back to (cast_bits cast (bits_of_width width) (bits_of_width to) a) wide
      (cast_fits cast (bits_of_width width) (bits_of_width to) a changes (below_size width d a e))

  pub cast_none : (d : Datum) → bits_in width d ≡ None → bits_in to (cast_result cast width to d) ≡ None
  cast_none d e = ap (bits_in to) (cast_other d e) ∙ passed_is_other width to d e

-- a cast of a cast
module _ (first second : Cast) (width mid to : ℕ) (between : is_width mid ≡ true) (forth : Changes first (bits_of_width width) (bits_of_width mid)) where
  -- what is no number goes through both
  pub other_passes : (d : Datum) → bits_in width d ≡ None → cast_result second mid to (cast_result first width mid d) ≡ passed_on width to d
  other_passes d e =
      ap (λ o. cast_datum second mid to o (cast_result first width mid d)) (cast_none first width mid between forth d e)
      ∙ ap (passed_on mid to) (first_is_other mid (cast_result first width mid d) [] (cast_none first width mid between forth d e) ∙ cast_other first width mid between forth d e)
      ∙ passed_twice width mid to d e

  pub numbers_pass : (d : Datum) (a : ℕ) → bits_in width d ≡ Some a → cast_result second mid to (cast_result first width mid d) ≡ integer to (cast_bits second (bits_of_width mid) (bits_of_width to) (cast_bits first (bits_of_width width) (bits_of_width mid) a))
  numbers_pass d a e = ap (λ o. cast_datum second mid to o (cast_result first width mid d)) (cast_some first width mid between forth d a e)

  pub casts_join : (third : Cast) → is_width width ≡ true → Changes second (bits_of_width mid) (bits_of_width to) → joined_cast first second (bits_of_width width) (bits_of_width to) ≡ Some third → (d : Datum) → cast_result second mid to (cast_result first width mid d) ≡ cast_result third width to d
  casts_join third is on joined d = by (bits_in width d) refl
    where
      by : (o : Option ℕ) → bits_in width d ≡ o → cast_result second mid to (cast_result first width mid d) ≡ cast_datum third width to o d
      by None e = other_passes d e ∙ ap (passed_on width to) (sym (first_is_other width d [] e))
      by (Some a) e =
          numbers_pass d a e
          ∙ ap (integer to) (joined_numbers first second third (bits_of_width width) (bits_of_width mid) (bits_of_width to) a (some_bits width is) forth on joined (below_size width d a e))

-- and one that leads back
pub casts_cancel : (first second third : Cast) (width mid : ℕ) → is_width width ≡ true → is_width mid ≡ true → Changes first (bits_of_width width) (bits_of_width mid) → Changes second (bits_of_width mid) (bits_of_width width) → joined_cast first second (bits_of_width width) (bits_of_width width) ≡ Some third → (d : Datum) → cast_result second mid width (cast_result first width mid d) ≡ d
casts_cancel first second third width mid is between forth back joined d = by (bits_in width d) refl
  where
    by : (o : Option ℕ) → bits_in width d ≡ o → cast_result second mid width (cast_result first width mid d) ≡ d
    by None e = other_passes first second width mid width between forth d e ∙ passed_nowhere width d
    by (Some a) e =
        numbers_pass first second width mid width between forth d a e
        ∙ ap (integer width) (back_again first second third (bits_of_width width) (bits_of_width mid) a forth back joined (below_size width d a e))
        ∙ sym (is_integer width d a e)
