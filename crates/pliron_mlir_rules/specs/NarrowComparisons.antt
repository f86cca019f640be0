-- A comparison of extensions is one of what they extend, whatever the data are.
use Rattle.std.proofs.Common.{◌≡◌, ℕ, ◌^◌, ◌<◌, Bool, true, false, List, [], ◌∷◌, Option, Some, None, refl, ap, ap₂, sym, ◌∙◌}
use Rattle.std.proofs.lemmas.Bool.Decides.{Decides-like, same_from_decides}
use Rattle.pliron_core.proofs.HoldingLemmas.{not_none}
use Rattle.pliron_laws.specs.Datum.{Datum, Number}
use Rattle.pliron_dialect.specs.Identities.{same_datum}
use Rattle.pliron_bits.specs.declared.operators.Cast.{Cast}
use Rattle.pliron_bits.specs.declared.operators.Predicate.{Predicate}
use Rattle.pliron_dialect_mlir.specs.Data.{is_width, bits_of_width, bit}
use Rattle.pliron_dialect_mlir.specs.OtherData.{first_other, passed_on}
use Rattle.pliron_mlir_rules.specs.CastNumbers.{Changes, cast_bits}
use Rattle.pliron_mlir_rules.specs.CastResults.{cast_integer, cast_other, cast_some, cast_none}
use Rattle.pliron_mlir_rules.specs.ExtensionNumbers.{Extends}
use Rattle.pliron_mlir_rules.specs.IntegerActs.{unequal, comparison_result_if, comparison_result, cast_result}
use Rattle.pliron_mlir_rules.specs.Integers.{bits_in, integer, bits_alone, some_bits, is_integer, below_size, first_is_other, first_is_later, passed_twice, passed_apart}
use Rattle.pliron_mlir_rules.specs.MlirRules.{narrow_predicate}
use Rattle.pliron_mlir_rules.specs.SameData.{same_decides}

module _ (cast : Cast) (extends : Extends cast) (width to : ℕ) (is : is_width width ≡ true) (wide : is_width to ≡ true) (less : bits_of_width width < bits_of_width to) where
  changes : Changes cast (bits_of_width width) (bits_of_width to)
  changes = extends.changes (bits_of_width width) (bits_of_width to) less

  -- what extensions tell of what they extend
  apart : (d e : Datum) → (p q : Option ℕ) → bits_in width d ≡ p → bits_in width e ≡ q → cast_result cast width to d ≡ cast_result cast width to e → d ≡ e
  apart d e None None p q same = passed_apart width to d e p q (sym (cast_other cast width to wide changes d p) ∙ same ∙ cast_other cast width to wide changes e q)
  apart d e None (Some b) p q same = absurd (not_none (sym (cast_none cast width to wide changes d p) ∙ ap (bits_in to) same ∙ cast_some cast width to wide changes e b q))
  apart d e (Some a) None p q same = absurd (not_none (sym (cast_none cast width to wide changes e q) ∙ ap (bits_in to) (sym same) ∙ cast_some cast width to wide changes d a p))
  apart d e (Some a) (Some b) p q same =
      is_integer width d a p
      ∙ ap (integer width)
      (extends.apart (bits_of_width width) (bits_of_width to) a b (some_bits width is) less (below_size width d a p) (below_size width e b q)
      (bits_alone to (cast_bits cast (bits_of_width width) (bits_of_width to) a) (cast_bits cast (bits_of_width width) (bits_of_width to) b) (sym (cast_integer cast width to wide changes d a p) ∙ same ∙ cast_integer cast width to wide changes e b q)))
      ∙ sym (is_integer width e b q)

  same_extended : (d e : Datum) → same_datum (cast_result cast width to d) (cast_result cast width to e) ≡ same_datum d e
  same_extended d e =
      same_from_decides (same_datum (cast_result cast width to d) (cast_result cast width to e)) (same_datum d e)
      (Decides-like (same_datum (cast_result cast width to d) (cast_result cast width to e)) (apart d e (bits_in width d) (bits_in width e) refl refl) (ap (cast_result cast width to)) (same_decides (cast_result cast width to d) (cast_result cast width to e)))
      (same_decides d e)

  -- where the first datum is none of the width, and where the second is
  first_passes : (d e : Datum) → bits_in width d ≡ None → passed_on to 1 (first_other to (cast_result cast width to d ∷ e ∷ [])) ≡ passed_on width 1 d
  first_passes d e none =
      ap (passed_on to 1) (first_is_other to (cast_result cast width to d) (e ∷ []) (cast_none cast width to wide changes d none) ∙ cast_other cast width to wide changes d none)
      ∙ passed_twice width to 1 d none

  second_passes : (d e : Datum) (a : ℕ) → bits_in width d ≡ Some a → bits_in width e ≡ None → passed_on to 1 (first_other to (cast_result cast width to d ∷ cast_result cast width to e ∷ [])) ≡ passed_on width 1 e
  second_passes d e a some none =
      ap (passed_on to 1) (first_is_later to (cast_result cast width to d) (cast_result cast width to e ∷ []) (cast_bits cast (bits_of_width width) (bits_of_width to) a) (cast_some cast width to wide changes d a some) ∙ first_is_other to (cast_result cast width to e) [] (cast_none cast width to wide changes e none) ∙ cast_other cast width to wide changes e none)
      ∙ passed_twice width to 1 e none

  unequal_narrow : (predicate : Predicate) (d e : Datum) (p q : Option ℕ) → bits_in width d ≡ p → bits_in width e ≡ q → unequal to predicate (bits_in to (cast_result cast width to d)) (bits_in to (cast_result cast width to e)) (cast_result cast width to d) (cast_result cast width to e) ≡ unequal width (narrow_predicate cast predicate) p q d e
  unequal_narrow predicate d e None q none f =
      ap (λ x. unequal to predicate x (bits_in to (cast_result cast width to e)) (cast_result cast width to d) (cast_result cast width to e)) (cast_none cast width to wide changes d none)
      ∙ first_passes d (cast_result cast width to e) none
      ∙ ap (passed_on width 1) (sym (first_is_other width d (e ∷ []) none))
  unequal_narrow predicate d e (Some a) None some none =
      ap₂ (λ x y. unequal to predicate x y (cast_result cast width to d) (cast_result cast width to e)) (cast_some cast width to wide changes d a some) (cast_none cast width to wide changes e none)
      ∙ second_passes d e a some none
      ∙ ap (passed_on width 1) (sym (first_is_later width d (e ∷ []) a some ∙ first_is_other width e [] none))
  unequal_narrow predicate d e (Some a) (Some b) first second =
      ap₂ (λ x y. unequal to predicate x y (cast_result cast width to d) (cast_result cast width to e)) (cast_some cast width to wide changes d a first) (cast_some cast width to wide changes e b second)
      ∙ ap (λ x. integer 1 (bit x)) (extends.compares predicate (bits_of_width width) (bits_of_width to) a b (some_bits width is) less (below_size width d a first) (below_size width e b second))

  pub compared_narrow : (predicate : Predicate) (d e : Datum) → comparison_result to predicate (cast_result cast width to d) (cast_result cast width to e) ≡ comparison_result width (narrow_predicate cast predicate) d e
  compared_narrow predicate d e =
      ap (λ same. comparison_result_if same to predicate (cast_result cast width to d) (cast_result cast width to e)) (same_extended d e)
      ∙ by (same_datum d e)
    where
      by : (same : Bool) → comparison_result_if same to predicate (cast_result cast width to d) (cast_result cast width to e) ≡ comparison_result_if same width (narrow_predicate cast predicate) d e
      by true = ap Number (extends.truth predicate)
      by false = unequal_narrow predicate d e (bits_in width d) (bits_in width e) refl refl
