-- Masks.
use Rattle.std.proofs.Common.{◌≡◌, ℕ, ◌-◌, ◌%◌, ◌^◌, ◌<◌, ◌≤◌, Bool, true, false, not, nat_eq, nat_lt, ◌&&◌, List, [], ◌∷◌, Option, Some, None, if◌then◌else◌, inl, inr, refl, sym, ap, ap₂, ◌∙◌, subst}
use Rattle.std.proofs.lemmas.Bool.Decides.{Decides-eqb}
use Rattle.std.proofs.lemmas.Nat.{and_mask}
use Rattle.pliron_core.specs.declared.attrs.AttrObj.TheVariants.{Int}
use Rattle.pliron_core.specs.declared.attrs.Head.{Head}
use Rattle.pliron_core.specs.Tree.{In}
use Rattle.pliron_core.proofs.HoldingLemmas.{not_none, some_is}
use Rattle.pliron_core.proofs.ListLemmas.{In-left}
use Rattle.pliron_laws.specs.Datum.{Datum}
use Rattle.pliron_laws.specs.States.{Environment, prepend_optional}
use Rattle.pliron_dialect.specs.Roles.{Interpretation}
use Rattle.pliron_bits.specs.declared.operators.BinaryOperator.TheVariants.{And}
use Rattle.pliron_bits.specs.declared.operators.Cast.TheVariants.{ZeroExtend, Truncate}
use Rattle.pliron_dialect_mlir.specs.declared.kind.Class.{Class}
use Rattle.pliron_dialect_mlir.specs.declared.computations.Arithmetic.{Arithmetic}
use Rattle.pliron_dialect_mlir.specs.declared.computations.Conversion.{Conversion}
use Rattle.pliron_dialect_mlir.specs.Data.{is_width, bits_of_width, number, some_if}
use Rattle.pliron_dialect_mlir.specs.Computations.{conversion_of, head_of_arithmetic}
use Rattle.pliron_rewrite_rules.specs.declared.view.Operand.{Operand}
use Rattle.pliron_rewrite_rules.specs.declared.view.View.{View}
use Rattle.pliron_rewrite_rules.specs.declared.term.Atom.TheVariants.{Named, Constant}
use Rattle.pliron_rewrite_rules.specs.declared.term.Term.{Term}
use Rattle.pliron_rewrite_rules.specs.declared.term.Term.TheVariants.{Make}
use Rattle.pliron_rewrite_rules.specs.RuleLaws.{IsRule}
use Rattle.pliron_rewrite_rules.specs.Views.{Agrees, operand_values, result_datum, view_datum, term_datum, shown_in}
use Rattle.pliron_mlir_rules.specs.declared.seen.CastSource.{CastSource}
use Rattle.pliron_mlir_rules.specs.CastNumbers.{Changes}
use Rattle.pliron_mlir_rules.specs.CastResults.{other_passes, numbers_pass}
use Rattle.pliron_mlir_rules.specs.CastsHold.{plain_changes, source_changes, IsCastTwice, cast_twice}
use Rattle.pliron_mlir_rules.specs.HeadsSay.{picked, SaysConversion, says_conversion, SaysArithmetic, signed_says}
use Rattle.pliron_mlir_rules.specs.IntegerActs.{cast_result, computed_datum, constant_result, mlir_meaning, mlir_effects, mask_gives, pure_arithmetic}
use Rattle.pliron_mlir_rules.specs.Integers.{bits_in, integer, some_bits, passed_nowhere}
use Rattle.pliron_mlir_rules.specs.MlirRules.{is_plain_cast, source_of, no_flags, mask_term, mask_bits}
use Rattle.pliron_mlir_rules.specs.Seen.{IsCastSource, is_source}

-- what is cut and extended back keeps the low bits
masked_datum : (width mid : ℕ) → is_width mid ≡ true → bits_of_width mid < bits_of_width width → (d : Datum) → cast_result ZeroExtend mid width (cast_result Truncate width mid d) ≡ constant_result And no_flags width d (2 ^ bits_of_width mid - 1)
masked_datum width mid between less d = by (bits_in width d) refl
  where
    by : (o : Option ℕ) → bits_in width d ≡ o → cast_result ZeroExtend mid width (cast_result Truncate width mid d) ≡ computed_datum And no_flags width o d (2 ^ bits_of_width mid - 1)
    by None e = other_passes Truncate ZeroExtend width mid width between less d e ∙ passed_nowhere width d
    by (Some a) e = numbers_pass Truncate ZeroExtend width mid width between less d a e ∙ ap (integer width) (sym (and_mask a (bits_of_width mid)))

module _ {K : Type 0} (class_of : K → Class) (kind : Class → K) (value : Interpretation) (forth : (c : Class) → class_of (kind c) ≡ c) where
  abbrev IsRuleOf : View → Term → Type 0
  IsRuleOf view term = IsRule (mlir_meaning class_of kind value) (mlir_effects class_of kind value) (λ attr. true) view term

  module _ (head : Head) (c : Conversion) (says : SaysConversion ZeroExtend head c) (plain : is_plain_cast ZeroExtend c ≡ true) (a : Operand) (s : CastSource) (from : source_of Truncate c.width a ≡ Some s) (same : s.width ≡ c.to) where
    abbrev mask : Term
    mask = Make (head_of_arithmetic And (record { width = s.width; flags = no_flags })) (Named s.value ∷ Constant (Int (number s.width (2 ^ bits_of_width c.width - 1))) ∷ [])

    source : IsCastSource Truncate c.width a s
    source = is_source Truncate c.width a s from

    less : bits_of_width c.width < bits_of_width s.width
    less = source_changes Truncate c.width a s source

    says_mask : SaysArithmetic And (head_of_arithmetic And (record { width = s.width; flags = no_flags })) (record { width = s.width; flags = no_flags })
    says_mask = signed_says And s.width false source.is

    shown : (v : ℕ) → In v (s.value ∷ []) → In v (shown_in (record { head = head; operands = a ∷ [] }))
    shown v (inl i) = In-left v (operand_values a) [] (subst (λ z. In z (operand_values a)) (sym i) source.shown)
    shown v (inr never) = absurd never

    mask_holds : IsRuleOf (record { head = head; operands = a ∷ [] }) mask
    mask_holds = record {
      buildable = (pure_arithmetic class_of kind value forth And (head_of_arithmetic And (record { width = s.width; flags = no_flags })) says_mask.class, (tt, (refl, tt)));
      shown = λ v i. shown v i;
      equal = λ env r agrees e. equal env r (cast_twice class_of kind value forth Truncate ZeroExtend head c says plain a s from env r agrees e);
    }
      where
        equal : (env : Environment) (r : Datum) → IsCastTwice env Truncate ZeroExtend s c r → term_datum (mlir_meaning class_of kind value) env mask ≡ Some r
        equal env r t =
            ap (λ o. result_datum (mlir_meaning class_of kind value) (head_of_arithmetic And (record { width = s.width; flags = no_flags })) (prepend_optional o (Some (integer s.width (2 ^ bits_of_width c.width - 1) ∷ [])))) t.has
            ∙ mask_gives class_of kind value forth (head_of_arithmetic And (record { width = s.width; flags = no_flags })) (record { width = s.width; flags = no_flags }) says_mask t.datum (bits_of_width c.width) (some_bits c.width says.is) less
            ∙ ap Some (sym (masked_datum s.width c.width says.is less t.datum))
            ∙ ap (λ w. Some (cast_result ZeroExtend c.width w (cast_result Truncate s.width c.width t.datum))) same
            ∙ t.gives

  pub masks_hold : (head : Head) (a : Operand) (term : Term) (c : Option Conversion) → conversion_of ZeroExtend head ≡ c → mask_bits c a ≡ Some term → IsRuleOf (record { head = head; operands = a ∷ [] }) term
  masks_hold head a term None e f = absurd (not_none f)
  masks_hold head a term (Some c) e f = of_plain (is_plain_cast ZeroExtend c) refl f
    where
      of_source : is_plain_cast ZeroExtend c ≡ true → (o : Option CastSource) → source_of Truncate c.width a ≡ o → mask_term c o ≡ Some term → IsRuleOf (record { head = head; operands = a ∷ [] }) term
      of_source plain None g h = absurd (not_none h)
      of_source plain (Some s) g h =
          let both = picked (nat_eq s.width c.to) (Make (head_of_arithmetic And (record { width = s.width; flags = no_flags })) (Named s.value ∷ Constant (Int (number s.width (2 ^ bits_of_width c.width - 1))) ∷ [])) term h in
          subst (IsRuleOf (record { head = head; operands = a ∷ [] })) both.1 (mask_holds head c (says_conversion ZeroExtend head c e) plain a s g ((Decides-eqb s.width c.to).0 both.0))

      of_plain : (b : Bool) → is_plain_cast ZeroExtend c ≡ b → (if b then mask_term c (source_of Truncate c.width a) else None) ≡ Some term → IsRuleOf (record { head = head; operands = a ∷ [] }) term
      of_plain false g h = absurd (not_none h)
      of_plain true g h = of_source g (source_of Truncate c.width a) refl h
