-- Comparisons of extensions.
use Rattle.std.proofs.Common.{◌≡◌, ℕ, ◌^◌, ◌<◌, Bool, true, false, not, nat_eq, nat_lt, ◌&&◌, List, [], ◌∷◌, ◌++◌, Option, Some, None, IsTrue, if◌then◌else◌, inl, inr, refl, sym, ap, ap₂, ◌∙◌, subst, arith, tests, ℤ, pos}
use Rattle.std.specs.List.{flat_map}
use Rattle.std.specs.Option.{option_or}
use Rattle.std.proofs.lemmas.Bool.Decides.{Decides-eqb, Decides-ltb}
use Rattle.pliron_core.specs.declared.attrs.AttrObj.{AttrObj}
use Rattle.pliron_core.specs.declared.attrs.AttrObj.TheVariants.{Int, Text as Words}
use Rattle.pliron_core.specs.declared.attrs.Head.{Head}
use Rattle.pliron_core.specs.Tree.{In}
use Rattle.pliron_core.proofs.HoldingLemmas.{not_none, some_is}
use Rattle.pliron_core.proofs.ListLemmas.{In-left, In-right}
use Rattle.pliron_laws.specs.Datum.{Datum, Number, datum_of, Meaning}
use Rattle.pliron_laws.specs.States.{Environment, prepend_optional}
use Rattle.pliron_dialect.specs.Roles.{Interpretation}
use Rattle.pliron_bits.specs.declared.operators.Predicate.{Predicate}
use Rattle.pliron_bits.specs.declared.operators.Predicate.TheVariants.{Equal, NotEqual, SignedLess, SignedLessEqual, SignedGreater, SignedGreaterEqual, UnsignedLess, UnsignedLessEqual, UnsignedGreater, UnsignedGreaterEqual}
use Rattle.pliron_bits.specs.declared.operators.Cast.{Cast}
use Rattle.pliron_bits.specs.declared.operators.Cast.TheVariants.{ZeroExtend, Truncate}
use Rattle.pliron_bits.specs.Operators.{number_of_predicate, predicate_of_number}
use Rattle.pliron_dialect_mlir.specs.declared.kind.Class.{Class}
use Rattle.pliron_dialect_mlir.specs.declared.kind.Class.TheVariants.{Compare, Cast as CastClass}
use Rattle.pliron_dialect_mlir.specs.declared.computations.Comparison.{Comparison}
use Rattle.pliron_dialect_mlir.specs.declared.computations.Conversion.{Conversion}
use Rattle.pliron_dialect_mlir.specs.ClassNumbers.{number_of_class, class_of_number, numbered_class}
use Rattle.pliron_dialect_mlir.specs.Data.{is_width, bits_of_width, number, bits_at, some_if}
use Rattle.pliron_dialect_mlir.specs.Heads.{attribute_at, width_at, flags_at}
use Rattle.pliron_dialect_mlir.specs.Computations.{is_of_class, comparison_with as read_comparison, comparison_of, conversion_of, head_of_comparison, head_of_conversion}
use Rattle.pliron_rewrite_rules.specs.declared.view.Leaf.{Leaf}
use Rattle.pliron_rewrite_rules.specs.declared.view.Leaf.TheVariants.{Unknown, Known}
use Rattle.pliron_rewrite_rules.specs.declared.view.Operand.{Operand}
use Rattle.pliron_rewrite_rules.specs.declared.view.Operand.TheVariants.{Plain, Made}
use Rattle.pliron_rewrite_rules.specs.declared.view.View.{View}
use Rattle.pliron_rewrite_rules.specs.declared.term.Atom.{Atom}
use Rattle.pliron_rewrite_rules.specs.declared.term.Atom.TheVariants.{Named, Constant}
use Rattle.pliron_rewrite_rules.specs.declared.term.Term.{Term}
use Rattle.pliron_rewrite_rules.specs.declared.term.Term.TheVariants.{Atomic}
use Rattle.pliron_rewrite_rules.specs.RuleLaws.{IsAccepted, IsRule, RulesHold}
use Rattle.pliron_rewrite_rules.specs.Views.{Each, Agrees, OperandAgrees, LeafAgrees, leaf_value, leaf_datum, operand_values, operand_datum, data_by, atom_datum, atom_names, result_datum, view_datum, term_datum, shown_in}
use Rattle.pliron_mlir_rules.specs.declared.seen.CastSource.{CastSource}
use Rattle.pliron_mlir_rules.specs.CastNumbers.{cast_bits}
use Rattle.pliron_mlir_rules.specs.CastsHold.{source_changes}
use Rattle.pliron_mlir_rules.specs.ExtensionNumbers.{Extends}
use Rattle.pliron_mlir_rules.specs.Integers.{bits_in, integer, bits_back, some_bits, is_integer}
use Rattle.pliron_mlir_rules.specs.HeadsSay.{both_so, picked, SaysComparison, says_comparison, comparison_says}
use Rattle.pliron_mlir_rules.specs.IntegerActs.{comparison_result, cast_datum, cast_result, mlir_meaning, mlir_effects, comparison_gives, pure_comparison}
use Rattle.pliron_mlir_rules.specs.MlirRules.{known_bits, source_of, narrow_predicate, narrow_number, of_width, number_atom, fitting_constant, narrow_atom, narrow_comparison, comparison_term, comparison_from, compare_narrow}
use Rattle.pliron_mlir_rules.specs.NarrowComparisons.{compared_narrow}
use Rattle.pliron_mlir_rules.specs.Seen.{both_have, without_end, IsCastOf, IsCastSource, is_source, source_casts, known_reads, known_below}

module _ {K : Type 0} (class_of : K → Class) (kind : Class → K) (value : Interpretation) (forth : (c : Class) → class_of (kind c) ≡ c) (cast : Cast) (extending : Extends cast) where
  abbrev IsRuleOf : View → Term → Type 0
  IsRuleOf view term = IsRule (mlir_meaning class_of kind value) (mlir_effects class_of kind value) (λ attr. true) view term

  -- ---- the other operand

  -- what the rule puts in the place of the other operand
  pub record IsOther (width to : ℕ) (b : Operand) (atom : Atom) : Type 0 where
    pub accepted : IsAccepted (λ attr. true) atom
    pub shown : (v : ℕ) → In v (atom_names atom) → In v (operand_values b)
    pub extends : (env : Environment) (y : Datum) → OperandAgrees (mlir_meaning class_of kind value) env b → operand_datum (mlir_meaning class_of kind value) env b ≡ Some y → IsCastOf env cast width to atom y

  other_named : (width to : ℕ) (b : Operand) (n : CastSource) → source_of cast to b ≡ Some n → n.width ≡ width → IsOther width to b (Named n.value)
  other_named width to b n e same = record {
    accepted = tt;
    shown = λ v i. shown v i;
    extends = λ env y agrees f. subst (λ w. IsCastOf env cast w to (Named n.value) y) same (source_casts class_of kind value forth env cast to b n y e agrees f);
  }
    where
      shown : (v : ℕ) → In v (n.value ∷ []) → In v (operand_values b)
      shown v (inl i) = subst (λ z. In z (operand_values b)) (sym i) (is_source cast to b n e).shown
      shown v (inr never) = absurd never

  other_number : (width to : ℕ) (b : Operand) (n k : ℕ) → is_width width ≡ true → bits_of_width width < bits_of_width to → known_bits to b ≡ Some n → narrow_number cast (bits_of_width width) (bits_of_width to) n ≡ Some k → IsOther width to b (Constant (Int (number width k)))
  other_number width to b n k is less e narrow = record {
    accepted = refl;
    shown = λ v i. absurd i;
    extends = λ env y agrees f. record {
      datum = integer width k;
      has = refl;
      is = known_reads class_of kind value forth env to b n y e f ∙ ap (integer to) (sym fits.1) ∙ sym (ap (λ o. cast_datum cast width to o (integer width k)) (bits_back width k is fits.0));
    };
  }
    where
      fits : (k < 2 ^ bits_of_width width) × (cast_bits cast (bits_of_width width) (bits_of_width to) k ≡ n)
      fits = extending.fits (bits_of_width width) (bits_of_width to) n k (some_bits width is) less (known_below to b n e) narrow

  other_is : (width to : ℕ) (b : Operand) (atom : Atom) → is_width width ≡ true → bits_of_width width < bits_of_width to → narrow_atom cast width to b ≡ Some atom → IsOther width to b atom
  other_is width to b atom is less e = of_narrow (source_of cast to b) refl e
    where
      of_number : (n : ℕ) → known_bits to b ≡ Some n → (o : Option ℕ) → narrow_number cast (bits_of_width width) (bits_of_width to) n ≡ o → number_atom width o ≡ Some atom → IsOther width to b atom
      of_number n f None g h = absurd (not_none h)
      of_number n f (Some k) g h = subst (IsOther width to b) (some_is h) (other_number width to b n k is less f g)

      of_bits : (o : Option ℕ) → known_bits to b ≡ o → fitting_constant cast width to o ≡ Some atom → IsOther width to b atom
      of_bits None f g = absurd (not_none g)
      of_bits (Some n) f g = of_number n f (narrow_number cast (bits_of_width width) (bits_of_width to) n) refl g

      of_same : (n : CastSource) → source_of cast to b ≡ Some n → (y : Bool) → nat_eq n.width width ≡ y → option_or (some_if y (Named n.value)) (fitting_constant cast width to (known_bits to b)) ≡ Some atom → IsOther width to b atom
      of_same n f true same g = subst (IsOther width to b) (some_is g) (other_named width to b n f ((Decides-eqb n.width width).0 same))
      of_same n f false same g = of_bits (known_bits to b) refl g

      of_narrow : (o : Option CastSource) → source_of cast to b ≡ o → option_or (of_width width o) (fitting_constant cast width to (known_bits to b)) ≡ Some atom → IsOther width to b atom
      of_narrow None f g = of_bits (known_bits to b) refl g
      of_narrow (Some n) f g = of_same n f (nat_eq n.width width) refl g

  -- ---- comparisons

  module _ (head : Head) (c : Comparison) (says : SaysComparison head c) (a b : Operand) (n : CastSource) (from : source_of cast c.width a ≡ Some n) (atom : Atom) (other : IsOther n.width c.width b atom) where
    abbrev view : View
    view = record { head = head; operands = a ∷ b ∷ [] }

    abbrev narrow : Comparison
    narrow = record { width = n.width; predicate = narrow_predicate cast c.predicate }

    narrow_is : IsCastSource cast c.width a n
    narrow_is = is_source cast c.width a n from

    less : bits_of_width n.width < bits_of_width c.width
    less = extending.wider (bits_of_width n.width) (bits_of_width c.width) (source_changes cast c.width a n narrow_is)

    -- what the new comparison gives
    narrow_gives : (d e : Datum) → result_datum (mlir_meaning class_of kind value) (head_of_comparison narrow) (Some (d ∷ e ∷ [])) ≡ Some (comparison_result n.width (narrow_predicate cast c.predicate) d e)
    narrow_gives d e = comparison_gives class_of kind value forth (head_of_comparison narrow) narrow (comparison_says narrow narrow_is.is) d e

    wide_gives : (x y : Datum) → result_datum (mlir_meaning class_of kind value) head (Some (x ∷ y ∷ [])) ≡ Some (comparison_result c.width c.predicate x y)
    wide_gives x y = comparison_gives class_of kind value forth head c says x y

    equal : (env : Environment) (r : Datum) → Agrees (mlir_meaning class_of kind value) env view → view_datum (mlir_meaning class_of kind value) env view ≡ Some r → term_datum (mlir_meaning class_of kind value) env (narrow_comparison cast c n atom) ≡ Some r
    equal env r agrees e =
        let both = both_have (mlir_meaning class_of kind value) head (operand_datum (mlir_meaning class_of kind value) env a) (operand_datum (mlir_meaning class_of kind value) env b) r e in
        let first = source_casts class_of kind value forth env cast c.width a n both.0 from agrees.0 both.2 in
        let second = other.extends env both.1 agrees.1.0 both.3 in
        ap₂ (λ p q. result_datum (mlir_meaning class_of kind value) (head_of_comparison narrow) (prepend_optional p (prepend_optional q (Some [])))) first.has second.has
        ∙ narrow_gives first.datum second.datum
        ∙ ap Some (sym (compared_narrow cast extending n.width c.width narrow_is.is says.is less c.predicate first.datum second.datum))
        ∙ ap₂ (λ x y. Some (comparison_result c.width c.predicate x y)) (sym first.is) (sym second.is)
        ∙ sym (wide_gives both.0 both.1)
        ∙ ap₂ (λ p q. result_datum (mlir_meaning class_of kind value) head (prepend_optional p (prepend_optional q (Some [])))) (sym both.2) (sym both.3)
        ∙ e

    shown : (v : ℕ) → In v (flat_map atom_names (Named n.value ∷ atom ∷ [])) → In v (shown_in view)
    shown v (inl i) = In-left v (operand_values a) (flat_map operand_values (b ∷ [])) (subst (λ z. In z (operand_values a)) (sym i) narrow_is.shown)
    shown v (inr i) = In-right v (operand_values a) (flat_map operand_values (b ∷ [])) (of_other v i)
      where
        of_other : (v : ℕ) → In v (flat_map atom_names (atom ∷ [])) → In v (flat_map operand_values (b ∷ []))
        of_other v i = In-left v (operand_values b) [] (other.shown v (without_end (atom_names atom) v i))

    holds : IsRuleOf view (narrow_comparison cast c n atom)
    holds = record {
      buildable = (pure_comparison class_of kind value forth (head_of_comparison narrow) (comparison_says narrow narrow_is.is).class, (tt, (other.accepted, tt)));
      shown = λ v i. shown v i;
      equal = λ env r agrees e. equal env r agrees e;
    }

  pub compare_holds : (head : Head) (a b : Operand) (term : Term) (c : Option Comparison) → comparison_of head ≡ c → compare_narrow cast c a b ≡ Some term → IsRuleOf (record { head = head; operands = a ∷ b ∷ [] }) term
  compare_holds head a b term None e f = absurd (not_none f)
  compare_holds head a b term (Some c) e f = of_first (source_of cast c.width a) refl f
    where
      says : SaysComparison head c
      says = says_comparison head c e

      of_second : (n : CastSource) → source_of cast c.width a ≡ Some n → (o : Option Atom) → narrow_atom cast n.width c.width b ≡ o → comparison_term cast c n o ≡ Some term → IsRuleOf (record { head = head; operands = a ∷ b ∷ [] }) term
      of_second n from None g h = absurd (not_none h)
      of_second n from (Some atom) g h =
          subst (IsRuleOf (record { head = head; operands = a ∷ b ∷ [] })) (some_is h)
          (holds head c says a b n from atom (other_is n.width c.width b atom (is_source cast c.width a n from).is (extending.wider (bits_of_width n.width) (bits_of_width c.width) (source_changes cast c.width a n (is_source cast c.width a n from))) g))

      of_first : (o : Option CastSource) → source_of cast c.width a ≡ o → comparison_from cast c o b ≡ Some term → IsRuleOf (record { head = head; operands = a ∷ b ∷ [] }) term
      of_first None g h = absurd (not_none h)
      of_first (Some n) g h = of_second n g (narrow_atom cast n.width c.width b) refl h
