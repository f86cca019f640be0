-- Casts of casts.
use Rattle.std.proofs.Common.{◌≡◌, ℕ, ◌<◌, Bool, true, false, not, nat_eq, nat_lt, ◌&&◌, List, [], ◌∷◌, Option, Some, None, if◌then◌else◌, inl, inr, refl, sym, ap, ap₂, ◌∙◌, subst}
use Rattle.std.specs.Option.{option_or}
use Rattle.std.proofs.lemmas.Bool.Decides.{Decides-eqb, Decides-ltb}
use Rattle.pliron_core.specs.declared.attrs.Head.{Head}
use Rattle.pliron_core.specs.Tree.{In}
use Rattle.pliron_core.proofs.HoldingLemmas.{not_none, some_is}
use Rattle.pliron_core.proofs.ListLemmas.{In-left}
use Rattle.pliron_laws.specs.Datum.{Datum}
use Rattle.pliron_laws.specs.States.{Environment, prepend_optional}
use Rattle.pliron_dialect.specs.Roles.{Interpretation}
use Rattle.pliron_bits.specs.declared.operators.Cast.{Cast}
use Rattle.pliron_bits.specs.declared.operators.Cast.TheVariants.{ZeroExtend, SignExtend, Truncate}
use Rattle.pliron_dialect_mlir.specs.declared.kind.Class.{Class}
use Rattle.pliron_dialect_mlir.specs.declared.computations.Conversion.{Conversion}
use Rattle.pliron_dialect_mlir.specs.Data.{bits_of_width, some_if}
use Rattle.pliron_dialect_mlir.specs.Computations.{conversion_of, head_of_conversion}
use Rattle.pliron_rewrite_rules.specs.declared.view.Operand.{Operand}
use Rattle.pliron_rewrite_rules.specs.declared.view.View.{View}
use Rattle.pliron_rewrite_rules.specs.declared.term.Atom.TheVariants.{Named}
use Rattle.pliron_rewrite_rules.specs.declared.term.Term.{Term}
use Rattle.pliron_rewrite_rules.specs.declared.term.Term.TheVariants.{Atomic, Make}
use Rattle.pliron_rewrite_rules.specs.RuleLaws.{IsRule}
use Rattle.pliron_rewrite_rules.specs.Views.{Agrees, operand_values, operand_datum, result_datum, view_datum, term_datum, shown_in}
use Rattle.pliron_mlir_rules.specs.declared.seen.CastSource.{CastSource}
use Rattle.pliron_mlir_rules.specs.CastNumbers.{Changes}
use Rattle.pliron_mlir_rules.specs.CastResults.{casts_join, casts_cancel}
use Rattle.pliron_mlir_rules.specs.HeadsSay.{both_so, picked, SaysConversion, says_conversion, plain_says}
use Rattle.pliron_mlir_rules.specs.IntegerActs.{cast_result, mlir_meaning, mlir_effects, cast_gives, pure_cast}
use Rattle.pliron_mlir_rules.specs.MlirRules.{is_plain_cast, source_of, joined_cast, plain_cast, cast_term, joined_term, join_cast, join_casts}
use Rattle.pliron_mlir_rules.specs.Seen.{one_has, IsCastOf, IsCastSource, is_source, source_casts}

-- a plain cast is to more bits, or to fewer
pub plain_changes : (cast : Cast) (c : Conversion) → is_plain_cast cast c ≡ true → Changes cast (bits_of_width c.width) (bits_of_width c.to)
plain_changes ZeroExtend c plain = (Decides-ltb (bits_of_width c.width) (bits_of_width c.to)).0 (both_so (nat_lt (bits_of_width c.width) (bits_of_width c.to)) (not c.flags.nonnegative) plain).0
plain_changes SignExtend c plain = (Decides-ltb (bits_of_width c.width) (bits_of_width c.to)).0 plain
plain_changes Truncate c plain = (Decides-ltb (bits_of_width c.to) (bits_of_width c.width)).0 (both_so (nat_lt (bits_of_width c.to) (bits_of_width c.width)) (not c.flags.no_signed_wrap && not c.flags.no_unsigned_wrap) plain).0

-- and so is one that is looked through
pub source_changes : (cast : Cast) (to : ℕ) (a : Operand) (s : CastSource) → IsCastSource cast to a s → Changes cast (bits_of_width s.width) (bits_of_width to)
source_changes cast to a s source =
    subst (λ w. Changes cast (bits_of_width w) (bits_of_width to)) source.from
    (subst (λ w. Changes cast (bits_of_width source.conversion.width) (bits_of_width w)) source.back (plain_changes cast source.conversion source.plain))

-- what is seen gives the cast of a cast
pub record IsCastTwice (env : Environment) (first second : Cast) (s : CastSource) (c : Conversion) (r : Datum) : Type 0 where
  pub datum : Datum
  pub has : env s.value ≡ Some datum
  pub gives : Some (cast_result second c.width c.to (cast_result first s.width c.width datum)) ≡ Some r

module _ {K : Type 0} (class_of : K → Class) (kind : Class → K) (value : Interpretation) (forth : (c : Class) → class_of (kind c) ≡ c) where
  abbrev IsRuleOf : View → Term → Type 0
  IsRuleOf view term = IsRule (mlir_meaning class_of kind value) (mlir_effects class_of kind value) (λ attr. true) view term

  pub cast_twice : (first second : Cast) (head : Head) (c : Conversion) → SaysConversion second head c → is_plain_cast second c ≡ true → (a : Operand) (s : CastSource) → source_of first c.width a ≡ Some s →
      (env : Environment) (r : Datum) → Agrees (mlir_meaning class_of kind value) env (record { head = head; operands = a ∷ [] }) → view_datum (mlir_meaning class_of kind value) env (record { head = head; operands = a ∷ [] }) ≡ Some r → IsCastTwice env first second s c r
  cast_twice first second head c says plain a s from env r agrees e =
      let one = one_has (mlir_meaning class_of kind value) head (operand_datum (mlir_meaning class_of kind value) env a) r e in
      let inner = source_casts class_of kind value forth env first c.width a s one.0 from agrees.0 one.1 in
      record {
        datum = inner.datum;
        has = inner.has;
        gives = ap (λ x. Some (cast_result second c.width c.to x)) (sym inner.is)
            ∙ sym (cast_gives class_of kind value forth head second c says plain one.0)
            ∙ ap (λ o. result_datum (mlir_meaning class_of kind value) head (prepend_optional o (Some []))) (sym one.1)
            ∙ e;
      }

  module _ (first second third : Cast) (head : Head) (c : Conversion) (says : SaysConversion second head c) (plain : is_plain_cast second c ≡ true) (a : Operand) (s : CastSource) (from : source_of first c.width a ≡ Some s)
      (joined : joined_cast first second (bits_of_width s.width) (bits_of_width c.to) ≡ Some third) where
    abbrev view : View
    view = record { head = head; operands = a ∷ [] }

    source : IsCastSource first c.width a s
    source = is_source first c.width a s from

    on : Changes second (bits_of_width c.width) (bits_of_width c.to)
    on = plain_changes second c plain

    start : Changes first (bits_of_width s.width) (bits_of_width c.width)
    start = source_changes first c.width a s source

    shown : (v : ℕ) → In v (s.value ∷ []) → In v (shown_in view)
    shown v (inl i) = In-left v (operand_values a) [] (subst (λ z. In z (operand_values a)) (sym i) source.shown)
    shown v (inr never) = absurd never

    back_holds : s.width ≡ c.to → IsRuleOf view (Atomic (Named s.value))
    back_holds same = record {
      buildable = tt;
      shown = λ v i. shown v i;
      equal = λ env r agrees e. equal env r (cast_twice first second head c says plain a s from env r agrees e);
    }
      where
        equal : (env : Environment) (r : Datum) → IsCastTwice env first second s c r → term_datum (mlir_meaning class_of kind value) env (Atomic (Named s.value)) ≡ Some r
        equal env r t =
            t.has
            ∙ ap Some (sym (casts_cancel first second third s.width c.width source.is says.is start
            (subst (λ w. Changes second (bits_of_width c.width) (bits_of_width w)) (sym same) on)
            (ap (λ w. joined_cast first second (bits_of_width s.width) (bits_of_width w)) same ∙ joined) t.datum))
            ∙ ap (λ w. Some (cast_result second c.width w (cast_result first s.width c.width t.datum))) same
            ∙ t.gives

    once_holds : is_plain_cast third (plain_cast s.width c.to) ≡ true → IsRuleOf view (Make (head_of_conversion third (plain_cast s.width c.to)) (Named s.value ∷ []))
    once_holds narrow = record {
      buildable = (pure_cast class_of kind value forth third (head_of_conversion third (plain_cast s.width c.to)) (plain_says third s.width c.to source.is says.wide).class, (tt, tt));
      shown = λ v i. shown v i;
      equal = λ env r agrees e. equal env r (cast_twice first second head c says plain a s from env r agrees e);
    }
      where
        equal : (env : Environment) (r : Datum) → IsCastTwice env first second s c r → term_datum (mlir_meaning class_of kind value) env (Make (head_of_conversion third (plain_cast s.width c.to)) (Named s.value ∷ [])) ≡ Some r
        equal env r t =
            ap (λ o. result_datum (mlir_meaning class_of kind value) (head_of_conversion third (plain_cast s.width c.to)) (prepend_optional o (Some []))) t.has
            ∙ cast_gives class_of kind value forth (head_of_conversion third (plain_cast s.width c.to)) third (plain_cast s.width c.to) (plain_says third s.width c.to source.is says.wide) narrow t.datum
            ∙ ap Some (sym (casts_join first second s.width c.width c.to says.is start third source.is on joined t.datum))
            ∙ t.gives

    term_holds : (term : Term) → cast_term (Some third) s c.to ≡ Some term → IsRuleOf view term
    term_holds term e = by (nat_eq s.width c.to) refl e
      where
        made : Term
        made = Make (head_of_conversion third (plain_cast s.width c.to)) (Named s.value ∷ [])

        by : (b : Bool) → nat_eq s.width c.to ≡ b → (if b then Some (Atomic (Named s.value)) else some_if (is_plain_cast third (plain_cast s.width c.to)) made) ≡ Some term → IsRuleOf view term
        by true same g = subst (IsRuleOf view) (some_is g) (back_holds ((Decides-eqb s.width c.to).0 same))
        by false other g =
            let both = picked (is_plain_cast third (plain_cast s.width c.to)) made term g in
            subst (IsRuleOf view) both.1 (once_holds both.0)

  with_holds : (first second : Cast) (head : Head) (c : Conversion) → SaysConversion second head c → is_plain_cast second c ≡ true → (a : Operand) (term : Term) → join_cast first second c a ≡ Some term → IsRuleOf (record { head = head; operands = a ∷ [] }) term
  with_holds first second head c says plain a term e = of_source (source_of first c.width a) refl e
    where
      of_cast : (s : CastSource) → source_of first c.width a ≡ Some s → (o : Option Cast) → joined_cast first second (bits_of_width s.width) (bits_of_width c.to) ≡ o → cast_term o s c.to ≡ Some term → IsRuleOf (record { head = head; operands = a ∷ [] }) term
      of_cast s f None g h = absurd (not_none h)
      of_cast s f (Some third) g h = term_holds first second third head c says plain a s f g term h

      of_source : (o : Option CastSource) → source_of first c.width a ≡ o → joined_term first second c o ≡ Some term → IsRuleOf (record { head = head; operands = a ∷ [] }) term
      of_source None f g = absurd (not_none g)
      of_source (Some s) f g = of_cast s f (joined_cast first second (bits_of_width s.width) (bits_of_width c.to)) refl g

  pub casts_hold : (second : Cast) (head : Head) (a : Operand) (term : Term) (c : Option Conversion) → conversion_of second head ≡ c → join_casts second c a ≡ Some term → IsRuleOf (record { head = head; operands = a ∷ [] }) term
  casts_hold second head a term None e f = absurd (not_none f)
  casts_hold second head a term (Some c) e f = of_plain (is_plain_cast second c) refl f
    where
      zero : Option Term
      zero = join_cast ZeroExtend second c a

      signed : Option Term
      signed = join_cast SignExtend second c a

      cut : Option Term
      cut = join_cast Truncate second c a

      of_plain : (b : Bool) → is_plain_cast second c ≡ b → (if b then option_or zero (option_or signed cut) else None) ≡ Some term → IsRuleOf (record { head = head; operands = a ∷ [] }) term
      of_plain false g h = absurd (not_none h)
      of_plain true g h = of_zero (join_cast ZeroExtend second c a) refl h
        where
          holds : (first : Cast) → join_cast first second c a ≡ Some term → IsRuleOf (record { head = head; operands = a ∷ [] }) term
          holds first i = with_holds first second head c (says_conversion second head c e) g a term i

          of_signed : (o : Option Term) → join_cast SignExtend second c a ≡ o → option_or o cut ≡ Some term → IsRuleOf (record { head = head; operands = a ∷ [] }) term
          of_signed None i j = holds Truncate j
          of_signed (Some t) i j = holds SignExtend (i ∙ j)

          of_zero : (o : Option Term) → join_cast ZeroExtend second c a ≡ o → option_or o (option_or signed cut) ≡ Some term → IsRuleOf (record { head = head; operands = a ∷ [] }) term
          of_zero None i j = of_signed (join_cast SignExtend second c a) refl j
          of_zero (Some t) i j = holds ZeroExtend (i ∙ j)
