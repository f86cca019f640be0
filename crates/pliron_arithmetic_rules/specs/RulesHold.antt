-- Each term has the datum of what is seen.
use Rattle.std.proofs.Common.{◌≡◌, ℕ, Bool, true, false, nat_eq, List, [], ◌∷◌, Option, Some, None, if◌then◌else◌, ◌&&◌, inl, inr, refl, sym, ap, ap₂, ◌∙◌, subst, arith}
use Rattle.std.specs.Prelude.{ℤ, pos, ◌+ℤ◌, ◌*ℤ◌}
use Rattle.std.specs.Int.{w64, int_wrap}
use Rattle.std.proofs.lemmas.Int.{ints}
use Rattle.pliron_core.specs.declared.attrs.Head.{Head}
use Rattle.pliron_core.specs.Tree.{In}
use Rattle.pliron_core.proofs.HoldingLemmas.{not_none, some_is}
use Rattle.pliron_laws.specs.Datum.{Datum, Number}
use Rattle.pliron_laws.specs.States.{Environment, prepend_optional}
use Rattle.pliron_dialect.specs.Roles.{meaning_by, effects_by, role_at}
use Rattle.pliron_dialect.specs.Parts.{both_parts, same}
use Rattle.pliron_role_runs.specs.Numbers.{is_whole_number, known_at, wrapped_sum, wrapped_product}
use Rattle.pliron_dialect_arithmetic.specs.declared.kind.ArithmeticKind.TheVariants.{Add, Mul}
use Rattle.pliron_dialect_arithmetic.specs.Arithmetic.{arithmetic}
use Rattle.pliron_rewrite_rules.specs.declared.view.Operand.{Operand}
use Rattle.pliron_rewrite_rules.specs.declared.view.View.{View}
use Rattle.pliron_rewrite_rules.specs.declared.term.Term.{Term}
use Rattle.pliron_rewrite_rules.specs.RuleLaws.{IsPureHead, RulesHold}
use Rattle.pliron_rewrite_rules.specs.Views.{Agrees, operand_value, operand_datum, result_datum, view_datum, term_datum, shown_in}
use Rattle.pliron_arithmetic_rules.specs.ArithmeticRules.{is_arithmetic_kind, arithmetic_head, arithmetic_term, arithmetic_double, arithmetic_rules_of_two, arithmetic_by_operands, arithmetic_rules}
use Rattle.pliron_arithmetic_rules.specs.Seen.{arithmetic_meaning, IsArithmeticRule, kind_of_head, as_arithmetic_number, two_give, two_have, operand_has, first_shown, first_holds}

-- ---- numbers

twice : (a : ℤ) → a +ℤ a ≡ a *ℤ pos 2
twice a = omega (arith, ints)

two : int_wrap w64 (pos 2) ≡ pos 2
unfolding int_wrap
two = refl

doubles : (n : ℤ) → wrapped_sum n n ≡ wrapped_product n (int_wrap w64 (pos 2))
doubles n = ap (int_wrap w64) (twice n) ∙ ap (wrapped_product n) (sym two)

-- ---- `x + x` is `x * 2`

pure_mul : IsPureHead arithmetic_meaning (effects_by (role_at arithmetic)) (arithmetic_head Mul) 2
unfolding meaning_by effects_by
pure_mul = record { admitted = refl; no_terminator = refl; harmless = refl }

add_gives : (head : Head) (d e : Datum) → is_arithmetic_kind Add head ≡ true → result_datum arithmetic_meaning head (Some (d ∷ e ∷ [])) ≡ Some (Number (wrapped_sum (as_arithmetic_number d) (as_arithmetic_number e)))
add_gives head d e is = two_give head (λ os. wrapped_sum (known_at os 0) (known_at os 1)) d e (ap (role_at arithmetic) (kind_of_head Add head is))

mul_gives : (d e : Datum) → result_datum arithmetic_meaning (arithmetic_head Mul) (Some (d ∷ e ∷ [])) ≡ Some (Number (wrapped_product (as_arithmetic_number d) (as_arithmetic_number e)))
mul_gives d e = two_give (arithmetic_head Mul) (λ os. wrapped_product (known_at os 0) (known_at os 1)) d e refl

module _ (head : Head) (a b : Operand) where
  abbrev view : View
  view = record { head = head; operands = a ∷ b ∷ [] }

  doubled : is_arithmetic_kind Add head ≡ true → operand_value a ≡ operand_value b → IsArithmeticRule view (arithmetic_term Mul (operand_value a) (pos 2))
  doubled kind values = record {
    buildable = (pure_mul, (tt, (refl, tt)));
    shown = λ v i. shown v i;
    equal = λ env d agrees is. equal env d agrees is;
  }
    where
      shown : (v : ℕ) → In v (operand_value a ∷ []) → In v (shown_in view)
      shown v (inl e) = subst (λ z. In z (shown_in view)) (sym e) (first_shown head a (b ∷ []))
      shown v (inr never) = absurd never

      equal : (env : Environment) (d : Datum) → Agrees arithmetic_meaning env view → view_datum arithmetic_meaning env view ≡ Some d → term_datum arithmetic_meaning env (arithmetic_term Mul (operand_value a) (pos 2)) ≡ Some d
      equal env d agrees is =
          let both = two_have arithmetic_meaning head (operand_datum arithmetic_meaning env a) (operand_datum arithmetic_meaning env b) d is in
          let here : env (operand_value a) ≡ Some both.0 = operand_has arithmetic_meaning env a agrees.0 ∙ both.2 in
          let there : env (operand_value b) ≡ Some both.1 = operand_has arithmetic_meaning env b agrees.1.0 ∙ both.3 in
          let one : both.0 ≡ both.1 = some_is (sym here ∙ ap env values ∙ there) in
          ap (λ o. result_datum arithmetic_meaning (arithmetic_head Mul) (prepend_optional o (Some (Number (pos 2) ∷ [])))) here
          ∙ mul_gives both.0 (Number (pos 2))
          ∙ ap (λ z. Some (Number z)) (sym (doubles (as_arithmetic_number both.0)))
          ∙ ap (λ z. Some (Number (wrapped_sum (as_arithmetic_number both.0) (as_arithmetic_number z)))) one
          ∙ sym (add_gives head both.0 both.1 kind)
          ∙ sym (ap₂ (λ o r. result_datum arithmetic_meaning head (prepend_optional o (prepend_optional r (Some [])))) both.2 both.3)
          ∙ is

  double_holds : (term : Term) → arithmetic_double head a b ≡ Some term → IsArithmeticRule view term
  double_holds term e = go (is_arithmetic_kind Add head && nat_eq (operand_value a) (operand_value b)) refl e
    where
      go : (y : Bool) → (is_arithmetic_kind Add head && nat_eq (operand_value a) (operand_value b)) ≡ y → (if y then Some (arithmetic_term Mul (operand_value a) (pos 2)) else None) ≡ Some term → IsArithmeticRule view term
      go true tests f =
          let both = both_parts (is_arithmetic_kind Add head) (nat_eq (operand_value a) (operand_value b)) tests in
          subst (IsArithmeticRule view) (some_is f) (doubled both.0 (same (operand_value a) (operand_value b) both.1))
      go false tests f = absurd (not_none f)

  -- ---- all rules: a line for each

  two_hold : (term : Term) → arithmetic_rules_of_two head a b ≡ Some term → IsArithmeticRule view term
  two_hold term e = first_holds (IsArithmeticRule view) (arithmetic_double head a b ∷ []) (λ found is. double_holds found is, tt) term e

pub arithmetic_rules_hold : RulesHold arithmetic_meaning (effects_by (role_at arithmetic)) is_whole_number arithmetic_rules
arithmetic_rules_hold view term e = by view.head view.operands e
  where
    by : (head : Head) (operands : List Operand) → arithmetic_by_operands head operands ≡ Some term → IsArithmeticRule (record { head = head; operands = operands }) term
    by head [] f = absurd (not_none f)
    by head (a ∷ []) f = absurd (not_none f)
    by head (a ∷ b ∷ []) f = two_hold head a b term f
    by head (a ∷ b ∷ c ∷ more) f = absurd (not_none f)
