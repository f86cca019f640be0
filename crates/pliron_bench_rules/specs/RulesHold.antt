-- Each term has the datum of what is seen.
use Rattle.std.proofs.Common.{◌≡◌, ℕ, Bool, true, false, nat_eq, List, [], ◌∷◌, map, Option, Some, None, IsTrue, FitsSigned, if◌then◌else◌, inl, inr, refl, sym, ap, ap₂, ◌∙◌, subst, arith, rules}
use Rattle.std.specs.Prelude.{ℤ, pos, negsuc, ◌+ℤ◌, ◌*ℤ◌}
use Rattle.std.specs.Int.{w64, int_wrap}
use Rattle.std.specs.List.{flat_map}
use Rattle.std.proofs.lemmas.Int.{ints, SFits-int_wrap, int_wrap_fits, int_wrap-add_left, int_wrap-add_right}
use Rattle.pliron_core.specs.declared.attrs.AttrObj.{AttrObj}
use Rattle.pliron_core.specs.declared.attrs.AttrObj.TheVariants.{Int, Text as Words}
use Rattle.pliron_core.specs.declared.attrs.Head.{Head}
use Rattle.pliron_core.specs.Tree.{In}
use Rattle.pliron_core.proofs.HoldingLemmas.{not_none, some_is}
use Rattle.pliron_core.proofs.ListLemmas.{In-left}
use Rattle.pliron_laws.specs.Datum.{Datum, Empty, Number, datum_of, Meaning}
use Rattle.pliron_laws.specs.States.{Environment, prepend_optional}
use Rattle.pliron_dialect.specs.Roles.{number_of as number_of_datum, act_of, by_role, no_act, meaning_by, effects_by, role_at}
use Rattle.pliron_rewrite_rules.specs.Insertions.{pure_shape}
use Rattle.pliron_dialect_bench.specs.declared.kind.BenchKind.{BenchKind}
use Rattle.pliron_dialect_bench.specs.declared.kind.BenchKind.TheVariants.{Add, Mul}
use Rattle.pliron_dialect_bench.specs.Bench.{kind_of, number_of_kind, plain_head, is_number_attribute}
use Rattle.pliron_dialect_bench.specs.BenchMoves.{bench, bench_role, bench_tables, bench_value}
use Rattle.pliron_dialect_bench.specs.BenchNumbers.{fits, wrapping_sum, wrapping_product}
use Rattle.pliron_rewrite_rules.specs.declared.view.Leaf.{Leaf}
use Rattle.pliron_rewrite_rules.specs.declared.view.Leaf.TheVariants.{Unknown, Known}
use Rattle.pliron_rewrite_rules.specs.declared.view.Operand.{Operand}
use Rattle.pliron_rewrite_rules.specs.declared.view.Operand.TheVariants.{Plain, Made}
use Rattle.pliron_rewrite_rules.specs.declared.view.View.{View}
use Rattle.pliron_rewrite_rules.specs.declared.term.Term.{Term}
use Rattle.pliron_rewrite_rules.specs.RuleLaws.{IsPureHead, IsRule, RulesHold}
use Rattle.pliron_rewrite_rules.specs.Views.{Each, only_given, Agrees, OperandAgrees, LeafAgrees, leaf_value, leaf_datum, operand_value, operand_values, operand_datum, data_by, result_datum, view_datum, term_datum, shown_in}
use Rattle.pliron_bench_rules.specs.declared.Addend.{Addend}
use Rattle.pliron_bench_rules.specs.BenchRules.{is_kind, number_of_attribute, known_operand, part_of_leaves, part_of, term_with_number, join_with, join_of, double_of, first_of_two, rules_of_two, by_operands, bench_rules}

-- ---- numbers

wrap_twice : (n : ℤ) → int_wrap w64 (int_wrap w64 n) ≡ int_wrap w64 n
wrap_twice n = int_wrap_fits w64 (int_wrap w64 n) (SFits-int_wrap w64 n)

regroup : (a b c : ℤ) → (a +ℤ b) +ℤ c ≡ a +ℤ (b +ℤ c)
regroup a b c = omega (arith, ints)

sums_join : (a b c : ℤ) → wrapping_sum (int_wrap w64 (wrapping_sum a b)) c ≡ wrapping_sum a (int_wrap w64 (wrapping_sum b c))
sums_join a b c =
    ap (λ z. int_wrap w64 (z +ℤ c)) (wrap_twice (a +ℤ b))
    ∙ int_wrap-add_left w64 (a +ℤ b) c
    ∙ ap (int_wrap w64) (regroup a b c)
    ∙ sym (int_wrap-add_right w64 a (b +ℤ c))
    ∙ ap (λ z. int_wrap w64 (a +ℤ z)) (sym (wrap_twice (b +ℤ c)))

twice : (a : ℤ) → a +ℤ a ≡ a *ℤ pos 2
twice a = omega (arith, ints)

two : int_wrap w64 (pos 2) ≡ pos 2
unfolding int_wrap
two = refl

zero_wraps : int_wrap w64 (pos 0) ≡ pos 0
unfolding int_wrap
zero_wraps = refl

-- a datum as a number of 64 signed bits, which is that of a constant
abbrev as_number : Datum → ℤ
as_number d = int_wrap w64 (number_of_datum d)

read_constant : (c : AttrObj) → as_number (datum_of c) ≡ number_of_attribute c
read_constant (Int n) = refl
read_constant (Words s) = zero_wraps

fit : (n : ℤ) → FitsSigned w64 n → IsTrue (fits n)
fit (pos n) h = let lt = h.sfits in search (rules, arith)
fit (negsuc n) h = let lt = h.sfits in search (rules, arith)

fits_sum : (a b : ℤ) → IsTrue (fits (wrapping_sum a b))
fits_sum a b = fit (int_wrap w64 (a +ℤ b)) (SFits-int_wrap w64 (a +ℤ b))

-- ---- what sums and products give

kind_is : (kind : BenchKind) (head : Head) → is_kind kind head ≡ true → head.kind ≡ number_of_kind kind
kind_is kind head e = grind (arith, e)

add_role : role_at bench_tables 3 ≡ Some (bench_role Add)
unfolding kind_of
add_role = refl

mul_role : role_at bench_tables 4 ≡ Some (bench_role Mul)
unfolding kind_of
mul_role = refl

add_gives : (head : Head) (d e : Datum) → head.kind ≡ 3 → result_datum bench head (Some (d ∷ e ∷ [])) ≡ Some (Number (wrapping_sum (as_number d) (as_number e)))
unfolding meaning_by
add_gives head d e is = ap (λ r. only_given (by_role no_act (act_of bench_value) r (pure_shape head 2) Empty (d ∷ e ∷ []))) (ap (role_at bench_tables) is ∙ add_role)

mul_gives : (head : Head) (d e : Datum) → head.kind ≡ 4 → result_datum bench head (Some (d ∷ e ∷ [])) ≡ Some (Number (wrapping_product (as_number d) (as_number e)))
unfolding meaning_by
mul_gives head d e is = ap (λ r. only_given (by_role no_act (act_of bench_value) r (pure_shape head 2) Empty (d ∷ e ∷ []))) (ap (role_at bench_tables) is ∙ mul_role)

pure_add : IsPureHead bench (effects_by (role_at bench_tables)) (plain_head Add) 2
unfolding meaning_by effects_by kind_of
pure_add = record { admitted = refl; no_terminator = refl; harmless = refl }

pure_mul : IsPureHead bench (effects_by (role_at bench_tables)) (plain_head Mul) 2
unfolding meaning_by effects_by kind_of
pure_mul = record { admitted = refl; no_terminator = refl; harmless = refl }

-- ---- what is seen

-- a view of two operands has a datum where both have one
both_have : (m : Meaning) (head : Head) (p q : Option Datum) (d : Datum) → result_datum m head (prepend_optional p (prepend_optional q (Some []))) ≡ Some d → (e : Datum) × (f : Datum) × (p ≡ Some e) × (q ≡ Some f)
both_have m head None q d is = absurd (not_none is)
both_have m head (Some e) None d is = absurd (not_none is)
both_have m head (Some e) (Some f) d is = (e, f, refl, refl)

-- the value of an operand has its datum
operand_has : (env : Environment) (a : Operand) → OperandAgrees bench env a → env (operand_value a) ≡ operand_datum bench env a
operand_has env (Plain leaf) agrees = agrees
operand_has env (Made v head leaves) agrees = agrees.0

shown_value : (a : Operand) → In (operand_value a) (operand_values a)
shown_value (Plain leaf) = inl refl
shown_value (Made v head leaves) = inl refl

-- a number that an operand is known to be is its datum
known_reads : (env : Environment) (b : Operand) (n : ℤ) → known_operand b ≡ Some n → (f : Datum) → operand_datum bench env b ≡ Some f → as_number f ≡ n
known_reads env (Plain (Unknown v)) n e f is = absurd (not_none e)
known_reads env (Plain (Known v c)) n e f is = ap as_number (sym (some_is is)) ∙ read_constant c ∙ some_is e
known_reads env (Made v head leaves) n e f is = absurd (not_none e)

-- what an operand is the sum of
pub record IsSum (env : Environment) (a : Operand) (part : Addend) (d : Datum) : Type 0 where
  pub datum : Datum
  pub has : env part.value ≡ Some datum
  pub is : d ≡ Number (wrapping_sum (as_number datum) part.number)

sum_of_leaves : (env : Environment) (v : ℕ) (head : Head) (leaves : List Leaf) (part : Addend) (d : Datum) → head.kind ≡ 3 → Each (LeafAgrees env) leaves → part_of_leaves leaves ≡ Some part → result_datum bench head (data_by (leaf_datum env) leaves) ≡ Some d → IsSum env (Made v head leaves) part d
sum_of_leaves env v head [] part d kind agrees e is = absurd (not_none e)
sum_of_leaves env v head (p ∷ []) part d kind agrees e is = absurd (not_none e)
sum_of_leaves env v head (p ∷ Unknown w ∷ []) part d kind agrees e is = absurd (not_none e)
sum_of_leaves env v head (p ∷ Known w c ∷ []) part d kind agrees e is =
    let both = both_have bench head (leaf_datum env p) (Some (datum_of c)) d is in
    subst (λ z. IsSum env (Made v head (p ∷ Known w c ∷ [])) z d) (some_is e) (record {
      datum = both.0;
      has = agrees.0 ∙ both.2;
      is = some_is (sym is ∙ ap (λ o. result_datum bench head (prepend_optional o (Some (datum_of c ∷ [])))) both.2 ∙ add_gives head both.0 (datum_of c) kind) ∙ ap (λ n. Number (wrapping_sum (as_number both.0) n)) (read_constant c);
    })
sum_of_leaves env v head (p ∷ q ∷ r ∷ leaves) part d kind agrees e is = absurd (not_none e)

sum_is : (env : Environment) (a : Operand) (part : Addend) (d : Datum) → OperandAgrees bench env a → part_of a ≡ Some part → operand_datum bench env a ≡ Some d → IsSum env a part d
sum_is env (Plain leaf) part d agrees e is = absurd (not_none e)
sum_is env (Made v head leaves) part d agrees e is = go (is_kind Add head) refl e
  where
    go : (b : Bool) → is_kind Add head ≡ b → (if b then part_of_leaves leaves else None) ≡ Some part → IsSum env (Made v head leaves) part d
    go true kind f = sum_of_leaves env v head leaves part d (kind_is Add head kind) agrees.1 f is
    go false kind f = absurd (not_none f)

leaves_shown : (leaves : List Leaf) (part : Addend) → part_of_leaves leaves ≡ Some part → In part.value (map leaf_value leaves)
leaves_shown [] part e = absurd (not_none e)
leaves_shown (p ∷ []) part e = absurd (not_none e)
leaves_shown (p ∷ Unknown w ∷ []) part e = absurd (not_none e)
leaves_shown (p ∷ Known w c ∷ []) part e = inl (ap (λ z. z.value) (sym (some_is e)))
leaves_shown (p ∷ q ∷ r ∷ leaves) part e = absurd (not_none e)

part_shown : (a : Operand) (part : Addend) → part_of a ≡ Some part → In part.value (operand_values a)
part_shown (Plain leaf) part e = absurd (not_none e)
part_shown (Made v head leaves) part e = go (is_kind Add head) e
  where
    go : (b : Bool) → (if b then part_of_leaves leaves else None) ≡ Some part → In part.value (operand_values (Made v head leaves))
    go true f = inr (leaves_shown leaves part f)
    go false f = absurd (not_none f)

-- ---- the rules

abbrev IsRuleOf : View → Term → Type 0
IsRuleOf view term = IsRule bench (effects_by (role_at bench_tables)) is_number_attribute view term

module _ (head : Head) (kind : head.kind ≡ 3) (a b : Operand) where
  abbrev view : View
  view = record { head = head; operands = a ∷ b ∷ [] }

  sum_datum : (env : Environment) (d e f : Datum) → view_datum bench env view ≡ Some d → operand_datum bench env a ≡ Some e → operand_datum bench env b ≡ Some f → d ≡ Number (wrapping_sum (as_number e) (as_number f))
  sum_datum env d e f is p q = some_is (sym is ∙ ap₂ (λ o r. result_datum bench head (prepend_optional o (prepend_optional r (Some [])))) p q ∙ add_gives head e f kind)

  join_holds : (part : Addend) (n : ℤ) → part_of a ≡ Some part → known_operand b ≡ Some n → IsRuleOf view (term_with_number Add part.value (wrapping_sum part.number n))
  join_holds part n of known = record {
    buildable = (pure_add, (tt, (fits_sum part.number n, tt)));
    shown = λ v i. shown v i;
    equal = λ env d agrees is. equal env d agrees is;
  }
    where
      equal : (env : Environment) (d : Datum) → Agrees bench env view → view_datum bench env view ≡ Some d → term_datum bench env (term_with_number Add part.value (wrapping_sum part.number n)) ≡ Some d
      equal env d agrees is =
          let both = both_have bench head (operand_datum bench env a) (operand_datum bench env b) d is in
          let first = sum_is env a part both.0 agrees.0 of both.2 in
          let second = known_reads env b n known both.1 both.3 in
          ap (λ o. result_datum bench (plain_head Add) (prepend_optional o (Some (Number (wrapping_sum part.number n) ∷ [])))) first.has
          ∙ add_gives (plain_head Add) first.datum (Number (wrapping_sum part.number n)) refl
          ∙ ap (λ z. Some (Number z)) (sym (sums_join (as_number first.datum) part.number n))
          ∙ ap₂ (λ z y. Some (Number (wrapping_sum (as_number z) y))) (sym first.is) (sym second)
          ∙ ap Some (sym (sum_datum env d both.0 both.1 is both.2 both.3))

      shown : (v : ℕ) → In v (part.value ∷ []) → In v (shown_in view)
      shown v (inl e) = subst (λ z. In z (shown_in view)) (sym e) (In-left part.value (operand_values a) (flat_map operand_values (b ∷ [])) (part_shown a part of))
      shown v (inr never) = absurd never

  double_holds : operand_value a ≡ operand_value b → IsRuleOf view (term_with_number Mul (operand_value a) (pos 2))
  double_holds same = record {
    buildable = (pure_mul, (tt, (refl, tt)));
    shown = λ v i. shown v i;
    equal = λ env d agrees is. equal env d agrees is;
  }
    where
      shown : (v : ℕ) → In v (operand_value a ∷ []) → In v (shown_in view)
      shown v (inl e) = subst (λ z. In z (shown_in view)) (sym e) (In-left (operand_value a) (operand_values a) (flat_map operand_values (b ∷ [])) (shown_value a))
      shown v (inr never) = absurd never

      doubles : (n : ℤ) → wrapping_product n (int_wrap w64 (pos 2)) ≡ wrapping_sum n n
      doubles n = ap (λ z. wrapping_product n z) two ∙ ap (int_wrap w64) (sym (twice n))

      equal : (env : Environment) (d : Datum) → Agrees bench env view → view_datum bench env view ≡ Some d → term_datum bench env (term_with_number Mul (operand_value a) (pos 2)) ≡ Some d
      equal env d agrees is =
          let both = both_have bench head (operand_datum bench env a) (operand_datum bench env b) d is in
          let here : env (operand_value a) ≡ Some both.0 = operand_has env a agrees.0 ∙ both.2 in
          let there : env (operand_value b) ≡ Some both.1 = operand_has env b agrees.1.0 ∙ both.3 in
          let one : both.0 ≡ both.1 = some_is (sym here ∙ ap env same ∙ there) in
          ap (λ o. result_datum bench (plain_head Mul) (prepend_optional o (Some (Number (pos 2) ∷ [])))) here
          ∙ mul_gives (plain_head Mul) both.0 (Number (pos 2)) refl
          ∙ ap (λ z. Some (Number z)) (doubles (as_number both.0))
          ∙ ap (λ z. Some (Number (wrapping_sum (as_number both.0) (as_number z)))) one
          ∙ ap Some (sym (sum_datum env d both.0 both.1 is both.2 both.3))

  doubles_hold : (term : Term) → double_of a b ≡ Some term → IsRuleOf view term
  doubles_hold term e = go (nat_eq (operand_value a) (operand_value b)) refl e
    where
      go : (y : Bool) → nat_eq (operand_value a) (operand_value b) ≡ y → (if y then Some (term_with_number Mul (operand_value a) (pos 2)) else None) ≡ Some term → IsRuleOf view term
      go true same f = subst (IsRuleOf view) (some_is f) (double_holds (grind (arith, same)))
      go false other f = absurd (not_none f)

  two_hold : (term : Term) → first_of_two (join_of a b) (double_of a b) ≡ Some term → IsRuleOf view term
  two_hold term e = go (part_of a) refl (known_operand b) refl e
    where
      go : (part : Option Addend) → part_of a ≡ part → (n : Option ℤ) → known_operand b ≡ n → first_of_two (join_with part n) (double_of a b) ≡ Some term → IsRuleOf view term
      go None p n q f = doubles_hold term f
      go (Some part) p None q f = doubles_hold term f
      go (Some part) p (Some n) q f = subst (IsRuleOf view) (some_is f) (join_holds part n p q)

pub bench_rules_hold : RulesHold bench (effects_by (role_at bench_tables)) is_number_attribute bench_rules
bench_rules_hold view term e = by view.head view.operands e
  where
    with_kind : (head : Head) (a b : Operand) → rules_of_two head a b ≡ Some term → IsRuleOf (record { head = head; operands = a ∷ b ∷ [] }) term
    with_kind head a b f = go (is_kind Add head) refl f
      where
        go : (y : Bool) → is_kind Add head ≡ y → (if y then first_of_two (join_of a b) (double_of a b) else None) ≡ Some term → IsRuleOf (record { head = head; operands = a ∷ b ∷ [] }) term
        go true kind g = two_hold head (kind_is Add head kind) a b term g
        go false other g = absurd (not_none g)

    by : (head : Head) (operands : List Operand) → by_operands head operands ≡ Some term → IsRuleOf (record { head = head; operands = operands }) term
    by head [] f = absurd (not_none f)
    by head (a ∷ []) f = absurd (not_none f)
    by head (a ∷ b ∷ []) f = with_kind head a b f
    by head (a ∷ b ∷ c ∷ more) f = absurd (not_none f)
