-- What each rule is proved with: what operations give, and what is seen of operands.
use Rattle.std.proofs.Common.{◌≡◌, ℕ, Bool, true, false, nat_eq, List, [], ◌∷◌, Option, Some, None, inl, inr, refl, ap}
use Rattle.std.specs.Prelude.{ℤ}
use Rattle.std.specs.Int.{w64, int_wrap}
use Rattle.std.specs.List.{flat_map}
use Rattle.pliron_core.specs.declared.attrs.Head.{Head}
use Rattle.pliron_core.specs.Tree.{In}
use Rattle.pliron_core.proofs.HoldingLemmas.{not_none, some_is}
use Rattle.pliron_core.proofs.ListLemmas.{In-left}
use Rattle.pliron_laws.specs.Datum.{Datum, Empty, Number, Meaning}
use Rattle.pliron_laws.specs.States.{Environment, prepend_optional}
use Rattle.pliron_dialect.specs.Parts.{same}
use Rattle.pliron_dialect.specs.Roles.{number_of, act_of, by_role, no_act, meaning_by, effects_by, role_at, allows_at}
use Rattle.pliron_role_runs.specs.Numbers.{is_whole_number}
use Rattle.pliron_role_runs.specs.Plain.{computes, never_asked}
use Rattle.pliron_dialect_arithmetic.specs.declared.kind.ArithmeticKind.{ArithmeticKind}
use Rattle.pliron_dialect_arithmetic.specs.Arithmetic.{arithmetic, arithmetic_number_of}
use Rattle.pliron_rewrite_rules.specs.Insertions.{pure_shape}
use Rattle.pliron_rewrite_rules.specs.declared.view.Leaf.{Leaf}
use Rattle.pliron_rewrite_rules.specs.declared.view.Operand.{Operand}
use Rattle.pliron_rewrite_rules.specs.declared.view.Operand.TheVariants.{Plain, Made}
use Rattle.pliron_rewrite_rules.specs.declared.view.View.{View}
use Rattle.pliron_rewrite_rules.specs.declared.term.Term.{Term}
use Rattle.pliron_rewrite_rules.specs.RuleLaws.{IsRule}
use Rattle.pliron_rewrite_rules.specs.Views.{Each, Agrees, OperandAgrees, only_given, operand_value, operand_values, operand_datum, result_datum, view_datum, shown_in}
use Rattle.pliron_arithmetic_rules.specs.ArithmeticRules.{is_arithmetic_kind, arithmetic_first}

-- ---- the dialect

abbrev pub arithmetic_meaning : Meaning
arithmetic_meaning = meaning_by never_asked (role_at arithmetic) (allows_at arithmetic)

abbrev pub IsArithmeticRule : View → Term → Type 0
IsArithmeticRule view term = IsRule arithmetic_meaning (effects_by (role_at arithmetic)) is_whole_number view term

pub kind_of_head : (kind : ArithmeticKind) (head : Head) → is_arithmetic_kind kind head ≡ true → head.kind ≡ arithmetic_number_of kind
kind_of_head kind head e = same head.kind (arithmetic_number_of kind) e

-- a datum as a number of 64 signed bits
abbrev pub as_arithmetic_number : Datum → ℤ
as_arithmetic_number d = int_wrap w64 (number_of d)

-- what an operation of two operands gives, by the line of its kind
pub two_give : (head : Head) (value : List (Option ℤ) → ℤ) (d e : Datum) → role_at arithmetic head.kind ≡ Some (computes 2 value) → result_datum arithmetic_meaning head (Some (d ∷ e ∷ [])) ≡ Some (Number (value (Some (number_of d) ∷ Some (number_of e) ∷ [])))
unfolding meaning_by
two_give head value d e is = ap (λ r. only_given (by_role no_act (act_of never_asked) r (pure_shape head 2) Empty (d ∷ e ∷ []))) is

-- the same of one operand
pub one_gives : (head : Head) (value : List (Option ℤ) → ℤ) (d : Datum) → role_at arithmetic head.kind ≡ Some (computes 1 value) → result_datum arithmetic_meaning head (Some (d ∷ [])) ≡ Some (Number (value (Some (number_of d) ∷ [])))
unfolding meaning_by
one_gives head value d is = ap (λ r. only_given (by_role no_act (act_of never_asked) r (pure_shape head 1) Empty (d ∷ []))) is

-- ---- operands

-- what the view has a datum by: those of its two operands
pub two_have : (m : Meaning) (head : Head) (p q : Option Datum) (d : Datum) → result_datum m head (prepend_optional p (prepend_optional q (Some []))) ≡ Some d → (e : Datum) × (f : Datum) × (p ≡ Some e) × (q ≡ Some f)
two_have m head None q d is = absurd (not_none is)
two_have m head (Some e) None d is = absurd (not_none is)
two_have m head (Some e) (Some f) d is = (e, f, refl, refl)

-- the same of one operand, or one leaf
pub single_has : (m : Meaning) (head : Head) (p : Option Datum) (d : Datum) → result_datum m head (prepend_optional p (Some [])) ≡ Some d → (e : Datum) × (p ≡ Some e)
single_has m head None d is = absurd (not_none is)
single_has m head (Some e) d is = (e, refl)

-- the value of an operand has its datum
pub operand_has : (m : Meaning) (env : Environment) (a : Operand) → OperandAgrees m env a → env (operand_value a) ≡ operand_datum m env a
operand_has m env (Plain leaf) agrees = agrees
operand_has m env (Made v head leaves) agrees = agrees.0

-- it is shown in a view where it is the first or the second operand
value_in : (a : Operand) → In (operand_value a) (operand_values a)
value_in (Plain leaf) = inl refl
value_in (Made v head leaves) = inl refl

pub first_shown : (head : Head) (a : Operand) (others : List Operand) → In (operand_value a) (shown_in (record { head = head; operands = a ∷ others }))
first_shown head a others = In-left (operand_value a) (operand_values a) (flat_map operand_values others) (value_in a)

-- ---- rules

-- the first answer is that of one of the rules
pub first_holds : (P : Term → Type 0) (answers : List (Option Term)) → Each (λ answer. (term : Term) → answer ≡ Some term → P term) answers → (term : Term) → arithmetic_first answers ≡ Some term → P term
first_holds P [] holds term e = absurd (not_none e)
first_holds P (Some found ∷ others) holds term e = holds.0 term e
first_holds P (None ∷ others) holds term e = first_holds P others holds.1 term e
