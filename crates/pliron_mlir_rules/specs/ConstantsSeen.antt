-- What is seen of operations with a constant.
use Rattle.std.proofs.Common.{◌≡◌, ℕ, Bool, true, false, nat_eq, ◌&&◌, List, [], ◌∷◌, Option, Some, None, if◌then◌else◌, refl, sym, ap, ap₂, ◌∙◌, subst}
use Rattle.std.proofs.lemmas.Bool.Decides.{Decides-eqb}
use Rattle.pliron_core.specs.declared.attrs.Head.{Head}
use Rattle.pliron_core.proofs.HoldingLemmas.{not_none, some_is}
use Rattle.pliron_laws.specs.Datum.{Datum}
use Rattle.pliron_laws.specs.States.{Environment, prepend_optional}
use Rattle.pliron_dialect.specs.Roles.{Interpretation}
use Rattle.pliron_bits.specs.declared.flags.Flags.{Flags}
use Rattle.pliron_bits.specs.declared.operators.BinaryOperator.{BinaryOperator}
use Rattle.pliron_dialect_mlir.specs.declared.kind.Class.{Class}
use Rattle.pliron_dialect_mlir.specs.declared.computations.Arithmetic.{Arithmetic}
use Rattle.pliron_dialect_mlir.specs.Computations.{arithmetic_of}
use Rattle.pliron_rewrite_rules.specs.declared.view.Leaf.{Leaf}
use Rattle.pliron_rewrite_rules.specs.declared.view.Operand.{Operand}
use Rattle.pliron_rewrite_rules.specs.declared.view.Operand.TheVariants.{Plain, Made}
use Rattle.pliron_rewrite_rules.specs.Views.{OperandAgrees, leaf_value, leaf_datum, operand_datum, result_datum}
use Rattle.pliron_mlir_rules.specs.declared.seen.ConstantOperation.{ConstantOperation}
use Rattle.pliron_mlir_rules.specs.HeadsSay.{both_so, SaysArithmetic, says_arithmetic}
use Rattle.pliron_mlir_rules.specs.IntegerActs.{constant_result, mlir_meaning}
use Rattle.pliron_mlir_rules.specs.Integers.{integer}
use Rattle.pliron_mlir_rules.specs.MlirRules.{leaf_bits, promise_alike, operation_with, constant_leaves, operation_alike}
use Rattle.pliron_mlir_rules.specs.Seen.{both_have, leaf_reads}

pub record SaysConstant (operator : BinaryOperator) (flags : Flags) (width : ℕ) (a : Operand) (t : ConstantOperation) : Type 0 where
  pub head : Head
  pub arithmetic : Arithmetic
  pub says : SaysArithmetic operator head arithmetic
  pub x : Leaf
  pub c : Leaf
  pub made : ℕ
  pub is : a ≡ Made made head (x ∷ c ∷ [])
  pub same : arithmetic.width ≡ width
  pub alike : promise_alike flags arithmetic.flags ≡ true
  pub value_is : leaf_value x ≡ t.value
  pub reads : leaf_bits width c ≡ Some t.constant

pub says_constant : (operator : BinaryOperator) (flags : Flags) (width : ℕ) (a : Operand) (t : ConstantOperation) → operation_alike operator flags width a ≡ Some t → SaysConstant operator flags width a t
says_constant operator flags width (Plain leaf) t e = absurd (not_none e)
says_constant operator flags width (Made v head leaves) t e = of_arithmetic (arithmetic_of operator head) refl leaves refl e
  where
    of_bits : (s : Arithmetic) → arithmetic_of operator head ≡ Some s → (x c : Leaf) → leaves ≡ x ∷ c ∷ [] → s.width ≡ width → promise_alike flags s.flags ≡ true → (o : Option ℕ) → leaf_bits width c ≡ o → operation_with (leaf_value x) o ≡ Some t → SaysConstant operator flags width (Made v head leaves) t
    of_bits s f x c i same alike None g h = absurd (not_none h)
    of_bits s f x c i same alike (Some k) g h =
        let whole : record { value = leaf_value x; constant = k } ≡ t = some_is h in
        record {
          head = head;
          arithmetic = s;
          says = says_arithmetic operator head s f;
          x = x;
          c = c;
          made = v;
          is = ap (Made v head) i;
          same = same;
          alike = alike;
          value_is = ap (λ u. u.value) whole;
          reads = g ∙ ap (λ u. Some u.constant) whole;
        }

    of_flags : (s : Arithmetic) → arithmetic_of operator head ≡ Some s → (x c : Leaf) → leaves ≡ x ∷ c ∷ [] → (b : Bool) → nat_eq s.width width && promise_alike flags s.flags ≡ b → (if b then operation_with (leaf_value x) (leaf_bits width c) else None) ≡ Some t → SaysConstant operator flags width (Made v head leaves) t
    of_flags s f x c i false g h = absurd (not_none h)
    of_flags s f x c i true g h =
        let both = both_so (nat_eq s.width width) (promise_alike flags s.flags) g in
        of_bits s f x c i ((Decides-eqb s.width width).0 both.0) both.1 (leaf_bits width c) refl h

    of_arithmetic : (o : Option Arithmetic) → arithmetic_of operator head ≡ o → (ls : List Leaf) → leaves ≡ ls → constant_leaves flags width o ls ≡ Some t → SaysConstant operator flags width (Made v head leaves) t
    of_arithmetic None f ls i g = absurd (none_left ls g)
      where
        none_left : (ls : List Leaf) → constant_leaves flags width None ls ≡ Some t → ⊥
        none_left ls h = not_none h
    of_arithmetic (Some s) f [] i g = absurd (not_none g)
    of_arithmetic (Some s) f (x ∷ []) i g = absurd (not_none g)
    of_arithmetic (Some s) f (x ∷ c ∷ []) i g = of_flags s f x c i (nat_eq s.width width && promise_alike flags s.flags) refl g
    of_arithmetic (Some s) f (x ∷ c ∷ y ∷ more) i g = absurd (not_none g)

module _ {K : Type 0} (class_of : K → Class) (kind : Class → K) (value : Interpretation) (forth : (c : Class) → class_of (kind c) ≡ c) where
  -- what operations with this operator, these promises, width and constant give
  abbrev pub ConstantGives : BinaryOperator → Flags → (width c : ℕ) → Type 0
  ConstantGives operator flags width c =
      (head : Head) (s : Arithmetic) → SaysArithmetic operator head s → s.width ≡ width → promise_alike flags s.flags ≡ true → (d : Datum) → result_datum (mlir_meaning class_of kind value) head (Some (d ∷ integer width c ∷ [])) ≡ Some (constant_result operator s.flags width d c)

  -- the operation that is seen has a datum
  pub inner_gives : (env : Environment) (operator : BinaryOperator) (flags : Flags) (width : ℕ) (a : Operand) (t : ConstantOperation) (d : Datum) → ConstantGives operator flags width t.constant → SaysConstant operator flags width a t → OperandAgrees (mlir_meaning class_of kind value) env a → operand_datum (mlir_meaning class_of kind value) env a ≡ Some d → (inner : Flags) × (x : Datum) × (promise_alike flags inner ≡ true) × (env t.value ≡ Some x) × (d ≡ constant_result operator inner width x t.constant)
  inner_gives env operator flags width a t d gives u agrees e =
      of (subst (OperandAgrees (mlir_meaning class_of kind value) env) u.is agrees) (ap (operand_datum (mlir_meaning class_of kind value) env) (sym u.is) ∙ e)
    where
      of : OperandAgrees (mlir_meaning class_of kind value) env (Made u.made u.head (u.x ∷ u.c ∷ [])) → operand_datum (mlir_meaning class_of kind value) env (Made u.made u.head (u.x ∷ u.c ∷ [])) ≡ Some d → (inner : Flags) × (x : Datum) × (promise_alike flags inner ≡ true) × (env t.value ≡ Some x) × (d ≡ constant_result operator inner width x t.constant)
      of within f =
          let both = both_have (mlir_meaning class_of kind value) u.head (leaf_datum env u.x) (leaf_datum env u.c) d f in
          let reads = leaf_reads class_of kind value forth env width u.c t.constant both.1 u.reads both.3 in (
            u.arithmetic.flags,
            both.0,
            u.alike,
            ap env (sym u.value_is) ∙ within.1.0 ∙ both.2,
            some_is (sym f ∙ ap₂ (λ p q. result_datum (mlir_meaning class_of kind value) u.head (prepend_optional p (prepend_optional q (Some [])))) both.2 (both.3 ∙ ap Some reads)
                ∙ gives u.head u.arithmetic u.says u.same u.alike both.0),
          )
