-- What an operation is taken for by what is known of its name.
use Rattle.std.proofs.Common.{◌≡◌, List, ℕ, Result, Ok, Err, IfOk, refl, sym, subst, inl, inr}
use Rattle.pliron_core.specs.declared.attrs.Head.{Head}
use Rattle.pliron_dialect_mlir.specs.declared.kind.Class.TheVariants.{Constant, Branch, Switch}
use Rattle.pliron_dialect_mlir.specs.declared.kind.Class.{Class}
use Rattle.pliron_text_mlir_syntax.specs.declared.sheet.Sheet.{Sheet}
use Rattle.pliron_text_mlir_syntax.specs.Numbers.{width_written}
use Rattle.pliron_text_mlir_reader.specs.declared.known.KnownName.{KnownName}
use Rattle.pliron_text_mlir_reader.specs.declared.taken.OperationShape.{OperationShape}
use Rattle.pliron_text_mlir_reader.specs.Known.{known_in_quotes}
use Rattle.pliron_text_mlir_reader.specs.Said.{Said}
use Rattle.pliron_text_mlir_reader.specs.Taken.{class_taken}
use Rattle.pliron_text_mlir_reader.specs.declared.owned.OwnedProperty.{OwnedProperty}
use Rattle.pliron_text_mlir_syntax.specs.declared.fault.Fault.{Fault}
use Rattle.pliron_text_mlir_reader.specs.TakenHeads.{Forms, IsConstantHead, IsBranchHead, IsSwitchHead, IsOtherHead, IsHeadOf, IsKnownAs, IsKeptAs, IsTakenHead, IsTakenFor}

taken_for : (sheet : Sheet) (known : KnownName) (s : OperationShape) (said : Said) (forms : Forms) (head : Head) → known ≡ known_in_quotes forms.form.name → IsKnownAs sheet known s said forms head
    → IsTakenFor sheet s said forms head
taken_for sheet known s said forms head named is = subst (λ k. IsKnownAs sheet k s said forms head) named is

-- what is taken for one of its class is taken for it by its name
pub taken_so : (sheet : Sheet) (known : KnownName) (s : OperationShape) (said : Said) (forms : Forms) (class : Class) (r : Result Head Fault) → known ≡ known_in_quotes forms.form.name
    → class ≡ class_taken known.class s → IfOk r (λ head. IsHeadOf sheet class known.owned s said forms head) → IfOk r (λ head. IsTakenFor sheet s said forms head)
taken_so sheet known s said forms class (Ok head) named at is = taken_for sheet known s said forms head named (subst (λ c. IsHeadOf sheet c known.owned s said forms head) at is)
taken_so sheet known s said forms class (Err fault) named at is = is

pub constant_taken : (sheet : Sheet) (known : KnownName) (s : OperationShape) (said : Said) (forms : Forms) (class : Class) (r : Result Head Fault) → known ≡ known_in_quotes forms.form.name
    → class ≡ class_taken known.class s → class ≡ Constant → IfOk r (λ head. IsConstantHead sheet known.owned s.to said forms.form head) → IfOk r (λ head. IsTakenFor sheet s said forms head)
constant_taken sheet known s said forms class r named at here is =
    taken_so sheet known s said forms class r named at (subst (λ c. IfOk r (λ head. IsHeadOf sheet c known.owned s said forms head)) (sym here) is)

pub branch_taken_so : (sheet : Sheet) (known : KnownName) (s : OperationShape) (said : Said) (forms : Forms) (class : Class) (r : Result Head Fault) → known ≡ known_in_quotes forms.form.name
    → class ≡ class_taken known.class s → class ≡ Branch → IfOk r (λ head. IsBranchHead sheet s said forms head) → IfOk r (λ head. IsTakenFor sheet s said forms head)
branch_taken_so sheet known s said forms class r named at here is =
    taken_so sheet known s said forms class r named at (subst (λ c. IfOk r (λ head. IsHeadOf sheet c known.owned s said forms head)) (sym here) is)

pub switch_taken_so : (sheet : Sheet) (known : KnownName) (s : OperationShape) (said : Said) (forms : Forms) (class : Class) (r : Result Head Fault) → known ≡ known_in_quotes forms.form.name
    → class ≡ class_taken known.class s → class ≡ Switch → IfOk r (λ head. IsSwitchHead sheet s said forms head) → IfOk r (λ head. IsTakenFor sheet s said forms head)
switch_taken_so sheet known s said forms class r named at here is =
    taken_so sheet known s said forms class r named at (subst (λ c. IfOk r (λ head. IsHeadOf sheet c known.owned s said forms head)) (sym here) is)

other_head : (sheet : Sheet) (class : Class) (owned : OwnedProperty) (s : OperationShape) (said : Said) (forms : Forms) (head : Head) → (class ≡ Constant → ⊥) → (class ≡ Branch → ⊥) → (class ≡ Switch → ⊥)
    → IsOtherHead sheet class owned s said forms.form head → IsHeadOf sheet class owned s said forms head
other_head sheet Constant owned s said forms head no_constant no_branch no_switch is = absurd (no_constant refl)
other_head sheet Branch owned s said forms head no_constant no_branch no_switch is = absurd (no_branch refl)
other_head sheet Switch owned s said forms head no_constant no_branch no_switch is = absurd (no_switch refl)
other_head sheet _ owned s said forms head no_constant no_branch no_switch is = is

pub other_taken_so : (sheet : Sheet) (class : Class) (owned : OwnedProperty) (s : OperationShape) (said : Said) (forms : Forms) (r : Result Head Fault) → (class ≡ Constant → ⊥) → (class ≡ Branch → ⊥) → (class ≡ Switch → ⊥)
    → IfOk r (λ head. IsOtherHead sheet class owned s said forms.form head) → IfOk r (λ head. IsHeadOf sheet class owned s said forms head)
other_taken_so sheet class owned s said forms (Ok head) no_constant no_branch no_switch is = other_head sheet class owned s said forms head no_constant no_branch no_switch is
other_taken_so sheet class owned s said forms (Err fault) no_constant no_branch no_switch is = is

pub other_taken : (sheet : Sheet) (known : KnownName) (s : OperationShape) (said : Said) (forms : Forms) (class : Class) (r : Result Head Fault) → known ≡ known_in_quotes forms.form.name
    → class ≡ class_taken known.class s → (class ≡ Constant → ⊥) → (class ≡ Branch → ⊥) → (class ≡ Switch → ⊥)
    → IfOk r (λ head. IsOtherHead sheet class known.owned s said forms.form head) → IfOk r (λ head. IsTakenFor sheet s said forms head)
other_taken sheet known s said forms class r named at no_constant no_branch no_switch is =
    taken_so sheet known s said forms class r named at (other_taken_so sheet class known.owned s said forms r no_constant no_branch no_switch is)

pub taken_by_text : (sheet : Sheet) (s : OperationShape) (said : Said) (forms : Forms) (head : Head) → s.from ≡ width_written said.operand → s.to ≡ width_written said.result
    → IsTakenFor sheet s said forms head → ∥ IsTakenHead head ∥₁
taken_by_text sheet s said forms head from to is = ∣ inl (sheet, s, said, forms, from, to, is) ∣₁

pub taken_as_kept : (sheet : Sheet) (text : List ℕ) (head : Head) → IsKeptAs sheet text head → ∥ IsTakenHead head ∥₁
taken_as_kept sheet text head is = ∣ inr (sheet, text, is) ∣₁
