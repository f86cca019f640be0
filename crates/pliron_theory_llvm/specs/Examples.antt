-- What LLVM's operations do on some data, and where the dialect's tables say otherwise whatever the interpretation is.
use Rattle.std.specs.Prelude.{◌≡◌, ◌+◌, ◌*◌, ◌^◌, ℕ, true, List, [], ◌∷◌, Some, None, pos, negsuc}
use Rattle.pliron_core.specs.declared.attrs.AttrObj.TheVariants.{Int}
use Rattle.pliron_laws.specs.Datum.{Datum, Empty, Number, Text, Shape, Give, Trap}
use Rattle.pliron_bits.specs.declared.operators.BinaryOperator.TheVariants.{Add, Subtract, UnsignedDivide, SignedDivide, SignedDivideUp, ShiftLeft, Or}
use Rattle.pliron_bits.specs.declared.operators.Cast.TheVariants.{ZeroExtend}
use Rattle.pliron_dialect.specs.Roles.{Interpretation, act_of}
use Rattle.pliron_dialect_mlir.specs.declared.kind.Class.{Class}
use Rattle.pliron_dialect_mlir.specs.declared.kind.Class.TheVariants.{Binary, Cast, Select, Branch}
use Rattle.pliron_dialect_mlir.specs.ClassNumbers.{number_of_class}
use Rattle.pliron_dialect_mlir.specs.Heads.{attributes, naturals}
use Rattle.pliron_dialect_mlir.specs.Classes.{role_of_class}
use Rattle.pliron_dialect_mlir.specs.OtherData.{poison, given_otherwise}
use Rattle.pliron_theory_llvm.specs.Llvm.{Llvm, llvm_act}

-- integers of 8 bits and of one
abbrev pub byte : ℕ → Datum
byte n = Number (pos (8 * 2 ^ 64 + n))

abbrev pub yes : Datum
yes = Number (pos (2 ^ 64 + 1))

-- an operation of the class on integers of 8 bits, with these attributes behind the width
abbrev pub on_bytes : Class → (operands : ℕ) → (others : List ℕ) → Shape
on_bytes class operands others = record {
  head = record { kind = number_of_class class; ssa = true; attrs = Int (pos 8) ∷ attributes (naturals others) };
  operands = operands;
  results = 1;
  successors = 0;
  entry_arguments = [];
  target_arguments = Some [];
}

-- a branch whose edges forward nothing
abbrev pub plain_branch : Shape
plain_branch = record {
  head = record { kind = number_of_class Branch; ssa = true; attrs = attributes (pos 0 ∷ pos 0 ∷ pos 0 ∷ []) };
  operands = 1;
  results = 0;
  successors = 2;
  entry_arguments = [];
  target_arguments = None;
}

-- a target whose constant of form 3 is the byte 200
abbrev pub with_byte_constant : Llvm → Llvm
with_byte_constant l = record l { constant = λ form. Int (pos (8 * 2 ^ 64 + 200)) }

pub record Verdicts : Type 0 where
  -- `sub x x` is poison where x is; the tables say 0 of all data
  pub difference : (l : Llvm) → llvm_act l (Binary Subtract) (on_bytes (Binary Subtract) 2 (0 ∷ 0 ∷ [])) Empty (poison ∷ poison ∷ []) ≡ Give (poison ∷ [])
  pub difference_by_tables : (value : Interpretation) → act_of (given_otherwise value) (role_of_class (Binary Subtract)) (on_bytes (Binary Subtract) 2 (0 ∷ 0 ∷ [])) Empty (poison ∷ poison ∷ []) ≡ Give (byte 0 ∷ [])
  -- poison of one operand is poison; the tables pass on another datum that stands before it
  pub sum_of_poison : (l : Llvm) → llvm_act l (Binary Add) (on_bytes (Binary Add) 2 (0 ∷ 0 ∷ [])) Empty (byte 1 ∷ poison ∷ []) ≡ Give (poison ∷ [])
  pub passed_by_tables : (value : Interpretation) → act_of (given_otherwise value) (role_of_class (Binary Add)) (on_bytes (Binary Add) 2 (0 ∷ 0 ∷ [])) Empty (Text [] ∷ poison ∷ []) ≡ Give (Text [] ∷ [])
  -- `add nsw 127 1` is poison, `add 127 1` is -128, and a constant that isn't read is what it is to the target
  pub overflow : (l : Llvm) → llvm_act l (Binary Add) (on_bytes (Binary Add) 2 (1 ∷ 0 ∷ [])) Empty (byte 127 ∷ byte 1 ∷ []) ≡ Give (poison ∷ [])
  pub wrapped : (l : Llvm) → llvm_act l (Binary Add) (on_bytes (Binary Add) 2 (0 ∷ 0 ∷ [])) Empty (byte 127 ∷ byte 1 ∷ []) ≡ Give (byte 128 ∷ [])
  pub constant_meant : (l : Llvm) → llvm_act (with_byte_constant l) (Binary Add) (on_bytes (Binary Add) 2 (0 ∷ 0 ∷ [])) Empty (Number (negsuc 3) ∷ byte 1 ∷ []) ≡ Give (byte 201 ∷ [])
  -- `udiv 1 0`, `udiv 1 poison` and `sdiv poison -1` are undefined behaviour, and `-128` by -1 is; `udiv poison 2` and
  -- `udiv exact 3 2` are poison
  pub by_zero : (l : Llvm) → llvm_act l (Binary UnsignedDivide) (on_bytes (Binary UnsignedDivide) 2 (0 ∷ 0 ∷ [])) Empty (byte 1 ∷ byte 0 ∷ []) ≡ Trap
  pub by_poison : (l : Llvm) → llvm_act l (Binary UnsignedDivide) (on_bytes (Binary UnsignedDivide) 2 (0 ∷ 0 ∷ [])) Empty (byte 1 ∷ poison ∷ []) ≡ Trap
  pub least_or_poison : (l : Llvm) → llvm_act l (Binary SignedDivide) (on_bytes (Binary SignedDivide) 2 (0 ∷ 0 ∷ [])) Empty (poison ∷ byte 255 ∷ []) ≡ Trap
  pub least : (l : Llvm) → llvm_act l (Binary SignedDivideUp) (on_bytes (Binary SignedDivideUp) 2 (0 ∷ 0 ∷ [])) Empty (byte 128 ∷ byte 255 ∷ []) ≡ Trap
  pub poison_by_two : (l : Llvm) → llvm_act l (Binary UnsignedDivide) (on_bytes (Binary UnsignedDivide) 2 (0 ∷ 0 ∷ [])) Empty (poison ∷ byte 2 ∷ []) ≡ Give (poison ∷ [])
  pub inexact : (l : Llvm) → llvm_act l (Binary UnsignedDivide) (on_bytes (Binary UnsignedDivide) 2 (4 ∷ 0 ∷ [])) Empty (byte 3 ∷ byte 2 ∷ []) ≡ Give (poison ∷ [])
  -- `shl 1 8`, `or disjoint 3 1` and `zext nneg 128 to i16` are poison
  pub shifted : (l : Llvm) → llvm_act l (Binary ShiftLeft) (on_bytes (Binary ShiftLeft) 2 (0 ∷ 0 ∷ [])) Empty (byte 1 ∷ byte 8 ∷ []) ≡ Give (poison ∷ [])
  pub common_bit : (l : Llvm) → llvm_act l (Binary Or) (on_bytes (Binary Or) 2 (8 ∷ 0 ∷ [])) Empty (byte 3 ∷ byte 1 ∷ []) ≡ Give (poison ∷ [])
  pub negative : (l : Llvm) → llvm_act l (Cast ZeroExtend) (on_bytes (Cast ZeroExtend) 1 (16 ∷ 16 ∷ 0 ∷ [])) Empty (byte 128 ∷ []) ≡ Give (poison ∷ [])
  -- `select true 5 poison` is 5, and `select poison 5 5` is poison
  pub picked_five : (l : Llvm) → llvm_act l Select (on_bytes Select 3 []) Empty (yes ∷ byte 5 ∷ poison ∷ []) ≡ Give (byte 5 ∷ [])
  pub picked_by_poison : (l : Llvm) → llvm_act l Select (on_bytes Select 3 []) Empty (poison ∷ byte 5 ∷ byte 5 ∷ []) ≡ Give (poison ∷ [])
  -- a branch on poison is undefined behaviour
  pub branch : (l : Llvm) → llvm_act l Branch plain_branch Empty (poison ∷ []) ≡ Trap
