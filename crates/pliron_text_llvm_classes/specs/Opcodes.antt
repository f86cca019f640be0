-- What opcodes of LLVM are to the passes.
use Rattle.std.specs.Prelude.{◌||◌, ℕ, Bool, List, [], ◌∷◌, Option, Some, None, if◌then◌else◌, codes, bytes_eq}
use Rattle.pliron_bits.specs.declared.operators.BinaryOperator.{BinaryOperator}
use Rattle.pliron_bits.specs.declared.operators.BinaryOperator.TheVariants.{Add, Subtract, Multiply, UnsignedDivide, SignedDivide, UnsignedRemainder, SignedRemainder, ShiftLeft, LogicalShiftRight, ArithmeticShiftRight, And, Or, Xor}
use Rattle.pliron_bits.specs.declared.operators.Cast.{Cast}
use Rattle.pliron_bits.specs.declared.operators.Cast.TheVariants.{ZeroExtend, SignExtend, Truncate}
use Rattle.pliron_bits.specs.declared.operators.Predicate.{Predicate}
use Rattle.pliron_bits.specs.declared.operators.Predicate.TheVariants.{Equal, NotEqual, SignedLess, SignedLessEqual, SignedGreater, SignedGreaterEqual, UnsignedLess, UnsignedLessEqual, UnsignedGreater, UnsignedGreaterEqual}
use Rattle.pliron_text_llvm_reader.specs.Words.{is_one_of}

-- the row of this name
abbrev pub row_of_word : {A : Type 0} → List (List ℕ × A) → List ℕ → Option A
row_of_word [] word = None
row_of_word (row ∷ rows) word = if bytes_eq word row.0 then Some row.1 else row_of_word rows word

-- operators on two integers of one type
abbrev pub operators : List (List ℕ × BinaryOperator)
operators =
    (codes "add", Add) ∷
    (codes "sub", Subtract) ∷
    (codes "mul", Multiply) ∷
    (codes "udiv", UnsignedDivide) ∷
    (codes "sdiv", SignedDivide) ∷
    (codes "urem", UnsignedRemainder) ∷
    (codes "srem", SignedRemainder) ∷
    (codes "shl", ShiftLeft) ∷
    (codes "lshr", LogicalShiftRight) ∷
    (codes "ashr", ArithmeticShiftRight) ∷
    (codes "and", And) ∷
    (codes "or", Or) ∷
    (codes "xor", Xor) ∷
    []

-- casts of integers; one to as many bits leaves them as they are
abbrev pub casts : List (List ℕ × Cast)
casts = (codes "zext", ZeroExtend) ∷ (codes "bitcast", ZeroExtend) ∷ (codes "sext", SignExtend) ∷ (codes "trunc", Truncate) ∷ []

-- predicates of comparisons
abbrev pub predicates : List (List ℕ × Predicate)
predicates =
    (codes "eq", Equal) ∷
    (codes "ne", NotEqual) ∷
    (codes "slt", SignedLess) ∷
    (codes "sle", SignedLessEqual) ∷
    (codes "sgt", SignedGreater) ∷
    (codes "sge", SignedGreaterEqual) ∷
    (codes "ult", UnsignedLess) ∷
    (codes "ule", UnsignedLessEqual) ∷
    (codes "ugt", UnsignedGreater) ∷
    (codes "uge", UnsignedGreaterEqual) ∷
    []

-- what they give follows from what they are given and from their text, and no table says how
abbrev pub pure_float_opcodes : List (List ℕ)
pure_float_opcodes =
    codes "fadd" ∷ codes "fsub" ∷ codes "fmul" ∷ codes "fdiv" ∷ codes "frem" ∷ codes "fneg" ∷ codes "fcmp" ∷ []

abbrev pub pure_cast_opcodes : List (List ℕ)
pure_cast_opcodes =
    codes "fptrunc" ∷ codes "fpext" ∷ codes "uitofp" ∷ codes "sitofp" ∷ codes "fptoui" ∷ codes "fptosi" ∷
    codes "inttoptr" ∷ codes "ptrtoint" ∷ codes "ptrtoaddr" ∷ codes "addrspacecast" ∷ []

abbrev pub pure_element_opcodes : List (List ℕ)
pure_element_opcodes =
    codes "getelementptr" ∷ codes "extractvalue" ∷ codes "insertvalue" ∷ codes "extractelement" ∷
    codes "insertelement" ∷ codes "shufflevector" ∷ []

abbrev pub is_pure_opcode : List ℕ → Bool
is_pure_opcode opcode =
    is_one_of pure_float_opcodes opcode || is_one_of pure_cast_opcodes opcode || is_one_of pure_element_opcodes opcode

-- they ask the world, and would do so in any function
abbrev pub effect_opcodes : List (List ℕ)
effect_opcodes =
    codes "load" ∷ codes "store" ∷ codes "fence" ∷ codes "atomicrmw" ∷ codes "cmpxchg" ∷ codes "freeze" ∷
    codes "call" ∷ codes "tail" ∷ codes "musttail" ∷ codes "notail" ∷ []
