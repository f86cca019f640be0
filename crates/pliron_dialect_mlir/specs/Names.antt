-- The classes by the names of MLIR, where operands and results are integers of at most 64 bits or `index`.
use Rattle.std.specs.Prelude.{◌||◌, ℕ, Bool, false, List, [], ◌∷◌, take, drop, length, Option, Some, None, if◌then◌else◌, codes, bytes_eq}
use Rattle.pliron_bits.specs.declared.operators.BinaryOperator.{BinaryOperator}
use Rattle.pliron_bits.specs.declared.operators.BinaryOperator.TheVariants.{Add, Subtract, Multiply, UnsignedDivide, SignedDivide, UnsignedRemainder, SignedRemainder, ShiftLeft, LogicalShiftRight, ArithmeticShiftRight, And, Or, Xor, UnsignedMinimum, SignedMinimum, UnsignedMaximum, SignedMaximum, UnsignedDivideUp, SignedDivideUp, SignedDivideDown}
use Rattle.pliron_bits.specs.declared.operators.Cast.TheVariants.{ZeroExtend, SignExtend, Truncate}
use Rattle.pliron_dialect_mlir.specs.declared.kind.Class.{Class}
use Rattle.pliron_dialect_mlir.specs.declared.kind.Class.TheVariants.{Constant, Select, Opaque, Jump, Branch, Switch, Leave, Unreachable, Effect, Local, Root, Module, Compare, Cast as CastClass, Binary}

-- the row of this name
abbrev pub lookup : {A : Type 0} → List (List ℕ × A) → List ℕ → Option A
lookup [] name = None
lookup (row ∷ rows) name = if bytes_eq name row.0 then Some row.1 else lookup rows name

abbrev pub is_named : List (List ℕ) → List ℕ → Bool
is_named [] name = false
is_named (known ∷ names) name = bytes_eq name known || is_named names name

abbrev pub name_begins : List ℕ → List ℕ → Bool
name_begins start name = bytes_eq (take (length start) name) start

-- ---- the dialects `builtin`, `func`, `cf`, and terminators of others that only pass on their operands

abbrev pub classes_elsewhere : List (List ℕ × Class)
classes_elsewhere =
    (codes "builtin.module", Module) ∷
    (codes "builtin.unrealized_conversion_cast", Opaque) ∷
    (codes "func.func", Root) ∷
    (codes "func.return", Leave) ∷
    (codes "func.constant", Constant) ∷
    (codes "func.call", Effect) ∷
    (codes "func.call_indirect", Effect) ∷
    (codes "cf.br", Jump) ∷
    (codes "cf.cond_br", Branch) ∷
    (codes "cf.switch", Switch) ∷
    (codes "cf.assert", Effect) ∷
    (codes "scf.yield", Leave) ∷
    (codes "scf.condition", Leave) ∷
    (codes "affine.yield", Leave) ∷
    (codes "linalg.yield", Leave) ∷
    []

-- ---- the dialect `complex`, which is pure

abbrev pub complex_class : List ℕ → Class
complex_class name = if bytes_eq name (codes "complex.constant") then Constant else Opaque

-- ---- the dialect `arith`, by the names behind the dot; all others there are pure

abbrev pub arith_classes : List (List ℕ × Class)
arith_classes =
    (codes "constant", Constant) ∷
    (codes "select", Select) ∷
    (codes "cmpi", Compare) ∷
    (codes "extui", CastClass ZeroExtend) ∷
    (codes "index_castui", CastClass ZeroExtend) ∷
    (codes "bitcast", CastClass ZeroExtend) ∷
    (codes "extsi", CastClass SignExtend) ∷
    (codes "index_cast", CastClass SignExtend) ∷
    (codes "trunci", CastClass Truncate) ∷
    []

abbrev pub arith_operators : List (List ℕ × BinaryOperator)
arith_operators =
    (codes "addi", Add) ∷
    (codes "subi", Subtract) ∷
    (codes "muli", Multiply) ∷
    (codes "divui", UnsignedDivide) ∷
    (codes "divsi", SignedDivide) ∷
    (codes "remui", UnsignedRemainder) ∷
    (codes "remsi", SignedRemainder) ∷
    (codes "shli", ShiftLeft) ∷
    (codes "shrui", LogicalShiftRight) ∷
    (codes "shrsi", ArithmeticShiftRight) ∷
    (codes "andi", And) ∷
    (codes "ori", Or) ∷
    (codes "xori", Xor) ∷
    (codes "minui", UnsignedMinimum) ∷
    (codes "minsi", SignedMinimum) ∷
    (codes "maxui", UnsignedMaximum) ∷
    (codes "maxsi", SignedMaximum) ∷
    (codes "ceildivui", UnsignedDivideUp) ∷
    (codes "ceildivsi", SignedDivideUp) ∷
    (codes "floordivsi", SignedDivideDown) ∷
    []

abbrev pub binary_or : Option BinaryOperator → Class → Class
binary_or (Some operator) other = Binary operator
binary_or None other = other

abbrev pub class_or : Option Class → Class → Class
class_or (Some class) other = class
class_or None other = other

abbrev pub arith_class : List ℕ → Class
arith_class name = class_or (lookup arith_classes name) (binary_or (lookup arith_operators name) Opaque)

-- ---- the dialect `llvm`, by the names behind the dot

abbrev pub llvm_classes : List (List ℕ × Class)
llvm_classes =
    (codes "mlir.constant", Constant) ∷
    (codes "mlir.addressof", Constant) ∷
    (codes "mlir.zero", Constant) ∷
    (codes "select", Select) ∷
    (codes "icmp", Compare) ∷
    (codes "zext", CastClass ZeroExtend) ∷
    (codes "bitcast", CastClass ZeroExtend) ∷
    (codes "sext", CastClass SignExtend) ∷
    (codes "trunc", CastClass Truncate) ∷
    (codes "br", Jump) ∷
    (codes "cond_br", Branch) ∷
    (codes "switch", Switch) ∷
    (codes "return", Leave) ∷
    (codes "unreachable", Unreachable) ∷
    (codes "func", Root) ∷
    []

abbrev pub llvm_operators : List (List ℕ × BinaryOperator)
llvm_operators =
    (codes "add", Add) ∷
    (codes "sub", Subtract) ∷
    (codes "mul", Multiply) ∷
    (codes "udiv", UnsignedDivide) ∷
    (codes "sdiv", SignedDivide) ∷
    (codes "urem", UnsignedRemainder) ∷
    (codes "srem", SignedRemainder) ∷
    (codes "shl", ShiftLeft) ∷
    (codes "lshr", LogicalShiftRight) ∷
    (codes "ashr", ArithmeticShiftRight) ∷
    (codes "and", And) ∷
    (codes "or", Or) ∷
    (codes "xor", Xor) ∷
    (codes "intr.umin", UnsignedMinimum) ∷
    (codes "intr.smin", SignedMinimum) ∷
    (codes "intr.umax", UnsignedMaximum) ∷
    (codes "intr.smax", SignedMaximum) ∷
    []

-- pure, and opaque
abbrev pub pure_casts : List (List ℕ)
pure_casts = codes "inttoptr" ∷ codes "ptrtoint" ∷ codes "addrspacecast" ∷ codes "fptoui" ∷ codes "fptosi" ∷ codes "uitofp" ∷ codes "sitofp" ∷ codes "fpext" ∷ codes "fptrunc" ∷ []

abbrev pub pure_aggregates : List (List ℕ)
pure_aggregates = codes "getelementptr" ∷ codes "insertvalue" ∷ codes "extractvalue" ∷ codes "insertelement" ∷ codes "extractelement" ∷ codes "shufflevector" ∷ []

abbrev pub float_operations : List (List ℕ)
float_operations = codes "fadd" ∷ codes "fsub" ∷ codes "fmul" ∷ codes "fdiv" ∷ codes "frem" ∷ codes "fneg" ∷ codes "fcmp" ∷ []

-- pure intrinsics, by the names behind `intr.`
abbrev pub counting_intrinsics : List (List ℕ)
counting_intrinsics = codes "abs" ∷ codes "bswap" ∷ codes "bitreverse" ∷ codes "ctlz" ∷ codes "cttz" ∷ codes "ctpop" ∷ codes "fshl" ∷ codes "fshr" ∷ []

abbrev pub overflowing_intrinsics : List (List ℕ)
overflowing_intrinsics = codes "sadd.with.overflow" ∷ codes "uadd.with.overflow" ∷ codes "ssub.with.overflow" ∷ codes "usub.with.overflow" ∷ codes "smul.with.overflow" ∷ codes "umul.with.overflow" ∷ []

abbrev pub hinting_intrinsics : List (List ℕ)
hinting_intrinsics = codes "sadd.sat" ∷ codes "uadd.sat" ∷ codes "ssub.sat" ∷ codes "usub.sat" ∷ codes "sshl.sat" ∷ codes "ushl.sat" ∷ codes "expect" ∷ codes "expect.with.probability" ∷ codes "ptrmask" ∷ []

abbrev pub float_functions : List (List ℕ)
float_functions = codes "fabs" ∷ codes "sqrt" ∷ codes "sin" ∷ codes "cos" ∷ codes "exp" ∷ codes "exp2" ∷ codes "log" ∷ codes "log10" ∷ codes "log2" ∷ codes "pow" ∷ []

abbrev pub float_roundings : List (List ℕ)
float_roundings = codes "floor" ∷ codes "ceil" ∷ codes "trunc" ∷ codes "rint" ∷ codes "nearbyint" ∷ codes "round" ∷ codes "roundeven" ∷ []

abbrev pub float_others : List (List ℕ)
float_others = codes "powi" ∷ codes "fma" ∷ codes "fmuladd" ∷ codes "copysign" ∷ codes "minnum" ∷ codes "maxnum" ∷ codes "minimum" ∷ codes "maximum" ∷ codes "is.fpclass" ∷ []

abbrev pub is_pure_intrinsic : List ℕ → Bool
is_pure_intrinsic name = is_named counting_intrinsics name || (is_named overflowing_intrinsics name || (is_named hinting_intrinsics name || (is_named float_functions name || (is_named float_roundings name || (is_named float_others name || name_begins (codes "vector.reduce.") name)))))

abbrev pub is_pure : List ℕ → Bool
is_pure name = if name_begins (codes "intr.") name then is_pure_intrinsic (drop 5 name) else (is_named pure_casts name || (is_named pure_aggregates name || is_named float_operations name))

-- what asks the world, and would do the same in another function
abbrev pub llvm_effects : List (List ℕ)
llvm_effects = codes "mlir.undef" ∷ codes "mlir.poison" ∷ codes "freeze" ∷ codes "load" ∷ codes "store" ∷ codes "call" ∷ codes "fence" ∷ codes "atomicrmw" ∷ codes "cmpxchg" ∷ []

abbrev pub effect_intrinsics : List (List ℕ)
effect_intrinsics = codes "memcpy" ∷ codes "memcpy.inline" ∷ codes "memmove" ∷ codes "memset" ∷ codes "memset.inline" ∷ codes "assume" ∷ codes "prefetch" ∷ codes "trap" ∷ codes "debugtrap" ∷ []

abbrev pub is_effect : List ℕ → Bool
is_effect name = if name_begins (codes "intr.") name then is_named effect_intrinsics (drop 5 name) else is_named llvm_effects name

-- what asks the world for memory or arguments of its function, as names that are none of these may do
abbrev pub llvm_local : List (List ℕ)
llvm_local = codes "alloca" ∷ codes "inline_asm" ∷ codes "va_arg" ∷ []

abbrev pub acting_class : (effect is_local : Bool) → Option Class
acting_class effect is_local = if effect then Some Effect else (if is_local then Some Local else None)

abbrev pub pure_or_acting : (pure : Bool) → Option Class → Option Class
pure_or_acting pure acting = if pure then Some Opaque else acting

abbrev pub some_or : Option Class → Option Class → Option Class
some_or (Some class) other = Some class
some_or None other = other

abbrev pub some_binary_or : Option BinaryOperator → Option Class → Option Class
some_binary_or (Some operator) other = Some (Binary operator)
some_binary_or None other = other

abbrev pub llvm_class : List ℕ → Option Class
llvm_class name = some_binary_or (lookup llvm_operators name) (some_or (lookup llvm_classes name) (pure_or_acting (is_pure name) (acting_class (is_effect name) (is_named llvm_local name))))

-- ---- all

abbrev pub class_named : List ℕ → Option Class
class_named name =
    if name_begins (codes "llvm.") name then llvm_class (drop 5 name)
    else if name_begins (codes "arith.") name then Some (arith_class (drop 6 name))
    else if name_begins (codes "math.") name then Some Opaque
    else if name_begins (codes "complex.") name then Some (complex_class name)
    else lookup classes_elsewhere name
