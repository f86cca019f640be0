-- Which names own a property that is read, as MLIR 22 has them.
use Rattle.std.specs.Prelude.{◌||◌, ℕ, Bool, false, List, [], ◌∷◌, if◌then◌else◌, codes, bytes_eq}
use Rattle.pliron_text_mlir_reader.specs.declared.owned.OwnedProperty.{OwnedProperty}
use Rattle.pliron_text_mlir_reader.specs.declared.owned.OwnedProperty.TheVariants.{Nothing, Value, Zero, Predicate, LlvmOverflow, ArithOverflow, Exact, Disjoint, NonNegative, Edges, Callee, Symbol}
use Rattle.pliron_dialect_mlir.specs.Names.{is_named}

abbrev pub value_owners : List (List ℕ)
value_owners = codes "llvm.mlir.constant" ∷ codes "arith.constant" ∷ []

abbrev pub predicate_owners : List (List ℕ)
predicate_owners = codes "llvm.icmp" ∷ codes "arith.cmpi" ∷ []

abbrev pub llvm_overflow_owners : List (List ℕ)
llvm_overflow_owners = codes "llvm.add" ∷ codes "llvm.sub" ∷ codes "llvm.mul" ∷ codes "llvm.shl" ∷ codes "llvm.trunc" ∷ []

abbrev pub arith_overflow_owners : List (List ℕ)
arith_overflow_owners = codes "arith.addi" ∷ codes "arith.subi" ∷ codes "arith.muli" ∷ codes "arith.shli" ∷ codes "arith.trunci" ∷ []

abbrev pub exact_owners : List (List ℕ)
exact_owners = codes "llvm.udiv" ∷ codes "llvm.sdiv" ∷ codes "llvm.lshr" ∷ codes "llvm.ashr" ∷ codes "arith.divui" ∷ codes "arith.divsi" ∷ codes "arith.shrui" ∷ codes "arith.shrsi" ∷ []

abbrev pub edges_owners : List (List ℕ)
edges_owners = codes "llvm.cond_br" ∷ codes "cf.cond_br" ∷ codes "llvm.switch" ∷ codes "cf.switch" ∷ []

abbrev pub callee_owners : List (List ℕ)
callee_owners = codes "llvm.call" ∷ codes "func.call" ∷ []

abbrev pub symbol_owners : List (List ℕ)
symbol_owners = codes "llvm.func" ∷ codes "func.func" ∷ []

abbrev pub owned_named : List ℕ → OwnedProperty
owned_named name =
    if is_named value_owners name then Value
    else if bytes_eq name (codes "llvm.mlir.zero") then Zero
    else if is_named predicate_owners name then Predicate
    else if is_named llvm_overflow_owners name then LlvmOverflow
    else if is_named arith_overflow_owners name then ArithOverflow
    else if is_named exact_owners name then Exact
    else if bytes_eq name (codes "llvm.or") then Disjoint
    else if bytes_eq name (codes "llvm.zext") then NonNegative
    else if is_named edges_owners name then Edges
    else if is_named callee_owners name then Callee
    else if is_named symbol_owners name then Symbol
    else Nothing
