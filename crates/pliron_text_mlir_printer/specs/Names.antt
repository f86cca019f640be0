-- The names of operations that folding made.
use Rattle.std.specs.Prelude.{ℕ, List, [], ◌∷◌, ◌++◌, codes}
use Rattle.pliron_text_mlir_printer.specs.declared.constants.TargetDialect.{TargetDialect}
use Rattle.pliron_text_mlir_printer.specs.declared.constants.TargetDialect.TheVariants.{Llvm, Standard}

-- a name with its quotes
abbrev in_quotes : List ℕ → List ℕ
in_quotes name = 34 ∷ name ++ 34 ∷ []

abbrev pub jump_name : TargetDialect → List ℕ
jump_name Llvm = in_quotes (codes "llvm.br")
jump_name Standard = in_quotes (codes "cf.br")

abbrev pub constant_name : TargetDialect → List ℕ
constant_name Llvm = in_quotes (codes "llvm.mlir.constant")
constant_name Standard = in_quotes (codes "arith.constant")
