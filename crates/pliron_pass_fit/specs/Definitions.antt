-- What is defined before an operation in its block.
use Rattle.std.specs.Prelude.{◌≡◌, ℕ, List, ◌∷◌, ◌++◌, Option, Some, None}
use Rattle.pliron_core.specs.declared.context.Def.{Def}
use Rattle.pliron_core.specs.declared.context.Def.TheVariants.{Result, Argument}
use Rattle.pliron_core.specs.Tree.{Tree, In, body_of}

-- in the block, the arguments and the results of what is before the operation are defined
abbrev pub IsDefinedBefore : Tree → Option Def → (block around : ℕ) → Type 0
IsDefinedBefore t None block around = ⊥
IsDefinedBefore t (Some (Argument d i)) block around = Unit {0}
IsDefinedBefore t (Some (Result k i)) block around = (done rest : List ℕ) → body_of t block ≡ done ++ around ∷ rest → In k done
