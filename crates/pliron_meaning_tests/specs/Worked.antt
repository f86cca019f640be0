-- A worked tree of the tiny dialect: the first of two blocks makes a constant and forwards it to the second
-- one, which asks it.
use Rattle.std.specs.Prelude.{ℕ, true, List, [], ◌∷◌, Some, None}
use Rattle.pliron_core.specs.declared.context.Def.TheVariants.{Result, Argument}
use Rattle.pliron_core.specs.declared.context.OperationEntry.{OperationEntry}
use Rattle.pliron_core.specs.Tree.{Tree}

-- an operation of this kind without attributes
abbrev pub entry : (kind : ℕ) (results regions : List ℕ) → OperationEntry
entry kind results regions = record { head = Some (record { kind = kind; ssa = true; attrs = [] }); results = results; regions = regions }

-- scope { b0(): v0 = const; br b1(v0); b1(v1): v2 = ask v1 }
abbrev pub worked_example : Tree
worked_example = record {
  operations = entry 2 [] (0 ∷ []) ∷ entry 0 (0 ∷ []) [] ∷ entry 3 [] [] ∷ entry 1 (2 ∷ []) [] ∷ [];
  operands = [] ∷ [] ∷ (0 ∷ []) ∷ (1 ∷ []) ∷ [];
  successors = [] ∷ [] ∷ (1 ∷ []) ∷ [] ∷ [];
  parents = None ∷ Some 0 ∷ Some 0 ∷ Some 1 ∷ [];
  bodies = (1 ∷ 2 ∷ []) ∷ (3 ∷ []) ∷ [];
  arguments = [] ∷ (1 ∷ []) ∷ [];
  block_parents = Some 0 ∷ Some 0 ∷ [];
  layouts = (0 ∷ 1 ∷ []) ∷ [];
  slots = record { op = 0; index = 0 } ∷ [];
  definitions = Result 1 0 ∷ Argument 1 0 ∷ Result 3 0 ∷ [];
}
