-- A worked program: a function calls another one of the next module, and then one that the program doesn't have.
--   module 0     main(x): r = call twice x; s = call log r; ret r s
--   module 1     twice(x): jmp b1(x, x)      b1(y, z): w = pack y z; ret w
-- and module 0 after the first call was inlined.
use Rattle.std.specs.Prelude.{ℕ, true, List, [], ◌∷◌, Option, Some, None, nat_eq, if◌then◌else◌, pos}
use Rattle.pliron_core.specs.declared.attrs.AttrObj.{AttrObj}
use Rattle.pliron_core.specs.declared.attrs.AttrObj.TheVariants.{Int}
use Rattle.pliron_core.specs.declared.context.Def.TheVariants.{Result, Argument}
use Rattle.pliron_core.specs.declared.context.OperationEntry.{OperationEntry}
use Rattle.pliron_core.specs.Tree.{Tree}
use Rattle.pliron_laws.specs.Datum.{Head, Datum, Empty, Number, Join}
use Rattle.pliron_laws.specs.Machine.{Sight}
use Rattle.pliron_dialect.specs.Roles.{chain_of}
use Rattle.pliron_pass_linked.specs.LinkedRuns.{Program, Function, Linker, Reply, linked_step, linked_from, linked_sight, linked_start}
use Rattle.pliron_dialect_calls.specs.Conventions.{meaning_of, convention_by}
use Rattle.pliron_dialect_calls_tests.specs.Routines.{routines, routine_calls}

abbrev pub number : ℕ → Datum
number n = Number (pos n)

-- the names of the functions: of main, of twice, and of log
abbrev pub named : ℕ → List AttrObj
named n = Int (pos n) ∷ []

abbrev pub head_with : (kind : ℕ) → List AttrObj → Head
head_with kind attrs = record { kind = kind; ssa = true; attrs = attrs }

abbrev pub entry : Head → (results regions : List ℕ) → OperationEntry
entry h results regions = record { head = Some h; results = results; regions = regions }

abbrev pub func : ℕ → OperationEntry
func name = entry (head_with 0 (named name)) [] (0 ∷ [])

abbrev pub call : ℕ → ℕ → OperationEntry
call name result = entry (head_with 1 (named name)) (result ∷ []) []

abbrev pub ret : OperationEntry
ret = entry (head_with 2 []) [] []

abbrev pub jmp : OperationEntry
jmp = entry (head_with 3 []) [] []

abbrev pub pack : ℕ → OperationEntry
pack result = entry (head_with 5 []) (result ∷ []) []

-- func main { b0(v0): v1 = call twice v0; v2 = call log v1; ret v1 v2 }
abbrev pub caller : Tree
caller = record {
  operations = func 0 ∷ call 1 1 ∷ call 2 2 ∷ ret ∷ [];
  operands = [] ∷ (0 ∷ []) ∷ (1 ∷ []) ∷ (1 ∷ 2 ∷ []) ∷ [];
  successors = [] ∷ [] ∷ [] ∷ [] ∷ [];
  parents = None ∷ Some 0 ∷ Some 0 ∷ Some 0 ∷ [];
  bodies = (1 ∷ 2 ∷ 3 ∷ []) ∷ [];
  arguments = (0 ∷ []) ∷ [];
  block_parents = Some 0 ∷ [];
  layouts = (0 ∷ []) ∷ [];
  slots = record { op = 0; index = 0 } ∷ [];
  definitions = Argument 0 0 ∷ Result 1 0 ∷ Result 2 0 ∷ [];
}

-- func twice { b0(v0): jmp b1(v0, v0)   b1(v1, v2): v3 = pack v1 v2; ret v3 }
abbrev pub callee : Tree
callee = record {
  operations = func 1 ∷ jmp ∷ pack 3 ∷ ret ∷ [];
  operands = [] ∷ (0 ∷ 0 ∷ []) ∷ (1 ∷ 2 ∷ []) ∷ (3 ∷ []) ∷ [];
  successors = [] ∷ (1 ∷ []) ∷ [] ∷ [] ∷ [];
  parents = None ∷ Some 0 ∷ Some 1 ∷ Some 1 ∷ [];
  bodies = (1 ∷ []) ∷ (2 ∷ 3 ∷ []) ∷ [];
  arguments = (0 ∷ []) ∷ (1 ∷ 2 ∷ []) ∷ [];
  block_parents = Some 0 ∷ Some 0 ∷ [];
  layouts = (0 ∷ 1 ∷ []) ∷ [];
  slots = record { op = 0; index = 0 } ∷ [];
  definitions = Argument 0 0 ∷ Argument 1 0 ∷ Argument 1 1 ∷ Result 2 0 ∷ [];
}

-- func main { b0(v0): jmp b2(v0)   b1(v1): v2 = call log v1; ret v1 v2   b2(v3): jmp b3(v3, v3)   b3(v4, v5): v6 = pack v4 v5; jmp b1(v6) }
abbrev pub inlined : Tree
inlined = record {
  operations = func 0 ∷ jmp ∷ call 2 2 ∷ ret ∷ jmp ∷ pack 6 ∷ jmp ∷ [];
  operands = [] ∷ (0 ∷ []) ∷ (1 ∷ []) ∷ (1 ∷ 2 ∷ []) ∷ (3 ∷ 3 ∷ []) ∷ (4 ∷ 5 ∷ []) ∷ (6 ∷ []) ∷ [];
  successors = [] ∷ (2 ∷ []) ∷ [] ∷ [] ∷ (3 ∷ []) ∷ [] ∷ (1 ∷ []) ∷ [];
  parents = None ∷ Some 0 ∷ Some 1 ∷ Some 1 ∷ Some 2 ∷ Some 3 ∷ Some 3 ∷ [];
  bodies = (1 ∷ []) ∷ (2 ∷ 3 ∷ []) ∷ (4 ∷ []) ∷ (5 ∷ 6 ∷ []) ∷ [];
  arguments = (0 ∷ []) ∷ (1 ∷ []) ∷ (3 ∷ []) ∷ (4 ∷ 5 ∷ []) ∷ [];
  block_parents = Some 0 ∷ Some 0 ∷ Some 0 ∷ Some 0 ∷ [];
  layouts = (0 ∷ 1 ∷ 2 ∷ 3 ∷ []) ∷ [];
  slots = record { op = 0; index = 0 } ∷ [];
  definitions = Argument 0 0 ∷ Argument 1 0 ∷ Result 2 0 ∷ Argument 2 0 ∷ Argument 3 0 ∷ Argument 3 1 ∷ Result 5 0 ∷ [];
}

abbrev pub with_caller : Tree → Program
with_caller first n = if nat_eq n 0 then first else callee

-- main and twice are linked, and log is the world's
abbrev pub both_names : Linker
both_names n (Number (pos k)) = if nat_eq k 0 then Some (record { in_module = 0; root = 0 }) else if nat_eq k 1 then Some (record { in_module = 1; root = 0 }) else None
both_names n d = None

-- the program has none of them
abbrev pub no_names : Linker
no_names n d = None

-- the pair of a datum with itself, and the effect by which the function with this name is called on a datum
abbrev pub twice : Datum → Datum
twice d = chain_of (d ∷ d ∷ [])

abbrev pub call_effect : ℕ → Datum → Datum
call_effect name d = Join (number 1) (Join (chain_of (number name ∷ [])) (chain_of (d ∷ [])))

-- what is seen of a linked run of main within 99 steps
abbrev pub seen : Linker → Tree → Datum → List Reply → Sight
seen link first d world = linked_sight (linked_from (linked_step (meaning_of routines) (convention_by routines routine_calls) link (with_caller first)) 99 (linked_start (record { in_module = 0; root = 0 }) (d ∷ []) world))
