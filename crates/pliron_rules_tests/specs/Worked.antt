-- A worked program of three modules. Two functions call each other, down to 0:
--   even(n) = if n is 0 then 1 else odd(n - 1)        odd(n) = if n is 0 then 0 else even(n - 1)
-- and a third one asks the world with its argument, and gives the answer.
use Rattle.std.specs.Prelude.{ℕ, zero, suc, false, true, List, [], ◌∷◌, Option, Some, None, nat_eq, if◌then◌else◌, pos}
use Rattle.pliron_core.specs.declared.attrs.AttrObj.{AttrObj}
use Rattle.pliron_core.specs.declared.attrs.AttrObj.TheVariants.{Int}
use Rattle.pliron_core.specs.declared.context.Def.TheVariants.{Result, Argument}
use Rattle.pliron_core.specs.declared.context.OperationEntry.{OperationEntry}
use Rattle.pliron_core.specs.Tree.{Tree}
use Rattle.pliron_laws.specs.Datum.{Head, Datum, Empty, Number, Text, Join, Shape, Move, Give, Visit, Leave, Emit, Trap, Meaning, datum_of}
use Rattle.pliron_laws.specs.Machine.{Sight}
use Rattle.pliron_pass_linked.specs.Calls.{Call, CallingConvention}
use Rattle.pliron_pass_linked.specs.LinkedRuns.{Function, Linker, Reply, linked_step, linked_from, linked_sight, linked_start}

abbrev pub number : ℕ → Datum
number n = Number (pos n)

-- the names of the functions
abbrev pub even : Datum
even = number 0

abbrev pub odd : Datum
odd = number 1

abbrev pub ask : Datum
ask = number 2

-- ---- the dialect: the kinds are 0 a function, 1 a return, 2 a question to the world, 3 a call with the number before
-- the operand, or the number in the second attribute where that is 0

-- the memo of an operation that has moved
abbrev pub begun : Datum
begun = number 1

abbrev pub nth_attribute : List AttrObj → ℕ → Datum
nth_attribute [] n = Empty
nth_attribute (a ∷ rest) zero = datum_of a
nth_attribute (a ∷ rest) (suc n) = nth_attribute rest n

abbrev pub count_down : (callee last : Datum) → List Datum → Move
count_down callee last (Number (pos zero) ∷ []) = Give (last ∷ [])
count_down callee last (Number (pos (suc n)) ∷ []) = Emit (Join callee (number n)) begun
count_down callee last ds = Trap

abbrev pub question : List Datum → Move
question (d ∷ []) = Emit (Join (Text []) d) begun
question ds = Trap

abbrev pub first_move : ℕ → List AttrObj → List Datum → Move
first_move kind attrs ds = if nat_eq kind 0 then Visit 0 ds begun else if nat_eq kind 1 then Leave ds else if nat_eq kind 2 then question ds else count_down (nth_attribute attrs 0) (nth_attribute attrs 1) ds

-- a function leaves with what its region left, and an effect gives its answer
abbrev pub later_move : ℕ → List Datum → Move
later_move kind ds = if nat_eq kind 0 then Leave ds else Give ds

abbrev pub move_of : Shape → Datum → List Datum → Move
move_of s Empty ds = first_move s.head.kind s.head.attrs ds
move_of s memo ds = later_move s.head.kind ds

abbrev pub sample : Meaning
sample = record {
  act = move_of;
  admits = λ h operands results successors regions. true;
  may_be_root = λ h. nat_eq h.kind 0;
  is_terminator = λ h. nat_eq h.kind 1;
  is_branch = λ h. false;
  forwarded = λ s i. [];
}

-- ---- its calls

abbrev pub sample_call : Datum → Option Call
sample_call (Join (Number n) d) = Some (record { symbol = Number n; arguments = d ∷ [] })
sample_call e = None

abbrev pub first_value : List Datum → Datum
first_value [] = Empty
first_value (d ∷ ds) = d

abbrev pub sample_calls : CallingConvention
sample_calls = record {
  call_of = sample_call;
  symbol_of = λ h. Some (nth_attribute h.attrs 0);
  answer_of = first_value;
  return_of = first_value;
}

-- ---- the program: each function is the operation 0 of a module of its own

abbrev pub head_with : (kind : ℕ) → List AttrObj → Head
head_with kind attrs = record { kind = kind; ssa = true; attrs = attrs }

abbrev pub entry : Head → (results regions : List ℕ) → OperationEntry
entry h results regions = record { head = Some h; results = results; regions = regions }

-- function name { b0(v0): v1 = OPERATION v0; return v1 }
abbrev pub module_of : (name : ℕ) → Head → Tree
module_of name operation = record {
  operations = entry (head_with 0 (Int (pos name) ∷ [])) [] (0 ∷ []) ∷ entry operation (1 ∷ []) [] ∷ entry (head_with 1 []) [] [] ∷ [];
  operands = [] ∷ (0 ∷ []) ∷ (1 ∷ []) ∷ [];
  successors = [] ∷ [] ∷ [] ∷ [];
  parents = None ∷ Some 0 ∷ Some 0 ∷ [];
  bodies = (1 ∷ 2 ∷ []) ∷ [];
  arguments = (0 ∷ []) ∷ [];
  block_parents = Some 0 ∷ [];
  layouts = (0 ∷ []) ∷ [];
  slots = record { op = 0; index = 0 } ∷ [];
  definitions = Argument 0 0 ∷ Result 1 0 ∷ [];
}

abbrev pub modules : ℕ → Tree
modules n = if nat_eq n 0 then module_of 0 (head_with 3 (Int (pos 1) ∷ Int (pos 1) ∷ [])) else if nat_eq n 1 then module_of 1 (head_with 3 (Int (pos 0) ∷ Int (pos 0) ∷ [])) else module_of 2 (head_with 2 [])

abbrev pub function : ℕ → Function
function n = record { in_module = n; root = 0 }

-- all names are known, or the first one alone
abbrev pub all_names : ℕ → Datum → Option Function
all_names n (Number (pos k)) = Some (function k)
all_names n d = None

abbrev pub even_alone : ℕ → Datum → Option Function
even_alone n (Number (pos k)) = if nat_eq k 0 then Some (function 0) else None
even_alone n d = None

-- the effect by which the third one asks
abbrev pub asked : ℕ → Datum
asked n = Join (Text []) (number n)

-- what is seen of a linked run within 99 steps
abbrev pub seen : Linker → ℕ → Datum → List Reply → Sight
seen link n d world = linked_sight (linked_from (linked_step sample sample_calls link modules) 99 (linked_start (function n) (d ∷ []) world))
