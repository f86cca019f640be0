-- The kinds of operations, their heads and counts. A table has a row for each kind.
use Rattle.std.specs.Prelude.{◌≡◌, ◌⊎◌, ℕ, nat_eq, nat_lt, Bool, true, false, not, ◌&&◌, List, [], ◌∷◌, Option, Some, None, slice_get, ℤ, pos, negsuc}
use Rattle.pliron_core.specs.declared.attrs.Head.{Head}
use Rattle.pliron_core.specs.declared.attrs.AttrObj.{AttrObj}
use Rattle.pliron_core.specs.declared.attrs.AttrObj.TheVariants.{Int, Text as Words}
use Rattle.pliron_dialect_bench.specs.declared.kind.BenchKind.{BenchKind}
use Rattle.pliron_dialect_bench.specs.declared.kind.BenchKind.TheVariants.{Mod, Func, Const, Add, Mul, Div, Read, Print, Pair, Sink, Scope, Box, Br, Cbr, Ret, Fork}
use Rattle.pliron_dialect_bench.specs.BenchNumbers.{fits}
use Rattle.pliron_dialect.specs.Counted.{first_edge_count as first_count}

-- the kinds by number, from 0
abbrev pub kinds : List BenchKind
kinds = Mod ∷ Func ∷ Const ∷ Add ∷ Mul ∷ Div ∷ Read ∷ Print ∷ Pair ∷ Sink ∷ Scope ∷ Box ∷ Br ∷ Cbr ∷ Ret ∷ Fork ∷ []

abbrev pub number_of_kind : BenchKind → ℕ
number_of_kind Mod = 0
number_of_kind Func = 1
number_of_kind Const = 2
number_of_kind Add = 3
number_of_kind Mul = 4
number_of_kind Div = 5
number_of_kind Read = 6
number_of_kind Print = 7
number_of_kind Pair = 8
number_of_kind Sink = 9
number_of_kind Scope = 10
number_of_kind Box = 11
number_of_kind Br = 12
number_of_kind Cbr = 13
number_of_kind Ret = 14
number_of_kind Fork = 15

-- the kind with this number, if there is one
unfoldable pub kind_of : ℕ → Option BenchKind
kind_of n = slice_get kinds n

-- how many results, successors and regions an operation of the kind has
abbrev pub result_count : BenchKind → ℕ
result_count Const = 1
result_count Add = 1
result_count Mul = 1
result_count Div = 1
result_count Read = 1
result_count Pair = 2
result_count _ = 0

abbrev pub successor_count : BenchKind → ℕ
successor_count Br = 1
successor_count Cbr = 2
successor_count Fork = 2
successor_count _ = 0

abbrev pub region_count : BenchKind → ℕ
region_count Mod = 1
region_count Func = 1
region_count Scope = 1
region_count Box = 1
region_count _ = 0

-- whether an operation of the kind may have so many operands
abbrev pub takes_operands : BenchKind → ℕ → Bool
takes_operands Add n = nat_eq n 2
takes_operands Mul n = nat_eq n 2
takes_operands Div n = nat_eq n 2
takes_operands Print n = nat_eq n 1
takes_operands Fork n = nat_eq n 1
takes_operands Sink n = true
takes_operands Scope n = true
takes_operands Br n = true
takes_operands Cbr n = true
takes_operands Ret n = true
takes_operands _ n = nat_eq n 0

-- whether there are no attributes; one, which is a number within 64 signed bits; or one, which counts
-- some of the operands behind the first one
abbrev pub has_none : List AttrObj → Bool
has_none [] = true
has_none (a ∷ attrs) = false

abbrev pub is_number_attribute : AttrObj → Bool
is_number_attribute (Int n) = fits n
is_number_attribute (Words s) = false

abbrev pub has_number : List AttrObj → Bool
has_number (a ∷ []) = is_number_attribute a
has_number _ = false

abbrev pub is_count : AttrObj → ℕ → Bool
is_count (Int (pos n)) operands = nat_lt n operands
is_count (Int (negsuc n)) operands = false
is_count (Words s) operands = false

abbrev pub has_count : List AttrObj → ℕ → Bool
has_count (a ∷ []) operands = is_count a operands
has_count _ operands = false

-- whether an operation of the kind, with so many operands, may have these attributes
abbrev pub takes_attributes : BenchKind → List AttrObj → ℕ → Bool
takes_attributes Const attrs operands = has_number attrs
takes_attributes Cbr attrs operands = has_count attrs operands
takes_attributes _ attrs operands = has_none attrs

-- the regions of a `mod` alone have no SSA dominance
abbrev pub is_ssa : BenchKind → Bool
is_ssa Mod = false
is_ssa _ = true

abbrev pub same_bool : Bool → Bool → Bool
same_bool true b = b
same_bool false b = not b

-- whether there are operations of the kind with this head, and with these counts of operands, results,
-- successors and regions
abbrev pub takes : Head → ℕ → ℕ → ℕ → ℕ → BenchKind → Bool
takes h operands results successors regions k = same_bool h.ssa (is_ssa k) && takes_attributes k h.attrs operands && takes_operands k operands && nat_eq results (result_count k) && nat_eq successors (successor_count k) && nat_eq regions (region_count k)

-- the head of a kind without attributes, and with one
abbrev pub plain_head : BenchKind → Head
plain_head k = record { kind = number_of_kind k; ssa = is_ssa k; attrs = [] }

abbrev pub attribute_head : BenchKind → AttrObj → Head
attribute_head k a = record { kind = number_of_kind k; ssa = is_ssa k; attrs = a ∷ [] }

-- the head of an operation of the kind, where a constant is n and the first edge of a `cbr` forwards so
-- many values
abbrev pub head_with : BenchKind → (n first_edge : ℤ) → Head
head_with Const n first_edge = attribute_head Const (Int n)
head_with Cbr n first_edge = attribute_head Cbr (Int first_edge)
head_with k n first_edge = plain_head k

-- how many operands the first edge of a `cbr` forwards
abbrev pub branch_edge_count : List AttrObj → ℕ
branch_edge_count attrs = first_count attrs

-- operations of the kind are in no block
abbrev pub IsTopKind : BenchKind → Type 0
IsTopKind kind = (kind ≡ Mod) ⊎ (kind ≡ Func)
