-- What the operations of each kind are: the dialect by its tables.
use Rattle.std.specs.Prelude.{ℕ, zero, suc, nat_lt, if◌then◌else◌, Bool, true, false, List, [], ◌∷◌, Option, Some, None, slice_index_or, replicate, ℤ, pos}
use Rattle.std.specs.Int.{w64, int_wrap}
use Rattle.pliron_core.specs.declared.attrs.AttrObj.{AttrObj}
use Rattle.pliron_dialect_bench.specs.declared.kind.BenchKind.{BenchKind}
use Rattle.pliron_dialect_bench.specs.declared.kind.BenchKind.TheVariants.{Mod, Func, Const, Add, Mul, Div, Read, Print, Pair, Sink, Scope, Box, Br, Cbr, Ret, Fork}
use Rattle.pliron_laws.specs.Datum.{Datum, Empty, Number, Text, Join, Head, Shape, Move, Give, Visit, Goto, Leave, Emit, Meaning}
use Rattle.pliron_dialect.specs.declared.form.Counting.TheVariants.{OfFirst}
use Rattle.pliron_dialect.specs.declared.form.Otherwise.TheVariants.{Never, Traps}
use Rattle.pliron_dialect.specs.declared.identity.Identity.{Identity}
use Rattle.pliron_dialect.specs.Identities.{no_identity}
use Rattle.pliron_dialect.specs.Roles.{Interpretation, Allows, Role, Constant, Folds, Opaque, Jumps, Chooses, Leaves, Acts, Names, Forks, Holds, Tables, first_number, role_at, allows_at, meaning_by, shortened_by, is_zero}
use Rattle.pliron_dialect_bench.specs.Bench.{kind_of, number_of_kind, takes, is_ssa, is_number_attribute}
use Rattle.pliron_dialect_bench.specs.BenchNumbers.{known_sum, known_product, known_quotient, of_both}

-- ---- moves of its own

-- the memo after an invocation or an effect
abbrev pub memo_when_done : Datum
memo_when_done = Number (pos 1)

-- one transition first, the other one when it is done
abbrev pub once : Datum → Move → Move → Move
once Empty move after = move
once (Number n) move after = after
once (Text s) move after = after
once (Join a b) move after = after

-- so many data: cut, or filled with 0
abbrev pub fit_with_zeros : ℕ → List Datum → List Datum
fit_with_zeros zero ds = []
fit_with_zeros (suc n) [] = Number (pos 0) ∷ fit_with_zeros n []
fit_with_zeros (suc n) (d ∷ ds) = d ∷ fit_with_zeros n ds

-- the first region is invoked with the input, as far as its entry has arguments
abbrev pub visit_once : Datum → List ℕ → List Datum → Move → Move
visit_once memo entry_arguments input after = once memo (Visit 0 (fit_with_zeros (slice_index_or entry_arguments 0 0) input) memo_when_done) after

-- `read` and `print` as texts
abbrev pub read_word : Datum
read_word = Text (114 ∷ 101 ∷ 97 ∷ 100 ∷ [])

abbrev pub print_word : Datum
print_word = Text (112 ∷ 114 ∷ 105 ∷ 110 ∷ 116 ∷ [])

-- the datum at this place, where a missing one counts as 0
abbrev pub datum_at : List Datum → ℕ → Datum
datum_at ds i = slice_index_or ds i (Number (pos 0))

-- the edge that is taken: the second one where the condition is 0, brought into 64 signed bits
abbrev pub edge_of : ℤ → ℕ
edge_of c = if is_zero c then 1 else 0

abbrev pub edge_taken : List Datum → ℕ
edge_taken input = edge_of (int_wrap w64 (first_number input))

-- how many arguments the target of this edge has
abbrev pub argument_count : Option (List ℕ) → ℕ → ℕ
argument_count None i = 0
argument_count (Some counts) i = slice_index_or counts i 0

abbrev pub func_act : Shape → Datum → List Datum → Move
func_act s memo input = visit_once memo s.entry_arguments input (Leave input)

abbrev pub scope_act : Shape → Datum → List Datum → Move
scope_act s memo input = visit_once memo s.entry_arguments input (Give [])

abbrev pub read_act : Shape → Datum → List Datum → Move
read_act s memo input = once memo (Emit read_word memo_when_done) (Give (datum_at input 0 ∷ []))

abbrev pub print_act : Shape → Datum → List Datum → Move
print_act s memo input = once memo (Emit (Join print_word (datum_at input 0)) memo_when_done) (Give [])

abbrev pub bench_fork_act : Shape → Datum → List Datum → Move
bench_fork_act s memo input = Goto (edge_taken input) (replicate (argument_count s.target_arguments (edge_taken input)) (datum_at input 0))

-- ---- what else the tables say

-- a factor that is 0 is the product; a dividend that is 0 is the quotient, if there is one, and so is 1 where both
-- operands are the same value
abbrev pub product_identity : Head → Identity
product_identity h = record no_identity { annihilator = Some (record { operand = pos 0; either_side = true }) }

abbrev pub quotient_identity : Head → Identity
quotient_identity h = record no_identity { equal = Some (pos 1); annihilator = Some (record { operand = pos 0; either_side = false }) }

abbrev pub nothing_else : Head → Identity
nothing_else h = no_identity

-- the edge that a `cbr` takes by its condition
abbrev pub cbr_edge : ℕ → List AttrObj → ℤ → Option ℕ
cbr_edge kind rest c = Some (edge_of (int_wrap w64 c))

-- an invocation passes as each argument the operand of its index, where there is one among so many
abbrev pub operand_of_index : ℕ → ℕ → ℕ → Option ℕ
operand_of_index operands i j = if nat_lt j operands then Some j else None

-- what a `pair` gives
abbrev pub bench_value : Interpretation
bench_value h ds = Number (pos 1) ∷ Number (pos 2) ∷ []

-- ---- the tables

abbrev pub bench_role : BenchKind → Role
bench_role Mod = Holds false
bench_role Func = Acts false true func_act
bench_role Const = Constant
bench_role Add = Folds 2 (of_both known_sum) nothing_else Never
bench_role Mul = Folds 2 (of_both known_product) product_identity Never
bench_role Div = Folds 2 (of_both known_quotient) quotient_identity Traps
bench_role Read = Acts true false read_act
bench_role Print = Acts true false print_act
bench_role Pair = Opaque
bench_role Sink = Opaque
bench_role Scope = Names scope_act operand_of_index
bench_role Box = Holds true
bench_role Br = Jumps
bench_role Cbr = Chooses OfFirst cbr_edge
bench_role Ret = Leaves
bench_role Fork = Forks false bench_fork_act

abbrev pub bench_allows : BenchKind → Allows
bench_allows k h a b c d = takes h a b c d k

-- `verify` asks of a `cbr` that its edges fit
abbrev pub is_cbr : BenchKind → Bool
is_cbr Cbr = true
is_cbr _ = false

abbrev pub bench_tables : Tables BenchKind
bench_tables = record {
  role_of = bench_role;
  number_of = number_of_kind;
  kind_of = kind_of;
  constant = Const;
  jump = Br;
  value = bench_value;
  allows = bench_allows;
  is_ssa = is_ssa;
  accepts = is_number_attribute;
  checks_edges = is_cbr;
}

abbrev pub bench : Meaning
bench = meaning_by bench_value (role_at bench_tables) (allows_at bench_tables)

-- a `cbr` that lost a value of its first edge counts one fewer there
abbrev pub bench_shortened : Shape → ℕ → ℕ → Head
bench_shortened = shortened_by (role_at bench_tables)
