-- What the text of an operation says of what its head depends on.
use Rattle.std.specs.Prelude.{◌+◌, ◌-◌, ◌/◌, ◌%◌, ◌&&◌, ◌||◌, ℕ, Bool, false, true, not, nat_eq, nat_lt, List, [], ◌∷◌, length, sum, Option, Some, None, option_map, option_and_then, unwrap_or, is_some, if◌then◌else◌, codes, bytes_eq}
use Rattle.std.specs.List.{slice_split, list_any, starts_with}
use Rattle.pliron_bits.specs.declared.flags.Flags.{Flags}
use Rattle.pliron_bits.specs.declared.operators.Predicate.{Predicate}
use Rattle.pliron_dialect_mlir.specs.declared.kind.Class.{Class}
use Rattle.pliron_dialect_mlir.specs.declared.kind.Class.TheVariants.{Effect, Root}
use Rattle.pliron_text_mlir_syntax.specs.declared.numbers.SignedNumber.{SignedNumber}
use Rattle.pliron_text_mlir_syntax.specs.Numbers.{without_blanks, behind, before, is_comma, is_colon, typed_written, bits_written, counts_written, dense_written}
use Rattle.pliron_text_mlir_reader.specs.Taken.{flags_owned, predicate_said, spread_of}
use Rattle.pliron_text_mlir_reader.specs.declared.owned.OwnedProperty.{OwnedProperty}
use Rattle.pliron_text_mlir_reader.specs.declared.owned.OwnedProperty.TheVariants.{Predicate as OwnsPredicate, Callee, Symbol}
use Rattle.pliron_text_mlir_reader.specs.declared.taken.OperationShape.{OperationShape}
use Rattle.pliron_text_mlir_reader.specs.declared.taken.Overflow.{Overflow}
use Rattle.pliron_text_mlir_reader.specs.declared.taken.Entries.{Entries}

-- the names and values of its property list and its attribute dictionary, a value empty where it has none, and the types
-- of its first operand and of its first result, empty where it has none
pub record Said : Type 0 where
  pub properties : List (List ℕ × List ℕ)
  pub attributes : List (List ℕ × List ℕ)
  pub operand : List ℕ
  pub result : List ℕ

-- ---- entries

-- a name without the quotes around it
abbrev pub without_last_quote : (rest : Option (List ℕ)) → List ℕ → List ℕ
without_last_quote None name = name
without_last_quote (Some rest) name = unwrap_or (before (codes "\"") rest) rest

abbrev pub without_quotes : List ℕ → List ℕ
without_quotes name = without_last_quote (behind (codes "\"") name) name

-- the value of the first entry with the name
abbrev pub value_in : (name : List ℕ) → List (List ℕ × List ℕ) → Option (List ℕ)
value_in name [] = None
value_in name (entry ∷ entries) = if bytes_eq entry.0 name then Some entry.1 else value_in name entries

abbrev pub either_text : Option (List ℕ) → Option (List ℕ) → Option (List ℕ)
either_text None other = other
either_text (Some value) other = Some value

-- the property list's, and where that lacks it the attribute dictionary's
abbrev pub value_of : (name : List ℕ) → Said → Option (List ℕ)
value_of name said = either_text (value_in name said.properties) (value_in name said.attributes)

-- ---- names of functions

abbrev pub is_quote : ℕ → Bool
is_quote byte = nat_eq byte 34

-- the text without any such byte
abbrev pub without_any : (ℕ → Bool) → List ℕ → Option (List ℕ)
without_any is text = if list_any is text then None else Some text

-- what stands between quotes, if none stands inside
abbrev pub inside_quotes : List ℕ → Option (List ℕ)
inside_quotes text = option_and_then (without_any is_quote) (option_and_then (before (codes "\"")) (behind (codes "\"") text))

-- the name in a reference behind `@`; none where it leads into another symbol
abbrev pub name_behind_sign : List ℕ → Option (List ℕ)
name_behind_sign rest = if starts_with nat_eq rest (codes "\"") then inside_quotes rest else without_any is_colon rest

abbrev pub symbol_referred : List ℕ → Option (List ℕ)
symbol_referred text = option_and_then name_behind_sign (behind (codes "@") text)

-- the name of the function that an operation of the class calls or is, where it owns one
abbrev pub name_said : Class → OwnedProperty → Said → Option (List ℕ)
name_said Effect Callee said = option_and_then symbol_referred (value_of (codes "callee") said)
name_said Root Symbol said = option_and_then inside_quotes (value_of (codes "sym_name") said)
name_said class owned said = None

-- ---- flags

-- whether the word is in the list `PREFIX<word, word>`
abbrev pub lists_word : (prefix word text : List ℕ) → Bool
lists_word prefix word text =
    let rest = unwrap_or (behind prefix text) [] in
    list_any (λ part. bytes_eq (without_blanks part) word) (slice_split is_comma (unwrap_or (before (codes ">") rest) rest))

abbrev pub overflow_listed : (prefix text : List ℕ) → Overflow
overflow_listed prefix text = record { signed = lists_word prefix (codes "nsw") text; unsigned = lists_word prefix (codes "nuw") text }

-- two bits of a number; of what is no number, both: a result may be without either
abbrev pub overflow_numbered : Option (SignedNumber × List ℕ) → Overflow
overflow_numbered None = record { signed = true; unsigned = true }
overflow_numbered (Some typed) = record { signed = nat_eq (typed.0.magnitude % 2) 1; unsigned = nat_eq ((typed.0.magnitude / 2) % 2) 1 }

abbrev pub overflow_said : List ℕ → Overflow
overflow_said text =
    if starts_with nat_eq text (codes "#llvm.overflow<") then overflow_listed (codes "#llvm.overflow<") text
    else if starts_with nat_eq text (codes "#arith.overflow<") then overflow_listed (codes "#arith.overflow<") text
    else overflow_numbered (typed_written text)

abbrev pub entries_in : List (List ℕ × List ℕ) → Entries
entries_in entries = record {
  overflow = option_map overflow_said (value_in (codes "overflowFlags") entries);
  exact = is_some (value_in (codes "isExact") entries);
  disjoint = is_some (value_in (codes "isDisjoint") entries);
  nonnegative = is_some (value_in (codes "nonNeg") entries);
}

abbrev pub flags_said : OwnedProperty → Said → Flags
flags_said owned said = flags_owned owned (entries_in said.properties) (entries_in said.attributes)

-- ---- numbers

abbrev pub predicate_typed : (SignedNumber × List ℕ) → Option Predicate
predicate_typed typed = predicate_said typed.0 (bytes_eq typed.1 (codes "i64"))

abbrev pub predicate_in : OwnedProperty → Said → Option Predicate
predicate_in OwnsPredicate said = option_and_then predicate_typed (option_and_then typed_written (value_of (codes "predicate") said))
predicate_in _ said = None

-- a number of the type of the result
abbrev pub bits_typed : (width : ℕ) → (type : List ℕ) → (SignedNumber × List ℕ) → Option ℕ
bits_typed width type typed = if bytes_eq typed.1 type then bits_written width typed.0 else None

abbrev pub value_bits : (width : ℕ) → Said → Option ℕ
value_bits width said = option_and_then (bits_typed width said.result) (option_and_then typed_written (value_of (codes "value") said))

-- ---- edges

-- the name of an entry that says how many operands each edge has
abbrev pub counts_edges : List ℕ → Bool
counts_edges name = bytes_eq name (codes "operandSegmentSizes") || bytes_eq name (codes "case_operand_segments")

abbrev pub said_counts : (name : List ℕ) → Said → Option (List ℕ)
said_counts name said = counts_written (unwrap_or (value_of name said) [])

abbrev pub cases_spread : (segments cases : Option (List ℕ)) → Option (List ℕ)
cases_spread None cases = None
cases_spread (Some segments) None = None
cases_spread (Some segments) (Some cases) = spread_of segments true cases

-- the operands of each edge; an older name of the entry isn't read
abbrev pub counts_said : (is_switch : Bool) → Said → Option (List ℕ)
counts_said is_switch said =
    if is_some (value_of (codes "operand_segment_sizes") said) then None
    else if is_switch then cases_spread (said_counts (codes "operandSegmentSizes") said) (said_counts (codes "case_operand_segments") said)
    else option_and_then (λ segments. spread_of segments false []) (said_counts (codes "operandSegmentSizes") said)

-- so many operands of each edge: there are as many edges, and these are all operands but the first; more than 1,024
-- edges have none
abbrev pub fit_shape : OperationShape → (counts : List ℕ) → Bool
fit_shape s counts = not (nat_lt 1024 (length counts) && nat_lt 0 (sum counts)) && (nat_eq (length counts) s.successors && nat_eq (1 + sum counts) s.operands)

abbrev pub fitting : OperationShape → Option (List ℕ) → Option (List ℕ)
fitting s counts = option_and_then (λ counts. if fit_shape s counts then Some counts else None) counts

-- the width and the cases of a switch, neither where they aren't understood
abbrev pub cases_of : (width : ℕ) → Option (List ℕ) → ℕ × List ℕ
cases_of width None = (0, [])
cases_of width (Some cases) = (width, cases)

abbrev pub cases_said : OperationShape → Said → ℕ × List ℕ
cases_said s said =
    if nat_lt 0 s.from then cases_of s.from (dense_written s.from (s.successors - 1) (unwrap_or (value_of (codes "case_values") said) [])) else (0, [])
