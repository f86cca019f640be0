-- The calling convention of a dialect by roles: what is read of heads, and of the effects that operations show.
use Rattle.std.specs.Prelude.{ℕ, List, Option, None, map, slice_get, pos, option_map, option_and_then}
use Rattle.pliron_core.specs.declared.attrs.Head.{Head}
use Rattle.pliron_laws.specs.Datum.{Datum, Number, Join, datum_of, Meaning}
use Rattle.pliron_dialect.specs.Roles.{Tables, role_at, allows_at, meaning_by, chain_of, data_in}
use Rattle.pliron_pass_linked.specs.Calls.{Call, CallingConvention}
use Rattle.pliron_dialect_calls.specs.CallTables.{CallTables}

-- what the operations of these kinds mean
abbrev pub meaning_of : {K : Type 0} → Tables K → Meaning
meaning_of t = meaning_by t.value (role_at t) (allows_at t)

-- of an operation of the kind with this number: the name among its attributes, at the place that a table has for its kind
abbrev pub name_among : {K : Type 0} → Tables K → (K → Option ℕ) → ℕ → List Datum → Option Datum
name_among t place number attributes = option_and_then (λ i. slice_get attributes i) (option_and_then place (t.kind_of number))

-- the name of the function that an operation with this head calls, and that of a function with this head
abbrev pub callee_in : {K : Type 0} → Tables K → CallTables K → Head → Option Datum
callee_in t c h = name_among t c.callee_place h.kind (map datum_of h.attrs)

abbrev pub symbol_in : {K : Type 0} → Tables K → CallTables K → Head → Option Datum
symbol_in t c h = name_among t c.symbol_place h.kind (map datum_of h.attrs)

-- the call of the function with this name
abbrev pub call_of_name : List Datum → Datum → Call
call_of_name arguments name = record { symbol = name; arguments = arguments }

-- the call that an effect is: of a kind, with attributes among which is a name, and operands
abbrev pub call_by : {K : Type 0} → Tables K → CallTables K → Datum → Option Call
call_by t c (Join (Number (pos kind)) (Join attributes operands)) =
    option_map (call_of_name (data_in operands)) (name_among t c.callee_place kind (data_in attributes))
call_by t c _ = None

-- the values with which a function ended are handed over as a chain
abbrev pub convention_by : {K : Type 0} → Tables K → CallTables K → CallingConvention
convention_by t c = record {
  call_of = call_by t c;
  symbol_of = symbol_in t c;
  answer_of = chain_of;
  return_of = chain_of;
}
