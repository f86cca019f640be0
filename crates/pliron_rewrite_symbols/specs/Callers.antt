-- Which heads tell what their operations call.
use Rattle.std.specs.Prelude.{◌≡◌, Bool, List, Option, Some, IsTrue}
use Rattle.pliron_core.specs.declared.attrs.Head.{Head}
use Rattle.pliron_laws.specs.Datum.{Datum, Shape, Meaning, Emit}
use Rattle.pliron_pass_linked.specs.Calls.{Call, CallingConvention}

-- an operation with such a head shows calls of its callee alone
abbrev pub CallOnlyCallees : Meaning → CallingConvention → (callee : Head → Option Datum) → (is_traced : Head → Bool) → Type 0
CallOnlyCallees m c callee is_traced = (s : Shape) → IsTrue (is_traced s.head) → (memo : Datum) (input : List Datum) (effect next : Datum) (call : Call) → m.act s memo input ≡ Emit effect next → c.call_of effect ≡ Some call → callee s.head ≡ Some call.symbol
