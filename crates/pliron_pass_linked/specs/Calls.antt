-- How the operations of a dialect call functions by name.
use Rattle.std.specs.Prelude.{List, Option}
use Rattle.pliron_laws.specs.Datum.{Head, Datum}

-- a call of the function with this name, on these arguments
pub record Call : Type 0 where
  pub symbol : Datum
  pub arguments : List Datum

-- a dialect's calling convention
pub record CallingConvention : Type 0 where
  -- the call that an effect is; none where the effect is the world's alone
  pub call_of : Datum → Option Call
  -- the name of a function with this head
  pub symbol_of : Head → Option Datum
  -- what answers the call of a function that ended with these values
  pub answer_of : List Datum → Datum
  -- the effect by which the world sees that a function which it called back has ended with these values
  pub return_of : List Datum → Datum
