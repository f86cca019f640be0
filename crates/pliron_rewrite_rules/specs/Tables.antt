-- What rules depend on in a dialect.
use Rattle.std.specs.Prelude.{Bool, Option}
use Rattle.pliron_core.specs.declared.attrs.AttrObj.{AttrObj}
use Rattle.pliron_laws.specs.Datum.{Head, Meaning}
use Rattle.pliron_laws.specs.Folding.{Constants}

-- its meaning, which heads have side effects, which fold by constants and to what, and which constants it makes
pub record RuleTables : Type 0 where
  pub meaning : Meaning
  pub side_effects : Head → Option Bool
  pub can_fold : Head → Bool
  pub constants : Constants
  pub accepts : AttrObj → Bool
  pub constant_head : AttrObj → Head
