-- What makes new values.
use Rattle.std.specs.Prelude.{ℕ, List, map}
use Rattle.std.specs.List.{range_with_len}
use Rattle.pliron_core.specs.declared.context.Def.{Def}
use Rattle.pliron_core.specs.declared.context.Def.TheVariants.{Result, Argument}
use Rattle.pliron_core.specs.declared.arguments.Maker.{Maker}
use Rattle.pliron_core.specs.declared.arguments.Maker.TheVariants.{Operation, Block}

abbrev pub made_by : Maker → ℕ → Def
made_by (Operation op) i = Result op i
made_by (Block block) i = Argument block i

abbrev pub definitions_of : Maker → ℕ → List Def
definitions_of maker count = map (made_by maker) (range_with_len 0 count)
