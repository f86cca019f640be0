-- Where values are defined, as insertion points.
use Rattle.std.specs.Prelude.{Option, Some, None}
use Rattle.pliron_core.specs.declared.context.Def.{Def}
use Rattle.pliron_core.specs.declared.context.Def.TheVariants.{Result, Argument}
use Rattle.pliron_core.specs.declared.rewriter.OpInsertionPoint.{OpInsertionPoint}
use Rattle.pliron_core.specs.declared.rewriter.OpInsertionPoint.TheVariants.{Unset, BeforeOperation, AtBlockStart}

-- directly before the operation of a result, first in the block of an argument
abbrev pub definition_point : Option Def → OpInsertionPoint
definition_point None = Unset
definition_point (Some (Result op i)) = BeforeOperation op
definition_point (Some (Argument block i)) = AtBlockStart block
