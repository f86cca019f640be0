use Rattle.std.proofs.Common.{drop}
use Rattle.pliron_text.specs.Notation.{AreInRegion}
use Rattle.pliron_text.proofs.syntax.Syntax.are_in_region.Given as goal

abbrev pub invariant-loop-number : goal.invariant-loop-number
invariant-loop-number l = AreInRegion l.self l.region (drop l.number-index l.blocks) → AreInRegion l.self l.region l.blocks
