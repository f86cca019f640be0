use Rattle.std.proofs.Common.{drop}
use Rattle.pliron_text.specs.Notation.{AllBelow}
use Rattle.pliron_text.proofs.syntax.are_below.Given as goal

abbrev pub invariant-loop-number : goal.invariant-loop-number
invariant-loop-number l = AllBelow l.count (drop l.number-index l.numbers) → AllBelow l.count l.numbers
