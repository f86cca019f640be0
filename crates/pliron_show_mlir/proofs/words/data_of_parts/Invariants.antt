use Rattle.std.proofs.Common.{map, length}
use denote.Text.{Utf8}
use denote.Shadow.{shadow}
use Rattle.pliron_evaluator.specs.Evaluator.{datum_of_value}
use Rattle.pliron_show_mlir.proofs.WordLemmas.{IsSaidUpTo}
use Rattle.pliron_show_mlir.proofs.words.data_of_parts.Given as goal

abbrev pub invariant-loop-part : goal.invariant-loop-part
invariant-loop-part l = shadow (Utf8 l.rest) × IsSaidUpTo l.word l.rest (map datum_of_value l.data.items)

abbrev pub decreases-loop-part : goal.decreases-loop-part
decreases-loop-part l = length l.rest
