use Rattle.std.specs.Prelude.{All}
use Rattle.pliron_opt_rotate.specs.Made.{IsYounger}
use Rattle.pliron_opt_rotate.proofs.answer.note_arguments.Given as goal

abbrev pub invariant-loop-i : goal.invariant-loop-i
invariant-loop-i l = All IsYounger l.values.items
