use Rattle.std.proofs.Common.{◌≡◌, take}
use Rattle.pliron_core.specs.Uses.{targets_of}
use Rattle.pliron_core.specs.Writes.{argument_definitions_from}
use Rattle.pliron_core.proofs.arguments.write_arguments.Given as goal

abbrev pub invariant-loop-i : goal.invariant-loop-i
invariant-loop-i l = l.written.items ≡ argument_definitions_from l.fn.written.items l.block 0 (take l.i (targets_of l.lists l.block))
