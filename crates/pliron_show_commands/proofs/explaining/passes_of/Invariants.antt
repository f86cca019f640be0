use Rattle.std.proofs.Common.{◌≡◌, length}
use Rattle.pliron_show_commands.proofs.explaining.passes_of.Given as goal

abbrev pub invariant-loop-name : goal.invariant-loop-name
invariant-loop-name l = length l.passes.items ≡ l.name-index
