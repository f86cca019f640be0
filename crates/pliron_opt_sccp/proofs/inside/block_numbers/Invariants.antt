use Rattle.std.proofs.Common.{drop}
use Rattle.pliron_opt_sccp.specs.Starting.{AddsKeys}
use Rattle.pliron_opt_sccp.proofs.Going.{IsLeft}
use Rattle.pliron_opt_sccp.proofs.inside.block_numbers.Given as goal

abbrev pub invariant-loop-i : goal.invariant-loop-i
invariant-loop-i l = IsLeft AddsKeys l.blocks (drop l.i l.blocks) l.initial.numbered.keys l.numbered.keys
