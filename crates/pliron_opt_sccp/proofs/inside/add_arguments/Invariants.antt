use Rattle.std.proofs.Common.{drop}
use Rattle.pliron_core.specs.Tree.{arguments_of}
use Rattle.pliron_opt_sccp.specs.Starting.{AddsKeys}
use Rattle.pliron_opt_sccp.proofs.Going.{IsLeft}
use Rattle.pliron_opt_sccp.proofs.inside.add_arguments.Given as goal

abbrev pub invariant-loop-i : goal.invariant-loop-i
invariant-loop-i l = IsLeft AddsKeys (arguments_of l.ctx.tree l.block) (drop l.i (arguments_of l.ctx.tree l.block)) l.initial.values.keys l.values.keys
