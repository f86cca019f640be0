use Rattle.std.proofs.Common.{drop}
use Rattle.pliron_core.specs.Tree.{results_of}
use Rattle.pliron_opt_sccp.specs.Starting.{AddsKeys}
use Rattle.pliron_opt_sccp.proofs.Going.{IsLeft}
use Rattle.pliron_opt_sccp.proofs.inside.add_results.Given as goal

abbrev pub invariant-loop-i : goal.invariant-loop-i
invariant-loop-i l = IsLeft AddsKeys (results_of l.ctx.tree l.op) (drop l.i (results_of l.ctx.tree l.op)) l.initial.values.keys l.values.keys
