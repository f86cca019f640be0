use Rattle.std.proofs.Common.{◌≡◌, ◌++◌, take}
use Rattle.pliron_core.specs.Tree.{results_of}
use Rattle.pliron_opt_cfg.proofs.removal.contents.push_results.Given as goal

abbrev pub invariant-loop-i : goal.invariant-loop-i
invariant-loop-i l = l.values.items ≡ l.fn.values.items ++ take l.i (results_of l.ctx.tree l.op)
