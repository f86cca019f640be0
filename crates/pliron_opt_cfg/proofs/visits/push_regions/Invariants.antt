use Rattle.std.proofs.Common.{◌≡◌, ◌++◌, take}
use Rattle.pliron_core.specs.Tree.{regions_of}
use Rattle.pliron_opt_cfg.proofs.visits.push_regions.Given as goal

abbrev pub invariant-loop-i : goal.invariant-loop-i
invariant-loop-i l = l.regions.items ≡ l.fn.regions.items ++ take l.i (regions_of l.ctx.tree l.op)
