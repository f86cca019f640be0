use Rattle.std.proofs.Common.{◌≡◌, map, take}
use Rattle.pliron_core.specs.Tree.{regions_of}
use Rattle.pliron_laws.specs.Tree.{entry_block, count_arguments}
use Rattle.pliron_role_runs.proofs.counts.all_entry_arguments.Given as goal

abbrev pub invariant-loop-i : goal.invariant-loop-i
invariant-loop-i l = l.counts.items ≡ map (λ r. count_arguments (entry_block l.ctx.tree r)) (take l.i (regions_of l.ctx.tree l.op))
