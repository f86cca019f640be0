use Rattle.std.proofs.Common.{◌≡◌, map, take}
use Rattle.pliron_core.specs.Tree.{successors_of}
use Rattle.pliron_laws.specs.Tree.{block_at, count_arguments}
use Rattle.pliron_role_runs.proofs.counts.all_target_arguments.Given as goal

abbrev pub invariant-loop-i : goal.invariant-loop-i
invariant-loop-i l = l.counts.items ≡ map (λ b. count_arguments (block_at l.ctx.tree b)) (take l.i (successors_of l.ctx.tree l.op))
