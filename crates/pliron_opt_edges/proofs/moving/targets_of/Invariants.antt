use Rattle.std.proofs.Common.{◌≡◌, map, take}
use Rattle.pliron_core.specs.Tree.{successors_of}
use Rattle.pliron_opt_edges.specs.Ends.{known_target_of}
use Rattle.pliron_opt_edges.proofs.moving.targets_of.Given as goal

abbrev pub invariant-loop-j : goal.invariant-loop-j
invariant-loop-j l = l.targets.items ≡ map (λ b. known_target_of l.ends b) (take l.j (successors_of l.ctx.tree l.op))
