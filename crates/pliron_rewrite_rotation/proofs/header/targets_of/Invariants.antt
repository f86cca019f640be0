use Rattle.std.proofs.Common.{◌≡◌, map, take}
use Rattle.pliron_core.specs.Tree.{successors_of}
use Rattle.pliron_rewrite_rotation.specs.Entering.{led_target}
use Rattle.pliron_rewrite_rotation.proofs.header.targets_of.Given as goal

abbrev pub invariant-loop-j : goal.invariant-loop-j
invariant-loop-j l = l.targets.items ≡ map (led_target l.header l.copy) (take l.j (successors_of l.ctx.tree l.op))
