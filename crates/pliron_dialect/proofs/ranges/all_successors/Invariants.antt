use Rattle.std.proofs.Common.{◌≡◌, take}
use Rattle.pliron_core.specs.Tree.{successors_of}
use Rattle.pliron_dialect.proofs.ranges.all_successors.Given as goal

abbrev pub invariant-loop-j : goal.invariant-loop-j
invariant-loop-j l = l.blocks.items ≡ take l.j (successors_of l.ctx.tree l.op)
