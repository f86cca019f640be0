use Rattle.std.proofs.Common.{take, []}
use Rattle.pliron_rewrite_calls.specs.CopySteps.{HasNames}
use Rattle.pliron_rewrite_calls.proofs.inlining.add_edge.Given as goal

abbrev pub invariant-loop-j : goal.invariant-loop-j
invariant-loop-j l = HasNames l.fn.ctx.tree l.ctx.tree l.jump (take l.j l.values) []
