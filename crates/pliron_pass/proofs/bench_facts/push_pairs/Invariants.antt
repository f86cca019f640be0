use Rattle.std.proofs.Common.{◌≡◌, ◌++◌, take}
use Rattle.pliron_core.specs.Edges.{succs_of}
use Rattle.pliron_pass.specs.BenchFacts.{pairs_of}
use Rattle.pliron_pass.proofs.bench_facts.push_pairs.Given as goal

abbrev pub invariant-loop-i : goal.invariant-loop-i
invariant-loop-i l = l.pairs.items ≡ l.fn.pairs.items ++ pairs_of (l.block, take l.i (succs_of l.ctx.tree l.block))
