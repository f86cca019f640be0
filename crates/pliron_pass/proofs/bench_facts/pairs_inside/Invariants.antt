use Rattle.std.proofs.Common.{◌≡◌, length}
use Rattle.std.specs.List.{flat_map}
use Rattle.pliron_core.specs.Walks.{preorder}
use Rattle.pliron_core.specs.WalkSteps.{rest_from}
use Rattle.pliron_pass.specs.BenchFacts.{pairs_at}
use Rattle.pliron_pass.proofs.WalkedLemmas.{HasWalked}
use Rattle.pliron_pass.proofs.bench_facts.pairs_inside.Given as goal

abbrev pub invariant-loop-at : goal.invariant-loop-at
invariant-loop-at l = HasWalked l.ctx.tree l.op (λ passed. l.pairs.items ≡ flat_map (pairs_at l.ctx.tree) passed) l.at

abbrev pub decreases-loop-at : goal.decreases-loop-at
decreases-loop-at l = length (rest_from l.at (preorder l.ctx.tree l.op))
