use Rattle.std.proofs.Common.{ℕ, length}
use Rattle.pliron_core.specs.Tree.{In, arguments_of, results_of, body_of}
use Rattle.pliron_core.specs.WalkSteps.{rest_from}
use Rattle.pliron_core.proofs.ContainedLemmas.{IsWalked}
use Rattle.pliron_opt_rotate.proofs.covering.values_made_in.Given as goal

abbrev pub invariant-loop-at : goal.invariant-loop-at
invariant-loop-at l = record {
  arguments : (v : ℕ) → In v (arguments_of l.ctx.tree l.fn.block) → In v l.values.items;
  walked : IsWalked (λ k. (v : ℕ) → In v (results_of l.ctx.tree k) → In v l.values.items) (body_of l.ctx.tree l.fn.block) l.at;
}

abbrev pub decreases-loop-at : goal.decreases-loop-at
decreases-loop-at l = length (rest_from l.at (body_of l.ctx.tree l.fn.block))
