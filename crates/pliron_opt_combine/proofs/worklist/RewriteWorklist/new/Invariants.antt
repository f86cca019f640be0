use Rattle.std.proofs.Common.{ℕ}
use Rattle.pliron_core.specs.Tree.{In}
use Rattle.pliron_opt_combine.proofs.worklist.RewriteWorklist.new.Given as goal

abbrev pub invariant-loop-place : goal.invariant-loop-place
invariant-loop-place l = (k : ℕ) → In k l.seen.keys → In k l.ops
