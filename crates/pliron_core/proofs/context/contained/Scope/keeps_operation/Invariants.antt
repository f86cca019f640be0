use Rattle.pliron_core.specs.Tree.{results_of, regions_of}
use Rattle.pliron_core.specs.Contained.{IsValueKept, IsRegionKept}
use Rattle.pliron_core.proofs.ContainedLemmas.{ArePassed}
use Rattle.pliron_core.proofs.context.contained.Scope.keeps_operation.Given as goal

abbrev pub invariant-loop-i : goal.invariant-loop-i
invariant-loop-i l = ArePassed (λ v. IsValueKept l.ctx.tree l.self v) (results_of l.ctx.tree l.op) l.i

abbrev pub invariant-loop-i-2 : goal.invariant-loop-i-2
invariant-loop-i-2 l = ArePassed (λ r. IsRegionKept l.ctx.tree l.self r) (regions_of l.ctx.tree l.op) l.i
