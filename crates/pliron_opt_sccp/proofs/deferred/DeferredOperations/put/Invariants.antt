use Rattle.std.proofs.Common.{◌≡◌, ◌+◌, ◌-◌, length}
use Rattle.pliron_opt_sccp.specs.Deferring.{deferred_operations}
use Rattle.pliron_opt_sccp.proofs.deferred.DeferredOperations.put.Given as goal

abbrev pub invariant-loop-alloc : goal.invariant-loop-alloc
invariant-loop-alloc l = deferred_operations l.self ≡ deferred_operations l.initial.self

abbrev pub decreases-loop-alloc : goal.decreases-loop-alloc
decreases-loop-alloc l = l.i + 1 - length l.self.sets.items
