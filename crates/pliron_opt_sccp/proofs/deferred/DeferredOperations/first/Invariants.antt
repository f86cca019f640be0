use Rattle.std.proofs.Common.{◌≡◌, drop}
use Rattle.std.specs.List.{flat_map}
use Rattle.pliron_opt_sccp.specs.Deferring.{deferred_operations}
use Rattle.pliron_opt_sccp.proofs.deferred.DeferredOperations.first.Given as goal

abbrev pub invariant-loop-i : goal.invariant-loop-i
invariant-loop-i l = deferred_operations l.self ≡ flat_map (λ s. s.keys) (drop l.i l.self.sets.items)
