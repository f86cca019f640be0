use Rattle.std.proofs.Common.{◌≡◌}
use Rattle.pliron_core.specs.WalkSteps.{first_in_regions}
use Rattle.pliron_core.proofs.context.Context.first_from_region.Given as goal

abbrev pub invariant-loop-i : goal.invariant-loop-i
invariant-loop-i l = first_in_regions l.self.tree l.op l.fn.index ≡ first_in_regions l.self.tree l.op l.i
