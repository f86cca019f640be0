use Rattle.std.proofs.Common.{◌≡◌}
use Rattle.pliron_opt_dce.proofs.incoming.Incoming.settle.Given as goal

abbrev pub invariant-loop-block : goal.invariant-loop-block
invariant-loop-block l = l.ctx ≡ l.fn.ctx
