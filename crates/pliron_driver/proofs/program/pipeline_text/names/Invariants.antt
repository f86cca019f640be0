use Rattle.std.proofs.Common.{◌≡◌}
use Rattle.pliron_driver.proofs.program.pipeline_text.names.Given as goal

abbrev pub invariant-loop-name : goal.invariant-loop-name
invariant-loop-name l = l.names.items ≡ l.yielded
