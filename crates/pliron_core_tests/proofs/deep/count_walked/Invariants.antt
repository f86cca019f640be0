use Rattle.pliron_core.specs.Tree.{IsWithin}
use Rattle.pliron_core_tests.proofs.deep.count_walked.Given as goal

abbrev pub invariant-loop-count : goal.invariant-loop-count
invariant-loop-count l = IsWithin l.ctx.tree l.root l.at
