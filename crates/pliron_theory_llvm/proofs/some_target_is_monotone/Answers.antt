use Rattle.pliron_theory_llvm.proofs.SomeTarget.{some_target}
use Rattle.pliron_theory_llvm.proofs.some_target_is_monotone.Goals as goal

pub returns : goal.returns
returns c = some_target
