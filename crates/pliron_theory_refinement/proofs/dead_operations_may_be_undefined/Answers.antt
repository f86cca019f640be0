use Rattle.pliron_theory.proofs.SweptParts.{lives}
use Rattle.pliron_theory_refinement.proofs.SweptRefines.{swept_refines}
use Rattle.pliron_theory_refinement.proofs.dead_operations_may_be_undefined.Goals as goal

pub returns : goal.returns
returns c = λ R E m t u dead dead_block root p q w v h gone f live gives. swept_refines m t u dead dead_block w v h root f.linked.edges f.defined gives (lives u dead dead_block v gone root live) R E p q f.live
