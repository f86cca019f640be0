use Rattle.pliron_theory.proofs.RemovedKeeps.{removed_keeps}
use Rattle.pliron_theory.proofs.theory.unused_arguments_go.Goals as goal

pub returns : goal.returns
returns g c t u block index v edges w w' argument to branches answer lose unused = removed_keeps _ _ _ _ g.met.D.Dialect.forwards_operands (λ h h' s. s.branch) g.met.D.Dialect.keeps_counts g.D.BlockArgRemoval.removable g.met.D.Dialect.acts_without_argument t u block index v edges w w' argument to branches answer lose unused
