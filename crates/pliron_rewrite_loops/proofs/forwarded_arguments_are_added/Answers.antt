use Rattle.pliron_theory.proofs.ChosenRoots.{forwards_operands}
use Rattle.pliron_rewrite_loops.proofs.Forwarded.{forwarded_keeps}
use Rattle.pliron_rewrite_loops.proofs.forwarded_arguments_are_added.Goals as goal

pub returns : goal.returns
returns g c = λ chosen. forwarded_keeps _ _ _ _ (forwards_operands _ chosen _ _ _ g.met.D.Dialect.forwards_operands) (λ h h' s. s.branch)
