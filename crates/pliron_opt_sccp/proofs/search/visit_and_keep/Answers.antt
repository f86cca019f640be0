use Rattle.std.proofs.Common.{inl}
use Rattle.std.proofs.lemmas.Result.{on_ok_weaker}
use Rattle.pliron_opt_sccp.proofs.search.visit_and_keep.Goals as goal

pub returns-else-num_operand-gt-FEW_OPERANDS-clause-keeps : goal.returns-else-num_operand-gt-FEW_OPERANDS-clause-keeps
returns-else-num_operand-gt-FEW_OPERANDS-clause-keeps g c = on_ok_weaker c.visit_with_scratch.result (λ visited j b led. inl led) c.visit_with_scratch.ensures.ok
