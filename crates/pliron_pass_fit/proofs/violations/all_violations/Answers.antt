use Rattle.pliron_pass_fit.proofs.violations.all_violations.Goals as goal

pub with_undominated-requires-clause-edges : goal.with_undominated-requires-clause-edges
with_undominated-requires-clause-edges g c = c.edges_last.ensures.0 c.if-not-edges_last.false
