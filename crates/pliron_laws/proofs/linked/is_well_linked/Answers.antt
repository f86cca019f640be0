use Rattle.pliron_laws.proofs.linked.is_well_linked.Goals as goal

pub returns-then-edges_last : goal.returns-then-edges_last
returns-then-edges_last g c = (
  λ e. record { edges = c.edges_last.ensures.0 c.if-edges_last.true; admitted = c.all_admitted.ensures.0 e },
  λ linked. c.all_admitted.ensures.1 linked.admitted,
)
