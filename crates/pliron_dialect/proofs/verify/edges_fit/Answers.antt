use Rattle.std.proofs.Common.{refl}
use Rattle.pliron_dialect.proofs.FitReads.{checked, unchecked, no_kind}
use Rattle.pliron_dialect.proofs.verify.edges_fit.Goals as goal

pub returns-then-checks_edges : goal.returns-then-checks_edges
returns-then-checks_edges g c = checked g.K.Roles.tables c.args.ctx.now.tree c.args.op c.in-Some.kind c.checks_edges.result c.all_edges_fit.result c.requires c.in-Some.ensures c.checks_edges.ensures c.if-checks_edges.true c.all_edges_fit.ensures

pub returns-else-checks_edges : goal.returns-else-checks_edges
returns-else-checks_edges g c = (
  λ f. unchecked g.K.Roles.tables c.args.ctx.now.tree c.args.op c.in-Some.kind c.checks_edges.result c.in-Some.ensures c.checks_edges.ensures c.if-checks_edges.false,
  λ fit. refl,
)

pub returns-in-None : goal.returns-in-None
returns-in-None g c = (λ f. no_kind g.K.Roles.tables c.args.ctx.now.tree c.args.op c.in-None.ensures, λ fit. refl)
