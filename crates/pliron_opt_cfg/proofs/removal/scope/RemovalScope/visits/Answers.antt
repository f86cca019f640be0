use Rattle.std.proofs.Common.{refl, sym, subst}
use Rattle.pliron_opt_cfg.specs.Internal.Scopes.{IsHolder}
use Rattle.pliron_opt_cfg.proofs.removal.scope.RemovalScope.visits.Goals as goal

pub visits_inside_op-requires-clause-edges : goal.visits_inside_op-requires-clause-edges
visits_inside_op-requires-clause-edges c = c.requires.edges c.in-Operation.op (subst (λ z. IsHolder c.args.ctx.now.tree z c.in-Operation.op) (sym c.in-Operation.is) refl)

pub visits_inside_block-requires-clause-edges : goal.visits_inside_block-requires-clause-edges
visits_inside_block-requires-clause-edges c holder e = c.requires.edges holder (subst (λ z. IsHolder c.args.ctx.now.tree z holder) (sym c.in-Block.is) e)

pub visits_inside_region-requires-clause-edges : goal.visits_inside_region-requires-clause-edges
visits_inside_region-requires-clause-edges c holder e = c.requires.edges holder (subst (λ z. IsHolder c.args.ctx.now.tree z holder) (sym c.in-Region.is) e)
