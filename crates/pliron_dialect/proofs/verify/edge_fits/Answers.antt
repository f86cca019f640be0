use Rattle.pliron_dialect.specs.Roles.{role_at}
use Rattle.pliron_dialect.proofs.FitReads.{fit_read}
use Rattle.pliron_dialect.proofs.verify.edge_fits.Goals as goal

pub returns : goal.returns
returns g c = λ h b head to. fit_read (role_at g.K.Roles.tables) c.args.ctx.now.tree c.args.op c.args.i c.places_at.result.first c.places_at.result.count c.num_argument.result c.get_successor-target.result b h c.places_at.ensures.places c.num_argument.ensures c.get_successor-target.ensures.successor head to
