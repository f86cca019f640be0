use Rattle.std.proofs.Common.{◌≤◌, length, true≢false, refl, sym, arith}
use Rattle.pliron_core.specs.Tree.{successors_of}
use Rattle.pliron_dialect.specs.Roles.{role_at}
use Rattle.pliron_dialect.proofs.FitReads.{one_more_fits, unfit_found, all_fit}
use Rattle.pliron_dialect.proofs.verify.all_edges_fit.Goals as goal

pub returns-then-not-edge_fits : goal.returns-then-not-edge_fits
returns-then-not-edge_fits g c = (
  λ f. absurd (true≢false (sym f)),
  λ all. absurd (unfit_found (role_at g.K.Roles.tables) c.args.ctx.now.tree c.args.op c.loop-i.i c.edge_fits.result c.requires (omega arith) c.edge_fits.ensures c.if-not-edge_fits.true all),
)

pub returns : goal.returns
returns g c =
    let le : length (successors_of c.args.ctx.now.tree c.args.op) ≤ c.loop-i.i = omega arith in
    (λ f. all_fit (role_at g.K.Roles.tables) c.args.ctx.now.tree c.args.op c.loop-i.i le c.loop-i.invariant, λ all. refl)
