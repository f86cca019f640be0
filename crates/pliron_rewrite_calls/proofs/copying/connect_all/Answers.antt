use Rattle.std.proofs.Common.{◌≡◌, length, subst, arith}
use Rattle.pliron_rewrite_calls.specs.CopySteps.{AreConnected, IsCopying}
use Rattle.pliron_rewrite_calls.proofs.CopyStages.{connected_none}
use Rattle.pliron_rewrite_calls.proofs.copying.connect_all.Goals as goal

pub loop-i-init : goal.loop-i-init
loop-i-init g c =
    record {
      copying = c.requires.1.1.1.0;
      connected = connected_none g.x c.requires.0 c.args.ctx.now.tree c.args.copies.now (subst (λ z. IsCopying g.x c.args.ctx.now.tree g.x.blocks z c.args.copies.now) c.requires.1.0 c.requires.1.1.1.0) c.requires.1.1.1.1;
    }

pub returns-clause-connected : goal.returns-clause-connected
returns-clause-connected g c =
    let n : c.loop-i.i ≡ length c.args.operations.now = omega arith in
    subst (AreConnected g.x c.loop-i.ctx.tree c.args.copies.now) n c.loop-i.invariant.connected
