use Rattle.std.proofs.Common.{sym, subst}
use Rattle.pliron_theory.specs.Dropping.{AreEdgesTo}
use Rattle.pliron_theory.proofs.EdgesLost.{uses_are_edges}
use Rattle.pliron_opt_dce.proofs.IncomingLists.{sorted_incoming}
use Rattle.pliron_opt_dce.proofs.incoming.make_list.Goals as goal

pub returns-clause-edges : goal.returns-clause-edges
returns-clause-edges g c =
    let t = c.args.ctx.now.tree in
    sorted_incoming g.D.HasMeaning.meaning t c.args.block c.in_ok-edges.edges.items c.put_widest_first.new.edges.items c.requires.branches
    (subst (AreEdgesTo t c.args.block) (sym c.in_ok-edges.ensures.edges) (uses_are_edges t c.args.ctx.now.block_uses c.args.block c.well_formed-2.ensures.uses.block_uses))
    c.in_ok-edges.ensures.counted c.put_widest_first.ensures.kept c.in_ok-put_widest_first.ensures.falling
