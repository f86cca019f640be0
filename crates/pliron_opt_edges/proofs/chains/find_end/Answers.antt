use Rattle.std.proofs.Common.{subst}
use Rattle.pliron_opt_edges.specs.Ends.{IsWalked}
use Rattle.pliron_opt_edges.proofs.WalkLemmas.{endless_known}
use Rattle.pliron_opt_edges.proofs.chains.find_end.Goals as goal

pub returns-clause-known : goal.returns-clause-known
returns-clause-known g c =
    let m = g.D.HasMeaning.meaning in
    let ends = c.walk.new.ends in
    let path = c.walk.new.path.items in
    endless_known m.is_branch c.args.ctx.now.tree ends path c.args.block (subst (IsWalked m.is_branch c.args.ctx.now.tree ends path c.args.block) c.in-None.is c.in_ok-end.ensures.walked)
