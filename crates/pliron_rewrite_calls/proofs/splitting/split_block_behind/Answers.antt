use Rattle.std.proofs.Common.{sym}
use Rattle.pliron_rewrite_calls.proofs.MovedBehind.{ready, whole}
use Rattle.pliron_rewrite_calls.proofs.splitting.split_block_behind.Goals as goal

pub count_behind-moves-requires : goal.count_behind-moves-requires
count_behind-moves-requires g c = sym c.in-Some.ensures.block

pub move_behind-requires : goal.move_behind-requires
move_behind-requires g c =
    let r = ready c.args.ctx.now.tree c.create.new.ctx.tree c.well_formed-2.ensures.tree c.args.op c.in-Some.block c.in-Some-get_parent_region.region c.in_ok-new.new c.args.arguments (sym c.in-Some.ensures.block) (sym c.in-Some-get_parent_region.ensures.region) c.in_ok-new.ensures.ok c.in_ok-new.ensures.key in
    record { holds = r.holds; new = r.is_new; apart = r.apart; empty = r.empty; beside = r.beside }

pub returns-clause-split : goal.returns-clause-split
returns-clause-split g c =
    whole c.args.ctx.now.tree c.create.new.ctx.tree c.move_behind.new.ctx.tree c.well_formed-2.ensures.tree c.args.op c.in-Some.block c.in-Some-get_parent_region.region c.in_ok-new.new c.args.arguments (sym c.in-Some.ensures.block) (sym c.in-Some-get_parent_region.ensures.region) c.in_ok-new.ensures.ok c.in_ok-new.ensures.key c.move_behind.ensures.moved
