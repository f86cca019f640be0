use Rattle.std.proofs.Common.{rules, ◌≡◌, Some, None}
use Rattle.pliron_core.specs.Tree.{layout_of, body_of, last_of}
use Rattle.pliron_core.specs.UseTables.{view_of}
use Rattle.pliron_core.specs.Dismantling.{last_region_of}
use Rattle.pliron_core.proofs.LastLemmas.{last_none}
use Rattle.pliron_core.proofs.InnerLemmas.{last_read, last_region_within, last_block_holder, last_operation}
use Rattle.pliron_core.proofs.context.erase.last_inside.Goals as goal
use Rattle.pliron_core.proofs.context.erase.last_inside.Goals.{After-index-3}

last_region : (c : After-index-3) → last_region_of c.args.ctx.now.tree c.args.op ≡ Some c.index-3.result
last_region c =
    let live = rw (← c.ctx.view_is, ← c.index.ensures) at c.requires in
    rw (← c.ctx.view_is, ← c.index.ensures, c.index-3.ensures) (last_read (view_of c.ctx.inside).tree c.index.result c.index-2.result.now c.len-count.result c.get.result live c.index-2.ensures c.len-count.ensures c.get.ensures)

pub tail-requires : goal.tail-requires
tail-requires c =
    let h = last_region_within c.args.ctx.now.tree c.args.op c.index-3.result c.well_formed-2.ensures.tree (last_region c) in
    search (rules, h)

pub returns-in-None : goal.returns-in-None
returns-in-None c =
    let e : last_of None (layout_of c.args.ctx.now.tree c.index-3.result) ≡ None = search (rules, c.in-None.ensures) in
    (c.index-3.result, last_region (goal.at.returns-in-None c).After-index-3, last_none _ e)

pub returns-in-None-tail : goal.returns-in-None-tail
returns-in-None-tail c =
    let e : last_of None (layout_of c.args.ctx.now.tree c.index-3.result) ≡ Some c.new.result = search (rules, c.in-Some.ensures) in
    let f : last_of None (body_of c.args.ctx.now.tree c.new.result) ≡ None = search (rules, c.in-None-tail.ensures) in
    (last_block_holder c.args.ctx.now.tree c.args.op c.index-3.result c.well_formed-2.ensures.tree (last_region (goal.at.returns-in-None-tail c).After-index-3) c.new.result e, last_none _ f)

pub returns-in-Some-tail : goal.returns-in-Some-tail
returns-in-Some-tail c =
    let e : last_of None (layout_of c.args.ctx.now.tree c.index-3.result) ≡ Some c.in-Some.block = search (rules, c.in-Some.ensures) in
    let f : last_of None (body_of c.args.ctx.now.tree c.in-Some.block) ≡ Some c.new-in-Some-tail.result = search (rules, c.in-Some-tail.ensures) in
    last_operation c.args.ctx.now.tree c.args.op c.index-3.result c.well_formed-2.ensures.tree (last_region (goal.at.returns-in-Some-tail c).After-index-3) c.in-Some.block c.new-in-Some-tail.result e f
