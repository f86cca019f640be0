use Rattle.pliron_opt_cfg.proofs.DroppedNames.{unnamed, own_after}
use Rattle.pliron_opt_cfg.proofs.removal.region.erase_blocks.Goals as goal

pub erase_each-requires-clause-own : goal.erase_each-requires-clause-own
erase_each-requires-clause-own g c =
    let l = c.requires.lawful in
    own_after c.args.ctx.now.tree c.drop_uses.new.ctx.tree l.holder c.args.region c.args.blocks.now l.tree c.well_formed-3.ensures.tree l.edges l.held c.requires.may c.drop_uses.ensures

pub erase_each-requires-clause-unnamed : goal.erase_each-requires-clause-unnamed
erase_each-requires-clause-unnamed g c =
    let l = c.requires.lawful in
    unnamed c.args.ctx.now.tree c.drop_uses.new.ctx.tree l.holder c.args.region c.args.blocks.now l.tree c.well_formed-3.ensures.tree l.edges l.held c.requires.may c.drop_uses.ensures

pub returns-clause-cut : goal.returns-clause-cut
returns-clause-cut g c =
    let l = c.requires.lawful in
    let n = c.erase_each.new.ctx.tree in
    (c.blocks_go.ensures g.D.HasMeaning.meaning c.args.ctx.now.tree c.drop_uses.new.ctx.tree n l.holder c.args.region c.args.blocks.now l.tree c.well_formed-3.ensures.tree c.well_formed-4.ensures.tree l.edges l.held c.requires.may c.drop_uses.ensures c.erase_each.ensures.erased).cut

pub returns-clause-runs : goal.returns-clause-runs
returns-clause-runs g c =
    let l = c.requires.lawful in
    let n = c.erase_each.new.ctx.tree in
    (c.blocks_go.ensures g.D.HasMeaning.meaning c.args.ctx.now.tree c.drop_uses.new.ctx.tree n l.holder c.args.region c.args.blocks.now l.tree c.well_formed-3.ensures.tree c.well_formed-4.ensures.tree l.edges l.held c.requires.may c.drop_uses.ensures c.erase_each.ensures.erased).runs
