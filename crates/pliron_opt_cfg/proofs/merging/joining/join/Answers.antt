use Rattle.std.proofs.Common.{◌≡◌, sym, subst, ap, ◌∙◌}
use Rattle.pliron_core.specs.Tree.{Tree, IsBlock, block_parent_of}
use Rattle.pliron_core.specs.Invariant.{IsTree}
use Rattle.pliron_core.specs.Erased.{block_erased, IsSelfContainedBlock}
use Rattle.pliron_rewrite_blocks.specs.Pairs.{after_joining}
use Rattle.pliron_opt_cfg.proofs.Joinable.{contained, first_stands, still_beside, moves_from, second_left, contained_block, joins}
use Rattle.pliron_opt_cfg.proofs.merging.joining.join.Goals as goal

pub erase_operation-requires-clause-contained : goal.erase_operation-requires-clause-contained
erase_operation-requires-clause-contained g c = contained _ _ _ _ g.met.D.Dialect.forwards_operands c.args.ctx.now.tree c.args.first c.args.second c.args.jump c.well_formed-2.ensures.tree c.requires.ready

pub move_operations-requires-clause-first : goal.move_operations-requires-clause-first
move_operations-requires-clause-first g c = subst (λ (z : Tree). IsBlock z c.args.first) (sym c.erase_operation.ensures.erased) (first_stands _ _ _ _ g.met.D.Dialect.forwards_operands c.args.ctx.now.tree c.args.first c.args.second c.args.jump c.well_formed-2.ensures.tree c.requires.ready)

pub move_operations-requires-clause-beside : goal.move_operations-requires-clause-beside
move_operations-requires-clause-beside g c = subst (λ (z : Tree). block_parent_of z c.args.second ≡ block_parent_of z c.args.first) (sym c.erase_operation.ensures.erased) (still_beside _ _ _ _ g.met.D.Dialect.forwards_operands c.args.ctx.now.tree c.args.first c.args.second c.args.jump c.well_formed-2.ensures.tree c.requires.ready)

pub erase_block-requires-clause-block : goal.erase_block-requires-clause-block
erase_block-requires-clause-block g c =
    let t = c.args.ctx.now.tree in
    let e = moves_from _ _ _ _ g.met.D.Dialect.forwards_operands c.args.ctx.now.tree c.args.first c.args.second c.args.jump c.well_formed-2.ensures.tree c.requires.ready c.erase_operation.new.ctx.tree c.move_operations.new.ctx.tree c.erase_operation.ensures.erased c.move_operations.ensures in
    subst (λ (z : Tree). IsBlock z c.args.second) (sym e) (second_left _ _ _ _ g.met.D.Dialect.forwards_operands t c.args.first c.args.second c.args.jump c.well_formed-2.ensures.tree c.requires.ready (subst IsTree c.erase_operation.ensures.erased c.well_formed-3.ensures.tree) (subst IsTree e c.well_formed-4.ensures.tree))

pub erase_block-requires-clause-contained : goal.erase_block-requires-clause-contained
erase_block-requires-clause-contained g c =
    let t = c.args.ctx.now.tree in
    let e = moves_from _ _ _ _ g.met.D.Dialect.forwards_operands c.args.ctx.now.tree c.args.first c.args.second c.args.jump c.well_formed-2.ensures.tree c.requires.ready c.erase_operation.new.ctx.tree c.move_operations.new.ctx.tree c.erase_operation.ensures.erased c.move_operations.ensures in
    subst (λ (z : Tree). IsSelfContainedBlock z c.args.second) (sym e) (contained_block _ _ _ _ g.met.D.Dialect.forwards_operands t c.args.first c.args.second c.args.jump c.well_formed-2.ensures.tree c.requires.ready (subst IsTree c.erase_operation.ensures.erased c.well_formed-3.ensures.tree) (subst IsTree e c.well_formed-4.ensures.tree))

pub returns-clause-tree : goal.returns-clause-tree
returns-clause-tree g c =
    let e = moves_from _ _ _ _ g.met.D.Dialect.forwards_operands c.args.ctx.now.tree c.args.first c.args.second c.args.jump c.well_formed-2.ensures.tree c.requires.ready c.erase_operation.new.ctx.tree c.move_operations.new.ctx.tree c.erase_operation.ensures.erased c.move_operations.ensures in
    c.erase_block.ensures.erased ∙ ap (λ (z : Tree). block_erased z c.args.second) e

pub returns-clause-well : goal.returns-clause-well
returns-clause-well g c =
    let t = c.args.ctx.now.tree in
    let e = moves_from _ _ _ _ g.met.D.Dialect.forwards_operands c.args.ctx.now.tree c.args.first c.args.second c.args.jump c.well_formed-2.ensures.tree c.requires.ready c.erase_operation.new.ctx.tree c.move_operations.new.ctx.tree c.erase_operation.ensures.erased c.move_operations.ensures in
    let whole : c.erase_block.new.ctx.tree ≡ after_joining t c.args.first c.args.second c.args.jump = c.erase_block.ensures.erased ∙ ap (λ (z : Tree). block_erased z c.args.second) e in
    joins _ _ _ _ g.met.D.Dialect.forwards_operands t c.args.first c.args.second c.args.jump c.well_formed-2.ensures.tree c.requires.ready (subst IsTree c.erase_operation.ensures.erased c.well_formed-3.ensures.tree) (subst IsTree e c.well_formed-4.ensures.tree) (subst IsTree whole c.well_formed-5.ensures.tree)
