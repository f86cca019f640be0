use Rattle.std.proofs.Common.{sym, ap, ◌∙◌, subst}
use Rattle.pliron_core.specs.Tree.{View, IsBlock}
use Rattle.pliron_core.specs.Dismantling.{IsUnusedBlock}
use Rattle.pliron_core.proofs.EmptyingLemmas.{unused_block, emptied_block, emptied_body_of, emptied_not_named, emptied_unnamed, block_done}
use Rattle.pliron_core.proofs.context.erase.erase_block.Goals as goal
use Rattle.pliron_core.proofs.context.erase.erase_block.Goals.{After-well_formed-3}

unused : (c : After-well_formed-3) → IsUnusedBlock c.drop_all_uses.new.ctx.tree c.args.block
unused c = unused_block c.args.ctx.now.tree c.args.block c.drop_all_uses.new.ctx.tree c.well_formed-2.ensures.tree c.well_formed-3.ensures.tree c.drop_all_uses.ensures c.requires.contained

liveness : (c : After-well_formed-3) → IsBlock c.drop_all_uses.new.ctx.tree c.args.block
liveness c = subst (λ z. IsBlock z c.args.block) (sym c.drop_all_uses.ensures) c.requires.block

pub empty_block-requires-clause-block : goal.empty_block-requires-clause-block
empty_block-requires-clause-block c = liveness (goal.at.empty_block-requires-clause-block c).After-well_formed-3

pub empty_block-requires-clause-unused : goal.empty_block-requires-clause-unused
empty_block-requires-clause-unused c = unused (goal.at.empty_block-requires-clause-unused c).After-well_formed-3

pub remove_block-requires-clause-block : goal.remove_block-requires-clause-block
remove_block-requires-clause-block c = emptied_block c.drop_all_uses.new.ctx.tree c.args.block c.well_formed-3.ensures.tree (unused (goal.at.remove_block-requires-clause-block c).After-well_formed-3) c.empty_block.new.ctx.tree c.empty_block.ensures (liveness (goal.at.remove_block-requires-clause-block c).After-well_formed-3)

pub remove_block-requires-clause-empty : goal.remove_block-requires-clause-empty
remove_block-requires-clause-empty c = emptied_body_of c.drop_all_uses.new.ctx.tree c.args.block c.well_formed-3.ensures.tree (unused (goal.at.remove_block-requires-clause-empty c).After-well_formed-3) c.empty_block.new.ctx.tree c.empty_block.ensures

pub remove_block-requires-clause-not_named : goal.remove_block-requires-clause-not_named
remove_block-requires-clause-not_named c = emptied_not_named c.drop_all_uses.new.ctx.tree c.args.block c.well_formed-3.ensures.tree (unused (goal.at.remove_block-requires-clause-not_named c).After-well_formed-3) c.empty_block.new.ctx.tree c.empty_block.ensures

pub remove_block-requires-clause-unnamed : goal.remove_block-requires-clause-unnamed
remove_block-requires-clause-unnamed c = emptied_unnamed c.drop_all_uses.new.ctx.tree c.args.block c.well_formed-3.ensures.tree (unused (goal.at.remove_block-requires-clause-unnamed c).After-well_formed-3) c.empty_block.new.ctx.tree c.empty_block.ensures

pub returns : goal.returns
returns c = ap (λ (v : View). v.tree) c.remove_block.ensures ∙ block_done c.args.ctx.now.tree c.args.block c.drop_all_uses.new.ctx.tree c.empty_block.new.ctx.tree c.drop_all_uses.ensures c.empty_block.ensures
