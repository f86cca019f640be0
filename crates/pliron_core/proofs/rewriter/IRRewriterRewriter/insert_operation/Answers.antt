use Rattle.std.proofs.Common.{◌≡◌, sym, ◌∙◌, Some}
use Rattle.pliron_core.specs.Tree.{parent_of}
use Rattle.pliron_core.proofs.TreeLemmas.{parented_live}
use Rattle.pliron_core.proofs.PlacedLemmas.{before_outside}
use Rattle.pliron_core.proofs.rewriter.IRRewriterRewriter.insert_operation.Goals as goal

pub get_parent_block-requires : goal.get_parent_block-requires
get_parent_block-requires c =
    let r = rw c.in-BeforeOperation.is at c.requires.point in
    parented_live c.args.ctx.now.tree c.in-BeforeOperation.at c.well_formed-2.ensures.tree.joined r.0

pub place_before-requires-clause-outside : goal.place_before-requires-clause-outside
place_before-requires-clause-outside c =
    let r = rw c.in-BeforeOperation.is at c.requires.point in
    let at : parent_of c.args.ctx.now.tree c.in-BeforeOperation.at ≡ Some c.in-Some.block = sym c.get_parent_block.ensures.block ∙ c.in-Some.is in
    before_outside c.args.ctx.now.tree c.args.op c.in-BeforeOperation.at c.in-Some.block at r.2
