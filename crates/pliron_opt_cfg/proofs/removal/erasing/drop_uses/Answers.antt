use Rattle.std.proofs.Common.{◌≡◌, ◌++◌, ◌+◌, ◌∷◌, [], take, None, IsSome, sym, ap, ◌∙◌, subst, slice_index_or}
use Rattle.std.proofs.lemmas.List.{take_more}
use Rattle.pliron_rewrite_blocks.specs.Leaving.{DropsAll, DropsAll.Done}
use Rattle.pliron_core.specs.Erased.{uses_dropped}
use Rattle.pliron_opt_cfg.proofs.ListLemmas.{item_in}
use Rattle.pliron_opt_cfg.proofs.DropSteps.{drops_more, drops_blocks}
use Rattle.pliron_opt_cfg.proofs.removal.erasing.drop_uses.Goals as goal

pub loop-block-init : goal.loop-block-init
loop-block-init c = Done

pub drop_all_uses-requires : goal.drop_all_uses-requires
drop_all_uses-requires c =
    let b = c.block-item.result in
    subst (λ z. IsSome (slice_index_or z b None)) (sym (drops_blocks (take c.loop-block.block-index c.args.blocks.now) c.args.ctx.now.tree c.loop-block.ctx.tree c.loop-block.invariant))
    (c.requires b (item_in c.args.blocks.now c.loop-block.block-index b c.loop-block-test.true c.block-item.is))

pub loop-block-preserved : goal.loop-block-preserved
loop-block-preserved c =
    let bs = c.args.blocks.now in
    let i = c.loop-block.block-index in
    let b = c.block-item.result in
    let more : take (i + 1) bs ≡ take i bs ++ b ∷ [] = take_more bs i b c.loop-block-test.true ∙ ap (λ z. take i bs ++ z ∷ []) (sym c.block-item.is) in
    subst (λ z. DropsAll (take (i + 1) bs) c.args.ctx.now.tree z) (sym c.drop_all_uses.ensures)
    (subst (λ z. DropsAll z c.args.ctx.now.tree (uses_dropped c.loop-block.ctx.tree b)) (sym more) (drops_more (take i bs) c.args.ctx.now.tree c.loop-block.ctx.tree b c.loop-block.invariant))
