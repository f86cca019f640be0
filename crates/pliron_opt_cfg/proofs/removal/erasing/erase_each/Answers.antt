use Rattle.std.proofs.Common.{◌≡◌, ◌++◌, ◌+◌, ◌∷◌, [], take, drop, inl, refl, sym, ap, ◌∙◌, subst}
use Rattle.std.proofs.lemmas.List.{take_more, drop_more}
use Rattle.pliron_core.specs.Erased.{block_erased}
use Rattle.pliron_core.specs.Invariant.{IsTree}
use Rattle.pliron_opt_cfg.proofs.EraseSteps.{AreErased, none_erased, next_stands, next_contained, one_erased}
use Rattle.pliron_opt_cfg.proofs.removal.erasing.erase_each.Goals as goal

pub loop-block-init : goal.loop-block-init
loop-block-init g c = record {
  erased = none_erased c.args.ctx.now.tree c.args.region c.args.blocks.now c.well_formed-2.ensures.tree c.requires.own c.requires.distinct;
  point = refl;
}

pub erase_block-requires-clause-contained : goal.erase_block-requires-clause-contained
erase_block-requires-clause-contained g c =
    let bs = c.args.blocks.now in
    let i = c.loop-block.block-index in
    let b = c.block-item.result in
    let rest : drop i bs ≡ b ∷ drop (i + 1) bs = drop_more bs i b c.loop-block-test.true ∙ ap (λ z. z ∷ drop (i + 1) bs) (sym c.block-item.is) in
    let h : AreErased c.args.ctx.now.tree c.loop-block.ctx.tree c.args.region bs (take i bs) (b ∷ drop (i + 1) bs) = subst (AreErased c.args.ctx.now.tree c.loop-block.ctx.tree c.args.region bs (take i bs)) rest c.loop-block.invariant.erased in
    next_contained c.args.ctx.now.tree c.loop-block.ctx.tree c.well_formed-2.ensures.tree c.args.region bs (take i bs) (drop (i + 1) bs) b c.requires.own h (c.requires.unnamed b (h.among b (inl refl)))

pub erase_block-requires-clause-block : goal.erase_block-requires-clause-block
erase_block-requires-clause-block g c =
    let bs = c.args.blocks.now in
    let i = c.loop-block.block-index in
    let b = c.block-item.result in
    let rest : drop i bs ≡ b ∷ drop (i + 1) bs = drop_more bs i b c.loop-block-test.true ∙ ap (λ z. z ∷ drop (i + 1) bs) (sym c.block-item.is) in
    let h : AreErased c.args.ctx.now.tree c.loop-block.ctx.tree c.args.region bs (take i bs) (b ∷ drop (i + 1) bs) = subst (AreErased c.args.ctx.now.tree c.loop-block.ctx.tree c.args.region bs (take i bs)) rest c.loop-block.invariant.erased in
    next_stands c.args.ctx.now.tree c.loop-block.ctx.tree c.well_formed-2.ensures.tree c.args.region bs (take i bs) (drop (i + 1) bs) b c.requires.own h

pub loop-block-preserved : goal.loop-block-preserved
loop-block-preserved g c =
    let t = c.args.ctx.now.tree in
    let u = c.loop-block.ctx.tree in
    let bs = c.args.blocks.now in
    let i = c.loop-block.block-index in
    let b = c.block-item.result in
    let r = c.args.region in
    let rest : drop i bs ≡ b ∷ drop (i + 1) bs = drop_more bs i b c.loop-block-test.true ∙ ap (λ z. z ∷ drop (i + 1) bs) (sym c.block-item.is) in
    let front : take (i + 1) bs ≡ take i bs ++ b ∷ [] = take_more bs i b c.loop-block-test.true ∙ ap (λ z. take i bs ++ z ∷ []) (sym c.block-item.is) in
    let h : AreErased t u r bs (take i bs) (b ∷ drop (i + 1) bs) = subst (AreErased t u r bs (take i bs)) rest c.loop-block.invariant.erased in
    let same : c.erase_block.new.ctx.tree ≡ block_erased u b = c.erase_block.ensures.erased in
    let wt = c.well_formed-2.ensures.tree in
    let next = one_erased t u wt r bs (take i bs) (drop (i + 1) bs) b c.requires.own h wt (subst IsTree same c.well_formed-in-loop-block.ensures.tree) in
    record {
      erased = subst (λ z. AreErased t z r bs (take (i + 1) bs) (drop (i + 1) bs)) (sym same) (subst (λ z. AreErased t (block_erased u b) r bs z (drop (i + 1) bs)) (sym front) next);
      point = c.erase_block.ensures.point ∙ c.loop-block.invariant.point;
    }
