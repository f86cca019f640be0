use Rattle.std.proofs.Common.{◌≡◌, ◌+◌, ◌<◌, true≢false, sym, ap, ◌∙◌, subst}
use Rattle.std.specs.Option.{option_map_or}
use Rattle.pliron_core.specs.Tree.{Tree, IsBlock}
use Rattle.pliron_core.specs.Reads.{prev_block_of}
use Rattle.pliron_rewrite_calls.specs.CopySteps.{IsDropping}
use Rattle.pliron_rewrite_calls.proofs.Growing.{region_grown}
use Rattle.pliron_rewrite_calls.proofs.ErasedAgain.{drop_start, drop_block, drop_next, drop_falls, drop_at_end, drop_at_last}
use Rattle.pliron_rewrite_calls.proofs.erasing.drop_new_uses.Goals as goal

pub get_tail-at-requires : goal.get_tail-at-requires
get_tail-at-requires g c = region_grown g.t c.args.ctx.now.tree c.args.region c.requires.0 c.requires.1.1.0 c.args.region c.requires.1.0

pub loop-at-init : goal.loop-at-init
loop-at-init g c = drop_start g.t c.args.ctx.now.tree c.args.region c.requires.0 c.well_formed-2.ensures.tree c.requires.1.1.0 c.args.last.now c.get_tail-at.result c.requires.1.1.1 c.get_tail-at.ensures.last

pub returns-then-is_block-clause-bare : goal.returns-then-is_block-clause-bare
returns-then-is_block-clause-bare g c =
    drop_at_last g.t c.loop-at.ctx.tree c.args.region c.args.last.now c.requires.0 c.well_formed-in-Some.ensures.tree c.requires.1.1.1 c.in-Some.block (subst (IsDropping g.t c.loop-at.ctx.tree c.args.region c.args.last.now) c.in-Some.is c.loop-at.invariant) (c.is_block.ensures.0 c.if-is_block.true)

pub drop_all_uses-requires : goal.drop_all_uses-requires
drop_all_uses-requires g c =
    drop_block g.t c.loop-at.ctx.tree c.args.region c.args.last.now c.requires.0 c.well_formed-in-Some.ensures.tree c.requires.1.1.1 c.in-Some.block (subst (IsDropping g.t c.loop-at.ctx.tree c.args.region c.args.last.now) c.in-Some.is c.loop-at.invariant) (λ e. true≢false (sym (c.is_block.ensures.1 e) ∙ c.if-is_block.false))

pub get_prev-at-requires : goal.get_prev-at-requires
get_prev-at-requires g c =
    subst (λ (z : Tree). IsBlock z c.in-Some.block) (sym c.drop_all_uses.ensures)
    (drop_block g.t c.loop-at.ctx.tree c.args.region c.args.last.now c.requires.0 c.well_formed-in-Some.ensures.tree c.requires.1.1.1 c.in-Some.block (subst (IsDropping g.t c.loop-at.ctx.tree c.args.region c.args.last.now) c.in-Some.is c.loop-at.invariant) (λ e. true≢false (sym (c.is_block.ensures.1 e) ∙ c.if-is_block.false)))

pub loop-at-preserved : goal.loop-at-preserved
loop-at-preserved g c =
    let t = c.loop-at.ctx.tree in
    let b = c.in-Some.block in
    let o = c.get_prev-at.result in
    let before : o ≡ prev_block_of c.drop_all_uses.new.ctx.tree b = c.get_prev-at.ensures.prev in
    subst (λ (z : Tree). IsDropping g.t z c.args.region c.args.last.now o) (sym c.drop_all_uses.ensures)
    (drop_next g.t t c.args.region c.args.last.now c.requires.0 c.well_formed-in-Some.ensures.tree c.requires.1.1.1 b (subst (IsDropping g.t t c.args.region c.args.last.now) c.in-Some.is c.loop-at.invariant) (λ e. true≢false (sym (c.is_block.ensures.1 e) ∙ c.if-is_block.false)) o (before ∙ ap (λ (z : Tree). prev_block_of z b) c.drop_all_uses.ensures))

pub loop-at-smaller : goal.loop-at-smaller
loop-at-smaller g c =
    let t = c.loop-at.ctx.tree in
    let b = c.in-Some.block in
    let o = c.get_prev-at.result in
    let before : o ≡ prev_block_of c.drop_all_uses.new.ctx.tree b = c.get_prev-at.ensures.prev in
    subst (λ z. option_map_or (λ x. x + 1) o 0 < option_map_or (λ x. x + 1) z 0) (sym c.in-Some.is)
    (drop_falls g.t t c.args.region c.args.last.now c.requires.0 c.well_formed-in-Some.ensures.tree c.requires.1.1.1 b (subst (IsDropping g.t t c.args.region c.args.last.now) c.in-Some.is c.loop-at.invariant) (λ e. true≢false (sym (c.is_block.ensures.1 e) ∙ c.if-is_block.false)) o (before ∙ ap (λ (z : Tree). prev_block_of z b) c.drop_all_uses.ensures))

pub returns-clause-bare : goal.returns-clause-bare
returns-clause-bare g c = drop_at_end g.t c.loop-at.ctx.tree c.args.region c.args.last.now c.requires.0 c.well_formed-3.ensures.tree c.requires.1.1.1 c.loop-at.at c.loop-at.invariant c.in_default.is
