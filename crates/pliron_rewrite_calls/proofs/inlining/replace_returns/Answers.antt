use Rattle.std.proofs.Common.{◌<◌, ◌≤◌, length, [], refl, sym, ◌∙◌, subst, arith}
use Rattle.pliron_core.specs.Tree.{In, IsBlock}
use Rattle.pliron_rewrite_calls.specs.InliningSteps.{AreReturnsBare, IsReturnLed}
use Rattle.pliron_rewrite_calls.proofs.ReturnsLed.{led_none, grown_undone}
use Rattle.pliron_rewrite_calls.proofs.ReturnLoops.{are_ready, here, copy_stands, after_stands, bare_still, led_next, grown_next, led_all}
use Rattle.pliron_rewrite_calls.proofs.inlining.replace_returns.Goals as goal

pub loop-i-init : goal.loop-i-init
loop-i-init g c = record {
  led = ([], led_none g.D.HasMeaning.meaning g.D.InliningDialect.returns c.args.ctx.now.tree c.args.after);
  grown = c.requires.1.1.1.1.1.1.0;
  point = refl;
}

pub replace_return-requires-clause-block : goal.replace_return-requires-clause-block
replace_return-requires-clause-block g c =
    let lt : c.loop-i.i < length c.args.blocks.now = omega arith in
    let r = are_ready g.x c.requires.1.1.0 c.args.blocks.now c.requires.1.1.1.0 c.args.ctx.now.tree c.well_formed-2.ensures.tree c.args.copies.now c.requires.1.1.1.1.0 c.requires.1.1.1.1.1.0 c.requires.1.1.1.1.1.1.0 in
    let a = c.loop-i.invariant.led in
    subst (IsBlock c.loop-i.ctx.tree) (sym c.block_or_copy-copy.ensures) (copy_stands g.x.tree c.args.ctx.now.tree g.x.region c.args.blocks.now c.args.copies.now r c.loop-i.i c.index-blocks-i.result lt c.index-blocks-i.is g.D.HasMeaning.meaning g.D.InliningDialect.returns c.loop-i.ctx.tree c.args.after a.0 a.1)

pub replace_return-requires-clause-after : goal.replace_return-requires-clause-after
replace_return-requires-clause-after g c =
    let lt : c.loop-i.i < length c.args.blocks.now = omega arith in
    let r = are_ready g.x c.requires.1.1.0 c.args.blocks.now c.requires.1.1.1.0 c.args.ctx.now.tree c.well_formed-2.ensures.tree c.args.copies.now c.requires.1.1.1.1.0 c.requires.1.1.1.1.1.0 c.requires.1.1.1.1.1.1.0 in
    let a = c.loop-i.invariant.led in
    after_stands g.x.tree c.args.ctx.now.tree g.x.region c.args.blocks.now c.args.copies.now r c.loop-i.i c.index-blocks-i.result lt c.index-blocks-i.is g.D.HasMeaning.meaning g.D.InliningDialect.returns c.loop-i.ctx.tree c.args.after a.0 a.1 c.requires.1.1.1.1.1.1.1.0

pub replace_return-requires-clause-bare : goal.replace_return-requires-clause-bare
replace_return-requires-clause-bare g c =
    let lt : c.loop-i.i < length c.args.blocks.now = omega arith in
    let r = are_ready g.x c.requires.1.1.0 c.args.blocks.now c.requires.1.1.1.0 c.args.ctx.now.tree c.well_formed-2.ensures.tree c.args.copies.now c.requires.1.1.1.1.0 c.requires.1.1.1.1.1.0 c.requires.1.1.1.1.1.1.0 in
    let a = c.loop-i.invariant.led in
    let i : In c.index-blocks-i.result g.x.blocks = subst (In c.index-blocks-i.result) (sym c.requires.1.1.1.0) (here g.x.tree c.args.ctx.now.tree g.x.region c.args.blocks.now c.args.copies.now r c.loop-i.i c.index-blocks-i.result lt c.index-blocks-i.is) in
    subst (AreReturnsBare g.D.InliningDialect.returns c.loop-i.ctx.tree) (sym c.block_or_copy-copy.ensures) (bare_still g.x.tree c.args.ctx.now.tree g.x.region c.args.blocks.now c.args.copies.now r c.loop-i.i c.index-blocks-i.result lt c.index-blocks-i.is g.D.HasMeaning.meaning g.D.InliningDialect.returns c.loop-i.ctx.tree c.args.after a.0 a.1 (c.requires.1.1.1.1.1.1.1.1 c.index-blocks-i.result i))

pub loop-i-preserved : goal.loop-i-preserved
loop-i-preserved g c =
    let lt : c.loop-i.i < length c.args.blocks.now = omega arith in
    let r = are_ready g.x c.requires.1.1.0 c.args.blocks.now c.requires.1.1.1.0 c.args.ctx.now.tree c.well_formed-2.ensures.tree c.args.copies.now c.requires.1.1.1.1.0 c.requires.1.1.1.1.1.0 c.requires.1.1.1.1.1.1.0 in
    let a = c.loop-i.invariant.led in
    let one = subst (λ z. IsReturnLed g.D.HasMeaning.meaning g.D.InliningDialect.returns c.loop-i.ctx.tree c.replace_return.new.ctx.tree z c.args.after) c.block_or_copy-copy.ensures c.in_ok-replace_return.ensures.ok in
    record {
      led = led_next g.x.tree c.args.ctx.now.tree g.x.region c.args.blocks.now c.args.copies.now r c.loop-i.i c.index-blocks-i.result lt c.index-blocks-i.is g.D.HasMeaning.meaning g.D.InliningDialect.returns c.loop-i.ctx.tree c.args.after a.0 a.1 c.replace_return.new.ctx.tree c.well_formed-in-loop-i.ensures.tree one;
      grown = grown_next g.x.tree c.args.ctx.now.tree g.x.region c.args.blocks.now c.args.copies.now r c.loop-i.i c.index-blocks-i.result lt c.index-blocks-i.is g.D.HasMeaning.meaning g.D.InliningDialect.returns c.loop-i.ctx.tree c.args.after a.0 a.1 c.replace_return.new.ctx.tree c.well_formed-in-loop-i.ensures.tree one c.loop-i.invariant.grown;
      point = c.replace_return.ensures.point ∙ c.loop-i.invariant.point;
    }

pub returns-in_err-replace_return-clause-grown : goal.returns-in_err-replace_return-clause-grown
returns-in_err-replace_return-clause-grown g c = grown_undone g.x.tree c.loop-i.ctx.tree c.replace_return.new.ctx.tree g.x.region c.loop-i.invariant.grown c.in_err-replace_return.ensures.refused

pub returns-clause-led : goal.returns-clause-led
returns-clause-led g c =
    let le : length c.args.blocks.now ≤ c.loop-i.i = omega arith in
    led_all g.D.HasMeaning.meaning g.D.InliningDialect.returns c.args.ctx.now.tree c.loop-i.ctx.tree c.args.after c.loop-i.i c.args.blocks.now c.args.copies.now le c.loop-i.invariant.led
