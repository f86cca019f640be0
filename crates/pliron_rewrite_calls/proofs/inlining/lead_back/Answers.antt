use Rattle.std.proofs.Common.{◌≡◌, ℕ, List, length, [], ◌∷◌, ap, sym, ◌∙◌, subst}
use Rattle.pliron_core.specs.Tree.{In, IsBlock, operands_of}
use Rattle.pliron_dialect_calls.specs.Inlinable.{IsJumpHead}
use Rattle.pliron_laws.proofs.FoldLemmas.{on_err}
use Rattle.pliron_rewrite_calls.specs.CopyTables.{block_or_copy_in}
use Rattle.pliron_rewrite_calls.specs.InliningSteps.{IsJumpMade}
use Rattle.pliron_rewrite_calls.proofs.Growing.{live_grown}
use Rattle.pliron_rewrite_calls.proofs.ReturnsLed.{grown_undone}
use Rattle.pliron_rewrite_calls.proofs.ReturnLoops.{are_ready, entry_stands, operands_stay, first_is}
use Rattle.pliron_rewrite_calls.proofs.inlining.lead_back.Goals as goal

pub all_operands-requires : goal.all_operands-requires
all_operands-requires g c = live_grown g.x.tree c.replace_returns.new.ctx.tree g.x.region c.requires.1.1.0.tree c.replace_returns.ensures.grown c.args.site.call c.requires.1.1.1.1.1.1.1.1.1.0

pub make_jump-requires-clause-values : goal.make_jump-requires-clause-values
make_jump-requires-clause-values g c = λ v i. c.well_formed-3.ensures.tree.joined.operands c.args.site.call v (subst (In v) (c.as_slice.ensures.value ∙ c.in_ok-values.ensures) i)

pub make_jump-requires-clause-target : goal.make_jump-requires-clause-target
make_jump-requires-clause-target g c =
    let r = are_ready g.x c.requires.1.1.0 c.args.blocks.now c.requires.1.1.1.0 c.args.ctx.now.tree c.well_formed-2.ensures.tree c.args.copies.now c.requires.1.1.1.1.0 c.requires.1.1.1.1.1.0 c.requires.1.1.1.1.1.1.0 in
    let a = c.in_ok-replace_returns.ensures.led in
    subst (IsBlock c.replace_returns.new.ctx.tree) (sym c.block_or_copy-entry.ensures) (entry_stands g.x.tree c.args.ctx.now.tree g.x.region c.args.blocks.now c.args.copies.now r g.D.HasMeaning.meaning g.D.InliningDialect.returns c.replace_returns.new.ctx.tree c.args.site.after a.0 a.1 c.index-blocks-0.result c.requires.1.1.1.1.1.1.1.1.1.1 c.index-blocks-0.is)

pub returns-in_err-jump-clause-grown : goal.returns-in_err-jump-clause-grown
returns-in_err-jump-clause-grown g c = on_err _ c.from_residual-in_err-jump.result (grown_undone g.x.tree c.replace_returns.new.ctx.tree c.make_jump.new.ctx.tree g.x.region c.replace_returns.ensures.grown c.in_err-jump.ensures.refused)

pub returns-clause-led : goal.returns-clause-led
returns-clause-led g c =
    let led = c.replace_returns.new.ctx.tree in
    let a = c.in_ok-replace_returns.ensures.led in
    let items : c.in_ok-values.values.items ≡ operands_of g.x.tree c.args.site.call = c.in_ok-values.ensures ∙ operands_stay g.x.tree led g.x.region c.args.site.call c.requires.1.1.1.1.1.1.1.1.1.0 c.replace_returns.ensures.grown in
    let made : IsJumpMade led c.make_jump.new.ctx.tree c.in_ok-jump.jump c.in_ok-head.head (operands_of g.x.tree c.args.site.call) (block_or_copy_in c.args.copies.now c.index-blocks-0.result ∷ []) =
    subst (λ b. IsJumpMade led c.make_jump.new.ctx.tree c.in_ok-jump.jump c.in_ok-head.head (operands_of g.x.tree c.args.site.call) (b ∷ [])) c.block_or_copy-entry.ensures
    (subst (λ (xs : List ℕ). IsJumpMade led c.make_jump.new.ctx.tree c.in_ok-jump.jump c.in_ok-head.head xs (c.block_or_copy-entry.result ∷ [])) (c.as_slice.ensures.value ∙ items) c.in_ok-jump.ensures.made) in (
      c.index-blocks-0.result,
      first_is c.args.blocks.now c.index-blocks-0.result c.requires.1.1.1.1.1.1.1.1.1.1 c.index-blocks-0.is,
      record {
        led = led;
        tree = c.well_formed-3.ensures.tree;
        olds = a.0;
        returns_led = a.1;
        head = c.in_ok-head.head;
        jumps = subst (λ n. IsJumpHead g.D.HasMeaning.meaning n c.in_ok-head.head) (c.len.ensures ∙ sym c.as_slice.ensures.len ∙ ap length (c.as_slice.ensures.value ∙ items)) c.in_ok-head.ensures.jump;
        made = made;
      },
    )
