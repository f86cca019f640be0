use Rattle.std.proofs.Common.{rules, ◌≡◌, None, List, ℕ, ap, sym, ◌∙◌, subst}
use Rattle.pliron_core.specs.Tree.{Tree, IsRegion, layout_of, last_of, first_of, operands_of}
use Rattle.pliron_rewrite_calls.specs.CopySteps.{IsGrownIn}
use Rattle.pliron_rewrite_calls.specs.InliningSteps.{IsLedBack}
use Rattle.pliron_rewrite_calls.proofs.inlining.copy_and_lead_back.Goals as goal

pub get_tail-last-requires : goal.get_tail-last-requires
get_tail-last-requires g c =
    subst (IsRegion c.args.ctx.now.tree) c.requires.1.1.1.1.1.1.0 (subst (λ (z : Tree). IsRegion z g.x.region) c.requires.1.1.1.0 c.requires.1.1.0.into)

pub copy_within_room-requires : goal.copy_within_room-requires
copy_within_room-requires g c =
    let may = c.requires.1.1.0 in
    let tree = c.requires.1.1.1.0 in
    let blocks = c.requires.1.1.1.1.0 in
    let operations = c.requires.1.1.1.1.1.0 in
    let region = c.requires.1.1.1.1.1.1.0 in
    search rules

pub lead_back-requires : goal.lead_back-requires
lead_back-requires g c =
    let may = c.requires.1.1.0 in
    let blocks = c.requires.1.1.1.1.0 in
    let copied = c.in_ok-copies.ensures.ok in
    let known = c.in_ok-copies.ensures.copies in
    let grown = c.in_ok-copies.ensures.grown in
    let rest = c.requires.1.1.1.1.1.1.1 in
    search rules

pub returns-in-Ok-clause-led : goal.returns-in-Ok-clause-led
returns-in-Ok-clause-led g c =
    let l = c.in-Ok.ensures.led in
    let same = sym c.requires.1.1.1.1.0 in (
      l.0,
      ap (λ (bs : List ℕ). first_of bs None) c.requires.1.1.1.1.0 ∙ l.1,
      record {
        copied = c.copy_within_room.new.ctx.tree;
        copies = c.in_ok-copies.copies;
        are_copied = c.in_ok-copies.ensures.ok;
        known = c.in_ok-copies.ensures.copies;
        tree = c.well_formed-2.ensures.tree;
        grown = c.in_ok-copies.ensures.grown;
        led_back = subst (λ bs. IsLedBack g.D.HasMeaning.meaning g.D.InliningDialect.returns c.copy_within_room.new.ctx.tree c.lead_back.new.ctx.tree c.in_ok-copies.copies bs c.args.site.after (operands_of g.x.tree c.args.site.call) l.0 c.in-Ok.jump) same l.2;
      },
    )

pub erase_new_blocks-requires : goal.erase_new_blocks-requires
erase_new_blocks-requires g c =
    let tree = c.requires.1.1.0.tree in
    let into : IsRegion g.x.tree c.args.site.region = subst (IsRegion g.x.tree) c.requires.1.1.1.1.1.1.0 c.requires.1.1.0.into in
    let grown : IsGrownIn g.x.tree c.lead_back.new.ctx.tree c.args.site.region = subst (IsGrownIn g.x.tree c.lead_back.new.ctx.tree) c.requires.1.1.1.1.1.1.0 c.in-Err.ensures.grown in
    let last : c.get_tail-last.result ≡ last_of None (layout_of g.x.tree c.args.site.region) = c.get_tail-last.ensures.last ∙ ap (λ (z : Tree). last_of None (layout_of z c.args.site.region)) (sym c.requires.1.1.1.0) in
    search rules
