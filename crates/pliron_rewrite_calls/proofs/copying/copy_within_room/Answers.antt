use Rattle.std.proofs.Common.{rules, ◌≡◌, None, sym, ap, ◌∙◌, subst}
use Rattle.pliron_core.specs.Tree.{Tree, IsRegion, layout_of, last_of}
use Rattle.pliron_rewrite_calls.specs.CopySteps.{IsGrownIn}
use Rattle.pliron_rewrite_calls.proofs.copying.copy_within_room.Goals as goal

pub get_tail-last-requires : goal.get_tail-last-requires
get_tail-last-requires g c =
    subst (IsRegion c.args.ctx.now.tree) c.requires.1.1.1.1.1 (subst (λ (z : Tree). IsRegion z g.x.region) c.requires.1.1.0 c.requires.1.0.into)

pub erase_new_blocks-requires : goal.erase_new_blocks-requires
erase_new_blocks-requires g c =
    let tree = c.requires.1.0.tree in
    let into : IsRegion g.x.tree c.args.region = subst (IsRegion g.x.tree) c.requires.1.1.1.1.1 c.requires.1.0.into in
    let grown : IsGrownIn g.x.tree c.make_copies.new.ctx.tree c.args.region = subst (IsGrownIn g.x.tree c.make_copies.new.ctx.tree) c.requires.1.1.1.1.1 c.make_copies.ensures.grown in
    let last : c.get_tail-last.result ≡ last_of None (layout_of g.x.tree c.args.region) = c.get_tail-last.ensures.last ∙ ap (λ (z : Tree). last_of None (layout_of z c.args.region)) (sym c.requires.1.1.0) in
    search rules
