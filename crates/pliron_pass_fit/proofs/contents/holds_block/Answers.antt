use Rattle.std.proofs.Common.{◌≡◌, Some, sym, ◌∙◌, ap, subst}
use Rattle.std.proofs.lemmas.Option.{same_Some}
use Rattle.pliron_core.specs.Tree.{IsWithin, block_parent_operation_of, region_parent_of, up_from}
use Rattle.pliron_pass_fit.proofs.ContentsLemmas.{listed_within}
use Rattle.pliron_pass_fit.proofs.contents.holds_block.Goals as goal

pub returns : goal.returns
returns c =
    let t = c.args.ctx.now.tree in
    let holder = c.get_parent_op.result in
    let listed = listed_within t c.well_formed-2.ensures.tree c.args.root c.args.contents.now.keys c.requires.contents holder in
    let up : block_parent_operation_of t c.args.block ≡ Some holder = ap (λ o. up_from o (λ r. region_parent_of t r)) c.region_of.ensures ∙ c.get_parent_op.ensures.parent in
    (λ e. (holder, up, listed.0 (sym c.contains.ensures ∙ e)), λ held. c.contains.ensures ∙ listed.1 (subst (IsWithin t c.args.root) (same_Some held.0 holder (sym held.1 ∙ up)) held.2))
