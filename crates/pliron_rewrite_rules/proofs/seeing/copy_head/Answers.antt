use Rattle.std.proofs.Common.{◌∷◌, [], ◌++◌, take, sym, ap, ◌∙◌}
use Rattle.pliron_rewrite_rules.proofs.ShownLemmas.{take_one}
use Rattle.pliron_rewrite_rules.proofs.seeing.copy_head.Goals as goal

pub loop-i-preserved : goal.loop-i-preserved
loop-i-preserved c =
    let xs = c.args.head.now.attrs in
    c.in_ok-push.ensures.items
    ∙ ap (λ z. z ++ c.in_ok-attr.attr ∷ []) c.loop-i.invariant
    ∙ ap (λ a. take c.loop-i.i xs ++ a ∷ []) c.in_ok-attr.ensures
    ∙ sym (take_one xs c.loop-i.i c.get.result.now c.get.ensures)
