use Rattle.std.proofs.Common.{◌++◌, ◌∷◌, [], take, ap, sym, ◌∙◌, append_assoc}
use Rattle.pliron_core.specs.Tree.{operands_of}
use Rattle.pliron_graph_order.proofs.NumberLemmas.{take_next}
use Rattle.pliron_opt_cse.proofs.keys.push_values.Goals as goal

pub loop-i-preserved : goal.loop-i-preserved
loop-i-preserved c =
    let xs = operands_of c.args.ctx.now.tree c.args.op in
    let old = c.args.words.now.items in
    let i = c.loop-i.i in
    c.in_ok-push.ensures.items ∙ ap (λ z. z ++ c.key.result ∷ []) c.loop-i.invariant ∙ append_assoc old (take i xs) (c.key.result ∷ [])
    ∙ ap (λ z. old ++ z) (ap (λ z. take i xs ++ z ∷ []) c.key.ensures ∙ sym (take_next xs i c.get_operand.result c.get_operand.ensures.operand))
