use Rattle.std.proofs.Common.{◌∙◌, ap, arith}
use Rattle.pliron_text_llvm_trees.proofs.ArgumentLemmas.{arguments_more}
use Rattle.pliron_text_llvm_trees.proofs.arguments.push_arguments.Goals as goal

pub loop-phi-preserved : goal.loop-phi-preserved
loop-phi-preserved c =
    arguments_more c.args.reading.now.definitions.items c.args.phis.now c.loop-phi.phi-index c.phi-item.result c.in_ok-argument.argument _ _ (omega arith) c.loop-phi.invariant (c.in_ok-argument.ensures.place ∙ ap (λ phi. phi.place) c.phi-item.is)
    c.in_ok-argument.ensures.defined c.in_ok-push.ensures.items
