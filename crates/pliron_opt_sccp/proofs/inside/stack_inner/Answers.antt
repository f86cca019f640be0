use Rattle.std.proofs.Common.{◌++◌, reverse, sym, ap, ◌∙◌, append-nil}
use Rattle.pliron_opt_sccp.proofs.inside.stack_inner.Goals as goal

pub returns-then-is_leaf-clause-ok : goal.returns-then-is_leaf-clause-ok
returns-then-is_leaf-clause-ok c =
    sym (ap (λ z. c.args.stack.now.items ++ reverse z) (c.is_leaf.ensures c.if-is_leaf.true) ∙ append-nil c.args.stack.now.items)
