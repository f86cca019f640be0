use Rattle.std.proofs.Common.{sym, subst}
use Rattle.pliron_graph_order.specs.Seen.{IsSeen}
use Rattle.pliron_graph_order.proofs.dominance_order.Goals as goal

pub in_preorder-requires-clause-all : goal.in_preorder-requires-clause-all
in_preorder-requires-clause-all c = λ k s. c.in_ok-numbering.ensures.all k (subst (λ z. IsSeen c.args.ctx.now.tree z k) c.in_ok-numbering.ensures.root s)
