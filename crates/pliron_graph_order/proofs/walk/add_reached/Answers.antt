use Rattle.std.proofs.Common.{subst}
use Rattle.pliron_core.specs.Tree.{body_of}
use Rattle.pliron_graph_order.specs.Numbering.{tables_of, AreTaken}
use Rattle.pliron_graph_order.proofs.StepLemmas.{reached_done}
use Rattle.pliron_graph_order.proofs.TreeLemmas.{reached_node}
use Rattle.pliron_graph_order.proofs.walk.add_reached.Goals as goal

pub returns-clause-done : goal.returns-clause-done
returns-clause-done c =
    let t = c.args.ctx.now.tree in
    let new = tables_of c.add_blocks.new.numbering in
    reached_done t c.well_formed-2.ensures.tree new c.args.region c.requires.dominance
    (λ b x.
    let k = reached_node t c.args.region c.requires.waiting.lawful c.in_ok-tree.tree c.well_formed-3.ensures c.in_ok-tree.ensures.gives b x in
    subst (λ z. AreTaken t new (body_of t z)) k.2 (c.in_ok-add_blocks.ensures.taken k.0 k.1))
