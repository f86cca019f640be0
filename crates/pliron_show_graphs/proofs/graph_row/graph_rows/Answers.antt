use Rattle.pliron_show_graphs.specs.GraphRows.{IsRowOf}
use Rattle.pliron_show_graphs.proofs.RowLemmas.{drawn_more, each_more}
use Rattle.pliron_show_graphs.proofs.graph_row.graph_rows.Goals as goal
use Rattle.std.proofs.Common.{rules}

pub loop-node-preserved : goal.loop-node-preserved
loop-node-preserved g c =
    let graph = g.G.ControlFlowGraph.graph c.args.graph.now c.args.ctx.now in
    let before = c.loop-node.invariant in
    let pushed = c.in_ok-push.ensures.items in
    let row = c.in_ok-row_of.field-0 in
    record {
      nodes = before.nodes;
      drawn = drawn_more (λ row. row.node) c.loop-node.rows.items c.push.new.self.items row c.deref-node-items.result.now graph.nodes c.loop-node.node-index c.node-item.result pushed c.in_ok-row_of.ensures.node before.nodes c.loop-node-test.true c.node-item.is before.drawn;
      each = each_more (IsRowOf graph) c.loop-node.rows.items c.push.new.self.items row pushed before.each c.in_ok-row_of.ensures.row;
    }

pub returns-in_err-push-clause-memory : goal.returns-in_err-push-clause-memory
returns-in_err-push-clause-memory g c = search (rules, c.from_residual-in_err-push.ensures)
