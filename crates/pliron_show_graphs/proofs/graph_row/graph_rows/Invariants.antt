use Rattle.std.proofs.Common.{◌≡◌, map, take}
use Rattle.std.specs.List.{All}
use Rattle.pliron_show_graphs.specs.GraphRows.{IsRowOf}
use Rattle.pliron_show_graphs.proofs.graph_row.graph_rows.Given as goal

abbrev pub invariant-loop-node : goal.invariant-loop-node
invariant-loop-node g l =
    let graph = g.G.ControlFlowGraph.graph l.graph l.ctx in
    record {
      nodes : l.node-items ≡ graph.nodes;
      drawn : map (λ row. row.node) l.rows.items ≡ take l.node-index graph.nodes;
      each : All (IsRowOf graph) l.rows.items;
    }
