use Rattle.std.proofs.Common.{[], ◌∷◌, Contains}
use Rattle.std.specs.List.{All}
use Rattle.pliron_graph_traversal.specs.Internal.Forest.{Grew}
use Rattle.pliron_graph_traversal.specs.Internal.Steps.{Unwinds, work}
use Rattle.pliron_graph_traversal.proofs.search.walk_over.Given as goal

abbrev pub invariant-loop-top : goal.invariant-loop-top
invariant-loop-top g l =
    let graph = g.G.ControlFlowGraph.graph l.graph l.ctx in
    record {
      rest : (p q : _) → Unwinds g.G.Node.PartialEq.eq graph l.stack.items (g.S.ListedSet.listed l.seen) l.post.items p q → Grew g.G.Node.PartialEq.eq graph (l.fn.root ∷ []) (g.S.ListedSet.listed l.fn.seen) l.fn.post.items p q;
      nodes : All (λ e. Contains graph.nodes e.0) l.stack.items;
    }

abbrev pub decreases-loop-top : goal.decreases-loop-top
decreases-loop-top g l = work g.G.Node.PartialEq.eq (g.G.ControlFlowGraph.graph l.graph l.ctx) l.stack.items (g.S.ListedSet.listed l.seen)
