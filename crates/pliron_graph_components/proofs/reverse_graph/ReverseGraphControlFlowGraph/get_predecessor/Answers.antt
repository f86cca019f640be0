use Rattle.std.proofs.Common.{◌≡◌, ◌<◌, Some, length, slice_get, ap, arith, refl, subst}
use Rattle.std.proofs.lemmas.Option.{slice_get_read}
use Rattle.pliron_graph_components.specs.Reverse.{reverse_pred}
use Rattle.pliron_graph_components.proofs.ReverseLemmas.{kept_node, kept_list}
use Rattle.pliron_graph_components.proofs.reverse_graph.ReverseGraphControlFlowGraph.get_predecessor.Goals as goal

pub predecessors_of-requires-clause-listed : goal.predecessors_of-requires-clause-listed
predecessors_of-requires-clause-listed g c =
    let graph = g.G.ControlFlowGraph.graph c.args.self.now.original c.args._ctx.now in
    let lawful = g.met.G.ControlFlowGraph.laws c.args.self.now.original c.args._ctx.now c.requires.lawful.0 in
    kept_node g.G.Node.PartialEq.eq lawful.same g.met.G.Node.Eq.laws.refl graph c.args.self.now c.requires.lawful.1 c.args.node.now c.in-Real.v c.in-Real.is c.requires.member

pub offset_bounds-predecessors_of-i : goal.offset_bounds-predecessors_of-i
offset_bounds-predecessors_of-i g c =
    let graph = g.G.ControlFlowGraph.graph c.args.self.now.original c.args._ctx.now in
    let lawful = g.met.G.ControlFlowGraph.laws c.args.self.now.original c.args._ctx.now c.requires.lawful.0 in
    let list = kept_list g.G.Node.PartialEq.eq lawful.same g.met.G.Node.Eq.laws.refl graph c.args.self.now c.requires.lawful.1 c.args.node.now c.in-Real.v c.in-Real.is c.requires.member c.predecessors_of.result.now c.predecessors_of.ensures in
    omega (arith, c.requires.in_range, ap length list)

pub bounds-predecessors_of-i : goal.bounds-predecessors_of-i
bounds-predecessors_of-i g c =
    let graph = g.G.ControlFlowGraph.graph c.args.self.now.original c.args._ctx.now in
    let lawful = g.met.G.ControlFlowGraph.laws c.args.self.now.original c.args._ctx.now c.requires.lawful.0 in
    let list = kept_list g.G.Node.PartialEq.eq lawful.same g.met.G.Node.Eq.laws.refl graph c.args.self.now c.requires.lawful.1 c.args.node.now c.in-Real.v c.in-Real.is c.requires.member c.predecessors_of.result.now c.predecessors_of.ensures in
    omega (arith, c.requires.in_range, ap length list)

pub returns-in-Real : goal.returns-in-Real
returns-in-Real g c =
    let graph = g.G.ControlFlowGraph.graph c.args.self.now.original c.args._ctx.now in
    let eq = g.G.Node.PartialEq.eq in
    let lawful = g.met.G.ControlFlowGraph.laws c.args.self.now.original c.args._ctx.now c.requires.lawful.0 in
    let list : c.predecessors_of.result.now ≡ reverse_pred eq graph c.args.self.now.pre_sentinels c.args.node.now =
    kept_list eq lawful.same g.met.G.Node.Eq.laws.refl graph c.args.self.now c.requires.lawful.1 c.args.node.now c.in-Real.v c.in-Real.is c.requires.member c.predecessors_of.result.now c.predecessors_of.ensures in
    let within : c.args.i < length c.predecessors_of.result.now = omega (arith, c.requires.in_range, ap length list) in
    subst (λ xs. slice_get xs c.args.i ≡ Some c.index-predecessors_of-i.result) list
    (slice_get_read c.predecessors_of.result.now (length c.predecessors_of.result.now) c.args.i c.index-predecessors_of-i.result refl within c.index-predecessors_of-i.is)
