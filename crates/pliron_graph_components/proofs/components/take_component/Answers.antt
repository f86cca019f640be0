use Rattle.pliron_graph_traversal.specs.Search.{IsListed}
use Rattle.pliron_graph_components.proofs.PartLemmas.{part_within, part_all, members, taken}
use Rattle.pliron_graph_components.proofs.components.take_component.Goals as goal

pub last_by_falling_number-requires-clause-distinct : goal.last_by_falling_number-requires-clause-distinct
last_by_falling_number-requires-clause-distinct g c = c.in_ok-collect.ensures.collected.distinct

pub last_by_falling_number-requires-clause-listed : goal.last_by_falling_number-requires-clause-listed
last_by_falling_number-requires-clause-listed g c =
    let eq = g.G.Node.PartialEq.eq in
    let graph = g.G.ControlFlowGraph.graph c.args.graph.now c.args.ctx.now in
    let lawful = g.met.G.ControlFlowGraph.laws c.args.graph.now c.args.ctx.now c.requires.lawful in
    part_all g.G.Node.PartialEq.eq g.met.G.Node.Eq.laws lawful.same graph c.args.root (g.S.ListedSet.listed c.args.held.now) (g.S.ListedSet.listed c.collect.new.held) c.in_ok-collect.ensures.collected c.len-first.result c.len-first.ensures.len (IsListed eq (g.S.ListedSet.listed c.args.pre.now)) c.requires.listed

pub last_by_falling_number-requires-clause-within : goal.last_by_falling_number-requires-clause-within
last_by_falling_number-requires-clause-within g c =
    let graph = g.G.ControlFlowGraph.graph c.args.graph.now c.args.ctx.now in
    let lawful = g.met.G.ControlFlowGraph.laws c.args.graph.now c.args.ctx.now c.requires.lawful in
    part_within g.G.Node.PartialEq.eq g.met.G.Node.Eq.laws lawful.same graph c.args.root (g.S.ListedSet.listed c.args.held.now) (g.S.ListedSet.listed c.collect.new.held) c.in_ok-collect.ensures.collected c.len-first.result c.len-first.ensures.len

pub is_cyclic-requires-clause-members : goal.is_cyclic-requires-clause-members
is_cyclic-requires-clause-members g c =
    let graph = g.G.ControlFlowGraph.graph c.args.graph.now c.args.ctx.now in
    let lawful = g.met.G.ControlFlowGraph.laws c.args.graph.now c.args.ctx.now c.requires.lawful in
    members g.G.Node.PartialEq.eq g.met.G.Node.Eq.laws lawful.same graph c.args.root (g.S.ListedSet.listed c.args.held.now) (g.S.ListedSet.listed c.collect.new.held) c.in_ok-collect.ensures.collected c.len-first.result c.len-first.ensures.len c.deref.result.now c.last_by_falling_number.new.nodes.items c.deref.ensures.value c.in_ok-last_by_falling_number.ensures.same_nodes

pub returns-clause-taken : goal.returns-clause-taken
returns-clause-taken g c =
    let graph = g.G.ControlFlowGraph.graph c.args.graph.now c.args.ctx.now in
    let lawful = g.met.G.ControlFlowGraph.laws c.args.graph.now c.args.ctx.now c.requires.lawful in
    taken g.G.Node.PartialEq.eq g.met.G.Node.Eq.laws lawful.same graph c.args.root (g.S.ListedSet.listed c.args.held.now) (g.S.ListedSet.listed c.collect.new.held) c.in_ok-collect.ensures.collected c.len-first.result c.len-first.ensures.len (g.S.ListedSet.listed c.args.pre.now) (record { nodes = c.last_by_falling_number.new.nodes; is_cyclic = c.is_cyclic.result }) c.deref.result.now c.deref.ensures.value c.in_ok-last_by_falling_number.ensures.same_nodes c.in_ok-last_by_falling_number.ensures.descends c.is_cyclic.ensures
