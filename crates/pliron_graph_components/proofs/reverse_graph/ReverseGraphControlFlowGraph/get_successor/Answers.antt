use Rattle.std.proofs.Common.{◌≡◌, ◌<◌, length, ap, refl, ◌∙◌, subst}
use Rattle.std.proofs.lemmas.List.{length-map}
use Rattle.std.proofs.lemmas.Option.{slice_get_read}
use Rattle.pliron_graph_components.specs.Reverse.{reverse_succ}
use Rattle.pliron_graph_components.specs.declared.reverse_node.ReverseNode.TheVariants.{Real}
use Rattle.pliron_graph_components.proofs.ReverseLemmas.{real_node, mapped_at}
use Rattle.pliron_graph_components.proofs.reverse_graph.ReverseGraphControlFlowGraph.get_successor.Goals as goal

pub get_predecessor-requires-clause-member : goal.get_predecessor-requires-clause-member
get_predecessor-requires-clause-member g c =
    let original : c.self.inside.original.now ≡ c.args.self.now.original = ap (λ r. r.original) c.self.view_is in
    rw original (real_node (g.G.ControlFlowGraph.graph c.args.self.now.original c.args.ctx.now).nodes c.args.node.now c.in-Real.v c.in-Real.is c.requires.member)

pub returns-in-Sentinel : goal.returns-in-Sentinel
returns-in-Sentinel g c =
    let graph = g.G.ControlFlowGraph.graph c.args.self.now.original c.args.ctx.now in
    let starts = c.args.self.now.pre_sentinels in
    let kept : c.as_slice.result.now ≡ c.args.self.now.pre_sentinels = c.as_slice.ensures.keys ∙ ap (λ r. r.pre_sentinels) c.self.view_is in
    let within : c.args.i < length c.args.self.now.pre_sentinels =
    subst (λ n. c.args.i < n) (ap (λ n. length (reverse_succ graph starts n)) c.in-Sentinel.is ∙ length-map starts Real) c.requires.in_range in
    rw c.in-Sentinel.is (mapped_at Real starts c.args.i c.index-as_slice-i.result (slice_get_read starts (length starts) c.args.i c.index-as_slice-i.result refl within (rw (← kept) c.index-as_slice-i.is)))

pub returns-in-Real : goal.returns-in-Real
returns-in-Real g c =
    let original : c.self.inside.original.now ≡ c.args.self.now.original = ap (λ r. r.original) c.self.view_is in
    rw (c.in-Real.is, ← original) (mapped_at Real ((g.G.ControlFlowGraph.graph c.self.inside.original.now c.args.ctx.now).pred c.in-Real.v) c.args.i c.get_predecessor.result c.get_predecessor.ensures)
