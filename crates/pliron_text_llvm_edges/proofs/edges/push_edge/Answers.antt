use Rattle.pliron_text_llvm_edges.proofs.EdgeLemmas.{edges_lead}
use Rattle.pliron_text_llvm_edges.proofs.edges.push_edge.Goals as goal

pub returns-in_ok-push-clause-leads : goal.returns-in_ok-push-clause-leads
returns-in_ok-push-clause-leads c =
    edges_lead c.args.reading.now c.in_ok-edge_by.field-0 c.args.edges.now.items c.push.new.self.items c.requires c.in_ok-edge_by.ensures.leads c.in_ok-push.ensures.items
