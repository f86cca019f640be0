use Rattle.std.proofs.Common.{map}
use Rattle.pliron_text_llvm_edges.proofs.PhiLemmas.{phis_fit}
use Rattle.pliron_text_llvm_edges.proofs.phis.push_phi.Goals as goal

pub returns-in_ok-push-clause-fit : goal.returns-in_ok-push-clause-fit
returns-in_ok-push-clause-fit c =
    phis_fit c.args.text.now c.args.reading.now (map (λ list. list.items) c.args.incoming.now) c.args.place c.edges_into-edges.result.now c.in_ok-phi.phi c.args.phis.now.items c.push.new.self.items c.requires c.edges_into-edges.ensures c.in_ok-phi.ensures.place c.in_ok-phi.ensures.fits c.in_ok-push.ensures.items
