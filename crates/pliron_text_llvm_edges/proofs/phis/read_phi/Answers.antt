use Rattle.pliron_text_llvm_edges.proofs.PhiLemmas.{phi_fits}
use Rattle.pliron_text_llvm_edges.proofs.phis.read_phi.Goals as goal

pub returns-clause-fits : goal.returns-clause-fits
returns-clause-fits c =
    phi_fits c.args.text.now c.args.reading.now c.args.incoming.now c.in-Some.statement.now (record { place = c.args.place; entries = c.in_ok-entries.entries }) (rw c.deref.ensures.value at c.in-Some.ensures) c.in_ok-entries.ensures.entries c.in_ok-entries.ensures.blocks c.in_ok-entries.ensures.values
