use Rattle.pliron_laws.proofs.LinkedLemmas.{linked_some}
use Rattle.pliron_theory.proofs.theory.folds_keep_links.Goals as goal

pub returns : goal.returns
returns c = linked_some
