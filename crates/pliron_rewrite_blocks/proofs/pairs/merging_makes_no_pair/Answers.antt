use Rattle.pliron_rewrite_blocks.proofs.NoNewPairs.{no_new_pair, no_new_by_uses}
use Rattle.pliron_rewrite_blocks.proofs.pairs.merging_makes_no_pair.Goals as goal

pub returns-clause-joined : goal.returns-clause-joined
returns-clause-joined c = no_new_pair

pub returns-clause-replaced : goal.returns-clause-replaced
returns-clause-replaced c = no_new_by_uses
