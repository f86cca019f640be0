use Rattle.pliron_rewrite_copies.proofs.RenamedBack.{renamed_back}
use Rattle.pliron_rewrite_copies.proofs.operands_are_renamed_back.Goals as goal

pub returns : goal.returns
returns c = renamed_back
