use Rattle.pliron_rewrite_copies.proofs.CopiedKeeps.{copies_keep}
use Rattle.pliron_rewrite_copies.proofs.blocks_are_copied.Goals as goal

pub returns : goal.returns
returns c = copies_keep
