use Rattle.pliron_rewrite_copies.proofs.BlocksMade.{blocks_made}
use Rattle.pliron_rewrite_copies.proofs.blocks_are_made.Goals as goal

pub returns : goal.returns
returns c = blocks_made
