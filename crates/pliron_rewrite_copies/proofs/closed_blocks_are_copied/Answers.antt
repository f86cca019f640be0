use Rattle.pliron_rewrite_copies.proofs.BlockCopied.{block_copied_keeps}
use Rattle.pliron_rewrite_copies.proofs.closed_blocks_are_copied.Goals as goal

pub returns : goal.returns
returns c = block_copied_keeps
