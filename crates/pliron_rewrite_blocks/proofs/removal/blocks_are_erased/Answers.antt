use Rattle.pliron_rewrite_blocks.proofs.CutBlocks.{cut_all}
use Rattle.pliron_rewrite_blocks.proofs.removal.blocks_are_erased.Goals as goal

pub returns : goal.returns
returns c = cut_all
