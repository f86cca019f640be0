use Rattle.pliron_rewrite_blocks.proofs.LeftBlocks.{leaving}
use Rattle.pliron_rewrite_blocks.proofs.removal.blocks_go.Goals as goal

pub returns : goal.returns
returns c = leaving
