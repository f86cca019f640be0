use Rattle.pliron_rewrite_copies.proofs.SplitKeeps.{split_keeps}
use Rattle.pliron_rewrite_copies.proofs.blocks_are_split.Goals as goal

pub returns : goal.returns
returns c = split_keeps
