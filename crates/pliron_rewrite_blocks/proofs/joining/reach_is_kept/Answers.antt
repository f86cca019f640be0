use Rattle.pliron_rewrite_blocks.proofs.JoinedReach.{reaching}
use Rattle.pliron_rewrite_blocks.proofs.joining.reach_is_kept.Goals as goal

pub returns : goal.returns
returns c = reaching
