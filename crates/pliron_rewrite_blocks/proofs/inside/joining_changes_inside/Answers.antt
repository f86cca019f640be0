use Rattle.pliron_rewrite_blocks.proofs.JoinedLinks.{joined_inside}
use Rattle.pliron_rewrite_blocks.proofs.inside.joining_changes_inside.Goals as goal

pub returns : goal.returns
returns c = joined_inside
