use Rattle.pliron_rewrite_blocks.proofs.RebranchedInside.{rebranched_inside}
use Rattle.pliron_rewrite_blocks.proofs.inside.replacing_branches_changes_inside.Goals as goal

pub returns : goal.returns
returns c = rebranched_inside
