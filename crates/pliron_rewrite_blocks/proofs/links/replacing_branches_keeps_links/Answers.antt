use Rattle.pliron_rewrite_blocks.proofs.RebranchedLinks.{rebranched_links}
use Rattle.pliron_rewrite_blocks.proofs.links.replacing_branches_keeps_links.Goals as goal

pub returns : goal.returns
returns c = rebranched_links
