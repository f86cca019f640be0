use Rattle.pliron_rewrite_blocks.proofs.JoinedLinks.{joined_links}
use Rattle.pliron_rewrite_blocks.proofs.links.joining_keeps_links.Goals as goal

pub returns : goal.returns
returns c = joined_links
