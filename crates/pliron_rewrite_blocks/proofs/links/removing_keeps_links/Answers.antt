use Rattle.pliron_rewrite_blocks.proofs.CutLinks.{cut_links}
use Rattle.pliron_rewrite_blocks.proofs.links.removing_keeps_links.Goals as goal

pub returns : goal.returns
returns c = cut_links
