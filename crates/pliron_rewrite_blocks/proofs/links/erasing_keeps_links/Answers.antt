use Rattle.pliron_rewrite_blocks.proofs.RewriteLinks.{swept_links, erased_links}
use Rattle.pliron_rewrite_blocks.proofs.links.erasing_keeps_links.Goals as goal

pub returns-clause-swept : goal.returns-clause-swept
returns-clause-swept c = swept_links

pub returns-clause-erased : goal.returns-clause-erased
returns-clause-erased c = erased_links
