use Rattle.pliron_rewrite_blocks.proofs.RewriteLinks.{renamed_links, replaced_links}
use Rattle.pliron_rewrite_blocks.proofs.links.renaming_keeps_links.Goals as goal

pub returns-clause-renamed : goal.returns-clause-renamed
returns-clause-renamed c = renamed_links

pub returns-clause-replaced : goal.returns-clause-replaced
returns-clause-replaced c = replaced_links
