use Rattle.pliron_rewrite_blocks.proofs.LostLinks.{losing_links}
use Rattle.pliron_rewrite_blocks.proofs.links.losing_keeps_links.Goals as goal

pub returns : goal.returns
returns g c = losing_links _ _ _ _ g.met.D.Dialect.forwards_operands (λ h h' s. s.branch)
