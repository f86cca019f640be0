use Rattle.pliron_rewrite_blocks.proofs.PairEdges.{pair_leads}
use Rattle.pliron_rewrite_blocks.proofs.pairs.pairs_lead_alone.Goals as goal

pub returns : goal.returns
returns c = pair_leads
