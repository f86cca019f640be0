use Rattle.pliron_rewrite_blocks.proofs.CutLinks.{cut_inside}
use Rattle.pliron_rewrite_blocks.proofs.inside.removing_changes_inside.Goals as goal

pub returns : goal.returns
returns c = cut_inside
