use Rattle.pliron_rewrite_blocks.proofs.ReplacedInside.{replaced_argument}
use Rattle.pliron_rewrite_blocks.proofs.inside.replacing_changes_inside.Goals as goal

pub returns : goal.returns
returns c = replaced_argument
