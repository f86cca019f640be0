use Rattle.pliron_rewrite_copies.proofs.MovedKeeps.{moved_keeps}
use Rattle.pliron_rewrite_copies.proofs.edges_are_moved.Goals as goal

pub returns : goal.returns
returns c = moved_keeps
