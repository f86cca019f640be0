use Rattle.pliron_rewrite_copies.proofs.CopiedKeeps.{joined_keeps}
use Rattle.pliron_rewrite_copies.proofs.copies_are_joined.Goals as goal

pub returns : goal.returns
returns c = joined_keeps
