use Rattle.pliron_rewrite_copies.proofs.AddedKeeps.{added_keeps}
use Rattle.pliron_rewrite_copies.proofs.arguments_are_added.Goals as goal

pub returns : goal.returns
returns c = added_keeps
