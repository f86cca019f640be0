use Rattle.pliron_rewrite_inlining.proofs.Inlining.{inlining_law}
use Rattle.pliron_rewrite_inlining.proofs.calls_are_inlined.Goals as goal

pub returns : goal.returns
returns c = inlining_law
