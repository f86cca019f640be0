use Rattle.pliron_rewrite_inlining.proofs.InlinedRoots.{inlined_roots}
use Rattle.pliron_rewrite_inlining.proofs.inlined_roots_stay_fit.Goals as goal

pub returns : goal.returns
returns c = inlined_roots
