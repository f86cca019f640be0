use Rattle.std.proofs.Common.{None}
use Rattle.pliron_opt_cfg.proofs.KnownLemmas.{replicated_more}
use Rattle.pliron_opt_cfg.proofs.folding.known.nothing_known.Goals as goal

pub loop-i-preserved : goal.loop-i-preserved
loop-i-preserved c = replicated_more c.loop-i._i None c.loop-i.entries.items c.push.new.self.items c.loop-i.invariant c.in_ok-push.ensures.items
