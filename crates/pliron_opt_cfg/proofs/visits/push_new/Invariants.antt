use Rattle.std.proofs.Common.{take}
use Rattle.pliron_opt_cfg.specs.Internal.Seen.{HasGrown}
use Rattle.pliron_opt_cfg.proofs.visits.push_new.Given as goal

abbrev pub invariant-loop-region : goal.invariant-loop-region
invariant-loop-region l = HasGrown (take l.region-index l.regions) l.fn.worklist.seen.keys l.fn.worklist.waiting.items l.worklist.seen.keys l.worklist.waiting.items
