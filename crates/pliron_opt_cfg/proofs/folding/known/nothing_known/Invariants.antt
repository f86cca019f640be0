use Rattle.std.proofs.Common.{◌≡◌, None, replicate}
use Rattle.pliron_opt_cfg.proofs.folding.known.nothing_known.Given as goal

abbrev pub invariant-loop-i : goal.invariant-loop-i
invariant-loop-i l = l.entries.items ≡ replicate l._i None
