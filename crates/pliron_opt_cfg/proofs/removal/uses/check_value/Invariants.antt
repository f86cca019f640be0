use Rattle.pliron_opt_cfg.proofs.CheckLemmas.{AreUsedWithin}
use Rattle.pliron_opt_cfg.proofs.removal.uses.check_value.Given as goal

abbrev pub invariant-loop-i : goal.invariant-loop-i
invariant-loop-i l = AreUsedWithin l.ctx l.inside.keys l.value l.i
