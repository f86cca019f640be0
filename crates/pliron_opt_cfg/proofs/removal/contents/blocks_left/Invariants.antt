use Rattle.std.proofs.Common.{take}
use Rattle.pliron_opt_cfg.proofs.CheckLemmas.{AreLeft}
use Rattle.pliron_opt_cfg.proofs.removal.contents.blocks_left.Given as goal

abbrev pub invariant-loop-block : goal.invariant-loop-block
invariant-loop-block l = AreLeft (take l.block-index l.block-items) l.reached.keys l.left.items
