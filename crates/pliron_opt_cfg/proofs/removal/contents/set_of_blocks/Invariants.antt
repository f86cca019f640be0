use Rattle.std.proofs.Common.{◌↔◌, ℕ, take}
use Rattle.pliron_core.specs.Tree.{In}
use Rattle.pliron_opt_cfg.proofs.removal.contents.set_of_blocks.Given as goal

abbrev pub invariant-loop-block : goal.invariant-loop-block
invariant-loop-block l = (k : ℕ) → In k l.set.keys ↔ In k (take l.block-index l.blocks)
