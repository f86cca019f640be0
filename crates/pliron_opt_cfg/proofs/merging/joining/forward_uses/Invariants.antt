use Rattle.std.proofs.Common.{◌≡◌, take}
use Rattle.pliron_core.specs.Tree.{arguments_of}
use Rattle.pliron_rewrite_blocks.specs.Pairs.{forwarded_uses}
use Rattle.pliron_opt_cfg.proofs.merging.joining.forward_uses.Given as goal

abbrev pub invariant-loop-i : goal.invariant-loop-i
invariant-loop-i g l = l.ctx.tree ≡ forwarded_uses l.fn.ctx.tree (take l.i (arguments_of l.fn.ctx.tree l.pair.second)) l.pair.values.items
