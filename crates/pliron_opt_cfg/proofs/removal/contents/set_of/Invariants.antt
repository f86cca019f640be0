use Rattle.std.proofs.Common.{◌↔◌, ℕ, take}
use Rattle.pliron_core.specs.Tree.{In}
use Rattle.pliron_opt_cfg.proofs.removal.contents.set_of.Given as goal

abbrev pub invariant-loop-op : goal.invariant-loop-op
invariant-loop-op l = (k : ℕ) → In k l.set.keys ↔ In k (take l.op-index l.ops)
