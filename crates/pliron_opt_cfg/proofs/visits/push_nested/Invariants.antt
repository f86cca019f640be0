use Rattle.std.proofs.Common.{◌≡◌, ◌++◌, take}
use Rattle.std.specs.List.{flat_map}
use Rattle.pliron_core.specs.Tree.{regions_of}
use Rattle.pliron_opt_cfg.proofs.visits.push_nested.Given as goal

abbrev pub invariant-loop-op : goal.invariant-loop-op
invariant-loop-op l = l.regions.items ≡ l.fn.regions.items ++ flat_map (λ k. regions_of l.ctx.tree k) (take l.op-index l.op-items)
