use Rattle.std.proofs.Common.{◌≡◌, ◌++◌, take}
use Rattle.std.specs.List.{flat_map}
use Rattle.pliron_core.specs.Tree.{layout_of, regions_of}
use Rattle.pliron_opt_sccp.proofs.inside.list_each_region.Given as goal

abbrev pub invariant-loop-i : goal.invariant-loop-i
invariant-loop-i l = l.blocks.items ≡ l.initial.blocks.items ++ flat_map (λ r. layout_of l.ctx.tree r) (take l.i (regions_of l.ctx.tree l.fn.op))
