use Rattle.std.proofs.Common.{◌≡◌, ◌++◌, take}
use Rattle.std.specs.List.{flat_map}
use Rattle.pliron_core.specs.Tree.{body_of}
use Rattle.pliron_rewrite_calls.proofs.copying.push_all_operations.Given as goal

abbrev pub invariant-loop-i : goal.invariant-loop-i
invariant-loop-i l = l.operations.items ≡ l.fn.operations.items ++ flat_map (λ b. body_of l.ctx.tree b) (take l.i l.blocks)
