use Rattle.std.proofs.Common.{map}
use Rattle.std.specs.List.{All}
use Rattle.pliron_show_mlir.specs.Functions.{IsRunnableAt}
use Rattle.pliron_show_mlir.proofs.runs.functions_inside.Given as goal

abbrev pub invariant-loop-index : goal.invariant-loop-index
invariant-loop-index l = All (IsRunnableAt l.ctx.tree l.fn.root) (map (λ function. function.index) l.functions.items)
