use Rattle.std.proofs.Common.{◌≡◌, ◌<◌, ℕ, Some, slice_get}
use Rattle.pliron_core.specs.Tree.{arguments_of}
use Rattle.pliron_opt_dce.specs.Dead.{Item, Arg}
use Rattle.pliron_opt_dce.specs.Readiness.{Among}
use Rattle.pliron_opt_dce.specs.Worklist.{items_of}
use Rattle.pliron_opt_dce.proofs.candidates.push_arguments.Given as goal

abbrev pub invariant-loop-i : goal.invariant-loop-i
invariant-loop-i l = record {
  kept : (x : Item) → Among x (items_of l.initial.worklist.items) → Among x (items_of l.worklist.items);
  added : (j v : ℕ) → j < l.i → slice_get (arguments_of l.ctx.tree l.block) j ≡ Some v → Among (Arg v) (items_of l.worklist.items);
}
