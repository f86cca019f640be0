use Rattle.std.proofs.Common.{◌≡◌, ◌<◌, ℕ, Some, slice_get}
use Rattle.pliron_core.specs.Tree.{In, arguments_of, regions_of, block_parent_of}
use Rattle.pliron_opt_dce.specs.Dead.{Item, Arg}
use Rattle.pliron_opt_dce.specs.Readiness.{Among}
use Rattle.pliron_opt_dce.specs.Worklist.{items_of}
use Rattle.pliron_opt_dce.proofs.candidates.push_contents_of.Given as goal

abbrev pub invariant-loop-i : goal.invariant-loop-i
invariant-loop-i l = record {
  kept : (x : Item) → Among x (items_of l.initial.worklist.items) → Among x (items_of l.worklist.items);
  added : (j r b v : ℕ) → j < l.i → slice_get (regions_of l.ctx.tree l.op) j ≡ Some r → block_parent_of l.ctx.tree b ≡ Some r → In v (arguments_of l.ctx.tree b) → Among (Arg v) (items_of l.worklist.items);
}
