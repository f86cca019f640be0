use Rattle.std.proofs.Common.{◌≡◌, ◌<◌, ℕ, Some, slice_get}
use Rattle.pliron_core.specs.declared.uses.Use.{Use}
use Rattle.pliron_core.specs.Tree.{uses_of}
use Rattle.pliron_laws.specs.Answers.{HeadPasses}
use Rattle.pliron_opt_dce.proofs.predecessors.are_branches.Given as goal

abbrev pub invariant-loop-i : goal.invariant-loop-i
invariant-loop-i g l = (j : ℕ) (e : Use) → j < l.i → slice_get (uses_of l.ctx.block_uses l.block) j ≡ Some e → HeadPasses g.D.HasMeaning.meaning.is_branch l.ctx.tree e.user
