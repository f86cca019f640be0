-- The steps from `left` on were pushed.
use Rattle.std.proofs.Common.{◌≡◌, ◌≤◌, ◌++◌, drop, length}
use Rattle.std.specs.Prelude.{reverse}
use Rattle.pliron_text_llvm_reader.proofs.steps.push_steps.Given as goal

abbrev pub invariant-loop-left : goal.invariant-loop-left
invariant-loop-left l = (l.left ≤ length l.before) × (reverse l.steps.items ≡ drop l.left l.before ++ reverse l.fn.steps.items)

abbrev pub decreases-loop-left : goal.decreases-loop-left
decreases-loop-left l = l.left
