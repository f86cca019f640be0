-- So many empty lists are there.
use Rattle.std.proofs.Common.{◌≡◌, ◌-◌, ◌≤◌, map, replicate, vec_len, []}
use Rattle.pliron_text_llvm_trees.proofs.arguments.empty_lists.Given as goal

abbrev pub invariant-loop-alloc : goal.invariant-loop-alloc
invariant-loop-alloc l = (map (λ list. list.items) l.lists.items ≡ replicate (vec_len l.lists) []) × (vec_len l.lists ≤ l.count)

abbrev pub decreases-loop-alloc : goal.decreases-loop-alloc
decreases-loop-alloc l = l.count - vec_len l.lists
