-- The entries up to here are for the blocks that the edges come from.
use Rattle.std.proofs.Common.{◌≡◌, map, take}
use Rattle.pliron_text_llvm_edges.proofs.entries.are_from.Given as goal

abbrev pub invariant-loop-i : goal.invariant-loop-i
invariant-loop-i l = map (λ entry. entry.block) (take l.i l.entries) ≡ map (λ edge. edge.from) (take l.i l.edges)
