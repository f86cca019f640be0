-- The edges up to here with what they pass.
use Rattle.std.proofs.Common.{map, take}
use Rattle.pliron_text_llvm_trees.specs.Passed.{AreTreeEdges}
use Rattle.pliron_text_llvm_trees.proofs.passed.push_tree_edges.Given as goal

abbrev pub invariant-loop-edge : goal.invariant-loop-edge
invariant-loop-edge l =
    AreTreeEdges l.found.phis.items (map (λ list. list.items) l.by_block) (take l.edge-index l.found.edges.items) l.edges.items
