-- The edges so far, and behind them those of the blocks that are left.
use Rattle.std.proofs.Common.{◌≡◌, ◌++◌, map, drop}
use Rattle.std.specs.List.{All}
use Rattle.pliron_text_llvm_edges.specs.Numbers.{in_blocks}
use Rattle.pliron_text_llvm_edges.specs.Successors.{place_of_edge, successors_of_block, LeadsToItsBlock}
use Rattle.pliron_text_llvm_edges.proofs.edges.push_edges.Given as goal

abbrev pub invariant-loop-block : goal.invariant-loop-block
invariant-loop-block l =
    (l.number ≡ l.block-index)
    × (map place_of_edge l.edges.items ++ in_blocks (successors_of_block l.reading.body) l.number (drop l.block-index l.reading.body.blocks.items)
    ≡ in_blocks (successors_of_block l.reading.body) 0 l.reading.body.blocks.items)
    × All (LeadsToItsBlock l.reading) l.edges.items
