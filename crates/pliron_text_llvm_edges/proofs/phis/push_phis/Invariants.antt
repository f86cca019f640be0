-- The phis so far, and behind them those of the blocks that are left.
use Rattle.std.proofs.Common.{◌≡◌, ◌++◌, map, drop, take}
use Rattle.std.specs.List.{All}
use Rattle.pliron_text_llvm_edges.specs.Numbers.{in_blocks}
use Rattle.pliron_text_llvm_edges.specs.Phis.{place_of_phi, phis_of_block, HasPhisFirst, FitsIncoming}
use Rattle.pliron_text_llvm_edges.proofs.phis.push_phis.Given as goal

abbrev pub invariant-loop-block : goal.invariant-loop-block
invariant-loop-block l =
    (l.number ≡ l.block-index)
    × (map place_of_phi l.phis.items ++ in_blocks (phis_of_block l.reading.body) l.number (drop l.block-index l.reading.body.blocks.items)
    ≡ in_blocks (phis_of_block l.reading.body) 0 l.reading.body.blocks.items)
    × All (HasPhisFirst l.reading.body) (take l.block-index l.reading.body.blocks.items)
    × All (FitsIncoming l.text l.reading (map (λ list. list.items) l.incoming)) l.phis.items
