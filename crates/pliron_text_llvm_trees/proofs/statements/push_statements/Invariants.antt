-- The operations so far, and behind them those of the blocks that are left.
use Rattle.std.proofs.Common.{◌≡◌, ◌++◌, map, drop}
use Rattle.std.specs.List.{All}
use Rattle.pliron_text_llvm_edges.specs.Numbers.{in_blocks}
use Rattle.pliron_text_llvm_trees.specs.Statements.{place_of_statement, operations_of_block, IsTreeStatement}
use Rattle.pliron_text_llvm_trees.proofs.statements.push_statements.Given as goal

abbrev pub invariant-loop-block : goal.invariant-loop-block
invariant-loop-block l =
    (l.number ≡ l.block-index)
    × (map place_of_statement l.statements.items ++ in_blocks (operations_of_block l.reading.body) l.number (drop l.block-index l.reading.body.blocks.items)
    ≡ in_blocks (operations_of_block l.reading.body) 0 l.reading.body.blocks.items)
    × All (IsTreeStatement l.text l.reading) l.statements.items
