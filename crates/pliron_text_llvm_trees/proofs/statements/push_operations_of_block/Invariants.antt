-- The operations so far, and behind them those of the lines that are left.
use Rattle.std.proofs.Common.{◌≡◌, ◌-◌, ◌++◌, map}
use Rattle.std.specs.List.{All}
use Rattle.pliron_text_llvm_edges.specs.Numbers.{in_block, numbers_passing}
use Rattle.pliron_text_llvm_trees.specs.Statements.{place_of_statement, is_operation_at, IsTreeStatement}
use Rattle.pliron_text_llvm_trees.proofs.statements.push_operations_of_block.Given as goal

abbrev pub invariant-loop-line : goal.invariant-loop-line
invariant-loop-line l =
    (map place_of_statement l.statements.items ++ in_block l.block (numbers_passing (is_operation_at l.reading.body.lines.items) l.line (l.fn.lines.end - l.line))
    ≡ map place_of_statement l.fn.statements.items ++ in_block l.block (numbers_passing (is_operation_at l.reading.body.lines.items) l.fn.lines.start (l.fn.lines.end - l.fn.lines.start)))
    × All (IsTreeStatement l.text l.reading) l.statements.items
