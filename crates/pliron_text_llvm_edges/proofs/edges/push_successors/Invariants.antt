-- The edges so far, and behind them those of the holes that are left.
use Rattle.std.proofs.Common.{◌≡◌, ◌-◌, ◌++◌, map}
use Rattle.std.specs.List.{All}
use Rattle.pliron_text_llvm_edges.specs.Numbers.{in_block, numbers_passing}
use Rattle.pliron_text_llvm_edges.specs.Successors.{place_of_edge, is_successor_at, LeadsToItsBlock}
use Rattle.pliron_text_llvm_edges.proofs.edges.push_successors.Given as goal

abbrev pub invariant-loop-hole : goal.invariant-loop-hole
invariant-loop-hole l =
    (map place_of_edge l.edges.items ++ in_block l.from (numbers_passing (is_successor_at l.reading.body.holes.items) l.hole (l.fn.line.end_hole - l.hole))
    ≡ map place_of_edge l.fn.edges.items ++ in_block l.from (numbers_passing (is_successor_at l.reading.body.holes.items) l.fn.line.first_hole (l.fn.line.end_hole - l.fn.line.first_hole)))
    × All (LeadsToItsBlock l.reading) l.edges.items
