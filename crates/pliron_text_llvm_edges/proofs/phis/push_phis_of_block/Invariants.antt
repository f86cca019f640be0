-- The phis so far, and behind them those of the lines that are left.
use Rattle.std.proofs.Common.{◌≡◌, ◌-◌, ◌++◌, map}
use Rattle.std.specs.List.{All}
use Rattle.pliron_text_llvm_edges.specs.Numbers.{in_block, numbers_passing}
use Rattle.pliron_text_llvm_edges.specs.Phis.{place_of_phi, is_phi_at, phis_of_block, FitsIncoming}
use Rattle.pliron_text_llvm_edges.proofs.phis.push_phis_of_block.Given as goal

abbrev pub invariant-loop-line : goal.invariant-loop-line
invariant-loop-line l =
    (map place_of_phi l.phis.items ++ in_block l.block.number (numbers_passing (is_phi_at l.reading.body.lines.items) l.line (l.block.lines.end - l.line))
    ≡ map place_of_phi l.fn.phis.items ++ in_block l.block.number (phis_of_block l.reading.body l.block.lines))
    × All (FitsIncoming l.text l.reading (map (λ list. list.items) l.incoming)) l.phis.items
