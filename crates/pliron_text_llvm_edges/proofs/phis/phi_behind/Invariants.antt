-- Phis come first in the lines up to here, and so in all if they do in those that are left.
use Rattle.std.proofs.Common.{◌-◌}
use Rattle.pliron_text_llvm_edges.specs.Phis.{ArePhisFirst, HasPhisFirst}
use Rattle.pliron_text_llvm_edges.proofs.phis.phi_behind.Given as goal

abbrev pub invariant-loop-line : goal.invariant-loop-line
invariant-loop-line l =
    ArePhisFirst l.reading.body.lines.items l.at_head l.line (l.fn.block.end - l.line) → HasPhisFirst l.reading.body l.fn.block
