-- The lines up to here were read; the blocks stay as they are.
use Rattle.std.proofs.Common.{◌≡◌, ◌++◌, map, take}
use Rattle.pliron_text_llvm_reader.specs.Bodies.{line_of, AreRows}
use Rattle.pliron_text_llvm_reader.proofs.body.read_lines.Given as goal

abbrev pub invariant-loop-line : goal.invariant-loop-line
invariant-loop-line l =
    AreRows l.text l.body.lines.items l.body.holes.items
    × (map line_of l.body.lines.items ≡ map line_of l.fn.body.lines.items ++ take l.line-index l.lines)
    × (l.body.blocks ≡ l.fn.body.blocks)
