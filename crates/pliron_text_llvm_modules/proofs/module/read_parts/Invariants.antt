-- The parts up to here are read.
use Rattle.std.proofs.Common.{◌≡◌, map, take}
use Rattle.std.specs.List.{All}
use Rattle.pliron_text_llvm_modules.specs.Modules.{module_part_of, IsReadPart}
use Rattle.pliron_text_llvm_modules.proofs.module.read_parts.Given as goal

abbrev pub invariant-loop-part : goal.invariant-loop-part
invariant-loop-part l =
    (map module_part_of l.read.items ≡ take l.part-index l.parts) × All (IsReadPart l.text) l.read.items
