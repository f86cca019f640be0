-- The roles up to here.
use Rattle.std.proofs.Common.{◌≡◌, map, take}
use Rattle.pliron_text_llvm_reader.specs.Bodies.{role_of_line}
use Rattle.pliron_text_llvm_reader.proofs.body.roles_of.Given as goal

abbrev pub invariant-loop-line : goal.invariant-loop-line
invariant-loop-line l = l.roles.items ≡ map role_of_line (take l.line-index l.lines)
